use Rattle.std.proofs.Common.{◌∙◌, ap}
use Rattle.std.specs.Prelude.{Some, None}
use Rattle.s38_commits.proofs.PlaceLaws.{holder_read, process_at}
use Rattle.s38_commits.proofs.units.Units.holder.Goals as goal

pub returns-in_err-block : goal.returns-in_err-block
returns-in_err-block c =
    let m = c.self.inside in
    c.from_residual.ensures
    ∙ holder_read m.units.entries c.args.self.now m.places c.args.space.0 c.args.at c.place_of.result None c.self.invariant c.self.view_is c.place_of.ensures c.in_err-block.ensures.value

pub returns-in_err-unit : goal.returns-in_err-unit
returns-in_err-unit c =
    let m = c.self.inside in
    let block = c.in_ok-block.block.now in
    c.from_residual-in_err-unit.ensures ∙ ap (process_at block) c.in_err-unit.ensures.value
    ∙ holder_read m.units.entries c.args.self.now m.places c.args.space.0 c.args.at c.place_of.result (Some block) c.self.invariant c.self.view_is c.place_of.ensures c.in_ok-block.ensures.value

pub returns : goal.returns
returns c =
    let m = c.self.inside in
    let block = c.in_ok-block.block.now in
    ap Some c.process.ensures ∙ ap (process_at block) c.in_ok-unit.ensures.value
    ∙ holder_read m.units.entries c.args.self.now m.places c.args.space.0 c.args.at c.place_of.result (Some block) c.self.invariant c.self.view_is c.place_of.ensures c.in_ok-block.ensures.value
