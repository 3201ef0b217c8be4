use Rattle.std.proofs.Common.{sym, ◌∙◌, ap}
use Rattle.std.specs.Option.{option_copied}
use Rattle.s38_commits.proofs.PlaceLaws.{block_read}
use Rattle.s38_commits.proofs.units.Units.block_of.Goals as goal

pub returns-in-Some : goal.returns-in-Some
returns-in-Some c =
    let m = c.self.inside in
    block_read m.units.entries c.args.self.now m.places c.args.space.0 c.args.at c.place_of.result _ c.self.invariant c.self.view_is c.place_of.ensures (sym (ap option_copied c.in-Some.is) ∙ c.get.ensures.value)

pub returns-in-None : goal.returns-in-None
returns-in-None c =
    let m = c.self.inside in
    block_read m.units.entries c.args.self.now m.places c.args.space.0 c.args.at c.place_of.result _ c.self.invariant c.self.view_is c.place_of.ensures (sym (ap option_copied c.in-None.is) ∙ c.get.ensures.value)
