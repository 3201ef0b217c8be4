use Rattle.std.proofs.Common.{◌≡◌, true, false, sym, ◌∙◌}
use Rattle.std.specs.Prelude.{Some}
use Rattle.s38_rules.specs.state.Held.{is_named}
use Rattle.s38_objects.proofs.PlaceLaws.{renamed_left, renamed_same}
use Rattle.s38_objects.proofs.names.change.Goals as goal

pub returns-then-is_found_by-clause-ok : goal.returns-then-is_found_by-clause-ok
returns-then-is_found_by-clause-ok c =
    let o = c.args.object.now in
    let on : is_named c.args.context.0 c.args.id.now o ≡ true = sym c.is_found_by.ensures ∙ c.if-is_found_by.true in
    renamed_same o c.args.context c.args.id.now (Some o.number.0) c.args.names.now c.enter.new.names on c.in-Ok.ensures.ok

pub returns-clause-ok : goal.returns-clause-ok
returns-clause-ok c =
    let o = c.args.object.now in
    let off : is_named c.args.context.0 c.args.id.now o ≡ false = sym c.is_found_by.ensures ∙ c.if-is_found_by.false in
    renamed_left o c.args.context c.args.id.now (Some o.number.0) c.args.names.now c.enter.new.names c.leave.new.names off c.in-Ok.ensures.ok c.leave.ensures
