use Rattle.std.proofs.Common.{◌≡◌, sym, ap, ◌∙◌}
use Rattle.std.specs.Prelude.{Option, Some}
use Rattle.std.specs.Option.{option_map}
use Rattle.s38_base.specs.declared.id.ObjNum.{ObjNum}
use Rattle.s38_rules.specs.state.Journaling.{journal_for}
use Rattle.s38_units.specs.Logging.{journal_logged}
use Rattle.s38_units.proofs.KeptLaws.{journal_left}
use Rattle.s38_units.proofs.UnitLaws.{logged_ok}
use Rattle.s38_units.proofs.logging.log_change.Goals as goal

pub invariant_of-world : goal.invariant_of-world
invariant_of-world c = (
  c.world.invariant.0,
  journal_left c.world.inside.profiles c.world.inside.objects c.log_in.new.objects c.in-Some.journal.0
      (journal_logged c.world.inside.objects c.world.inside.units c.args.process c.args.block.0 c.args.change.now c.in-Some.journal.0)
      c.log_in.result c.log_in.ensures.objects c.log_in.ensures.objects_left c.world.invariant.1,
)

pub returns-in-Some-clause-ok : goal.returns-in-Some-clause-ok
returns-in-Some-clause-ok c =
    let there : journal_for c.world.inside.objects c.args.change.now.space.0 ≡ Some c.in-Some.journal.0 =
    sym c.journal_for.ensures ∙ ap (λ (o : Option ObjNum). option_map (λ n. n.0) o) c.in-Some.is in
    rw (← c.world.view_is)
    (logged_ok _ c.args.process c.args.block.0 c.in-Some.journal.0 c.args.change.now c.log_in.result c.log_in.new.objects c.log_in.new.units there
    c.log_in.ensures.objects c.log_in.ensures.units)
