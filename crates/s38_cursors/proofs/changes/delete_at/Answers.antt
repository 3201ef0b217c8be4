use Rattle.std.proofs.Common.{subst, sym}
use Rattle.std.specs.Prelude.{None}
use Rattle.s38_rules.specs.families.EntryChanges.{with_changed}
use Rattle.s38_rules.specs.state.Held.{Held}
use Rattle.s38_rules.specs.state.Kept.{Mirrors}
use Rattle.s38_cursors.proofs.CursorLaws.{table_kept}
use Rattle.s38_cursors.proofs.changes.delete_at.Goals as goal

pub invariant_of-world : goal.invariant_of-world
invariant_of-world c = (
  c.world.invariant.0,
  subst (λ (h : Held). Mirrors c.world.inside.profiles h) (sym c.delete_in.ensures)
      (table_kept c.world.inside.profiles c.world.inside.objects c.args.number.0 (with_changed c.args.at None) c.world.invariant.1),
)
