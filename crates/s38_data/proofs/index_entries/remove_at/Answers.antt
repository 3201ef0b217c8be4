use Rattle.std.proofs.Common.{subst, sym}
use Rattle.s38_rules.specs.state.Held.{Held}
use Rattle.s38_rules.specs.families.Indexes.{removed}
use Rattle.s38_rules.specs.state.Kept.{Mirrors}
use Rattle.s38_changes.proofs.KeptLaws.{index_kept}
use Rattle.s38_data.proofs.index_entries.remove_at.Goals as goal

pub invariant_of-world : goal.invariant_of-world
invariant_of-world c = (
  c.world.invariant.0,
  subst (λ (h : Held). Mirrors c.world.inside.profiles h) (sym c.remove_in.ensures)
      (index_kept c.world.inside.profiles c.world.inside.objects c.args.number.0 (removed c.args.entry.now) c.world.invariant.1),
)
