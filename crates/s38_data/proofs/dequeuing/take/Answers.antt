use Rattle.std.proofs.Common.{subst, sym}
use Rattle.s38_rules.specs.families.Queues.{left_by}
use Rattle.s38_rules.specs.state.Held.{Held}
use Rattle.s38_rules.specs.state.Kept.{Mirrors}
use Rattle.s38_changes.proofs.KeptLaws.{queue_kept}
use Rattle.s38_data.proofs.dequeuing.take.Goals as goal

pub invariant_of-world : goal.invariant_of-world
invariant_of-world c = (
  c.world.invariant.0,
  subst (λ (h : Held). Mirrors c.world.inside.profiles h) (sym c.take_in.ensures)
      (queue_kept c.world.inside.profiles c.world.inside.objects c.args.number.0 (left_by c.args.relation c.args.key.now) c.world.invariant.1),
)
