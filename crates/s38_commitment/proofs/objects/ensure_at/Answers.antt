use Rattle.std.proofs.Common.{subst, sym}
use Rattle.s38_rules.specs.state.Held.{Held}
use Rattle.s38_rules.specs.state.Kept.{Mirrors}
use Rattle.s38_commitment.proofs.CommitmentLaws.{ensured_kept}
use Rattle.s38_commitment.proofs.objects.ensure_at.Goals as goal

pub invariant_of-world : goal.invariant_of-world
invariant_of-world c = (
  c.world.invariant.0,
  subst (λ (h : Held). Mirrors c.world.inside.profiles h) (sym c.ensure.ensures)
      (ensured_kept c.world.inside.profiles c.world.inside.objects c.args.number.0 c.world.invariant.1),
)
