use Rattle.std.proofs.Common.{subst, sym}
use Rattle.s38_rules.specs.state.Held.{Held}
use Rattle.s38_rules.specs.state.Kept.{Mirrors}
use Rattle.s38_space_map.specs.Forcings.{all_forced}
use Rattle.s38_machine.proofs.StoredLaws.{all_mirrored}
use Rattle.s38_machine.proofs.storing.keep_these.Goals as goal

pub invariant_of-world : goal.invariant_of-world
invariant_of-world c = (
  c.world.invariant.0,
  subst (λ (h : Held). Mirrors c.world.inside.profiles h) (sym c.keep_each.ensures)
      (all_mirrored c.world.inside.profiles c.world.inside.objects (all_forced c.as_slice.result.now) c.world.invariant.1),
)
