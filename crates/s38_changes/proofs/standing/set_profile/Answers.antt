use Rattle.s38_changes.proofs.StandingLaws.{profile_set}
use Rattle.s38_rules.specs.state.Held.{Held}
use Rattle.s38_rules.specs.state.Kept.{Mirrors}
use Rattle.std.proofs.Common.{subst, sym, ◌∙◌}
use Rattle.s38_changes.proofs.standing.set_profile.Goals as goal

pub invariant_of-world : goal.invariant_of-world
invariant_of-world c = (
  c.world.invariant.0,
  subst (λ (h : Held). Mirrors c.enter-result.new.self h) (sym c.set_profile.ensures)
      (profile_set c.world.inside.profiles c.enter-result.new.self c.world.inside.objects c.args.number.0 c.args.special c.args.limit _ c.enter-result.result (sym c.has.ensures ∙ c.if-has.true)
      c.enter-result.ensures.ok c.enter-result.ensures.others c.enter-result.ensures.added c.world.invariant.1),
)
