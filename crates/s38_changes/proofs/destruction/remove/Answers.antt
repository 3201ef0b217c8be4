use Rattle.std.proofs.Common.{◌≡◌, ℕ, ap, subst, sym, ◌∙◌}
use Rattle.std.specs.Prelude.{Some}
use Rattle.s38_profiles.specs.Rows.{row_at, row_key}
use Rattle.s38_rules.specs.state.Held.{Held, object}
use Rattle.s38_rules.specs.state.Kept.{Mirrors}
use Rattle.s38_rules.proofs.ChargeLaws.{found_number}
use Rattle.s38_changes.proofs.KeptLaws.{rows_read}
use Rattle.s38_changes.proofs.StandingLaws.{forgotten, none_gone}
use Rattle.s38_changes.proofs.destruction.remove.Goals as goal

pub invariant_of-world : goal.invariant_of-world
invariant_of-world c = (
  c.world.invariant.0,
  subst (λ (h : Held). Mirrors c.world.inside.profiles h)
      (sym (c.remove.ensures.rest ∙ none_gone c.world.inside.objects c.args.number.0 (sym c.remove.ensures.object ∙ c.in_default.is))) c.world.invariant.1,
)

pub forget-requires : goal.forget-requires
forget-requires c =
    let found : object c.world.inside.objects c.args.number.0 ≡ Some c.in-Some.object = sym c.remove.ensures.object ∙ c.in-Some.is in
    λ user. ap (λ (k : ℕ). row_at c.world.inside.profiles.rows (row_key user k)) (found_number c.args.number.0 c.in-Some.object c.world.inside.objects.objects found)
    ∙ rows_read c.world.inside.profiles c.world.inside.objects c.args.number.0 c.in-Some.object found c.world.invariant.1 user

pub invariant_of-world-2 : goal.invariant_of-world-2
invariant_of-world-2 c = (
  c.world.invariant.0,
  subst (λ (h : Held). Mirrors c.forget.new.profiles h) (sym c.remove.ensures.rest)
      (forgotten c.world.inside.profiles c.forget.new.profiles c.world.inside.objects c.args.number.0 c.in-Some.object c.len-count.ensures.lawful (sym c.remove.ensures.object ∙ c.in-Some.is)
      c.forget.ensures.rows c.forget.ensures.users c.world.invariant.1),
)
