use Rattle.std.proofs.Common.{ap, sym, ◌∙◌, pos}
use Rattle.std.specs.Prelude.{unsigned_abs}
use Rattle.s38_decimal.specs.Need.{scale_need}
use Rattle.s38_decimal.proofs.ProductLaws.{power_down, power_up}
use Rattle.std.specs.Prelude.{int_le, ℤ, ◌≤◌}
use Rattle.std.specs.Int.{w8}
use Rattle.std.proofs.Common.{subst}
use Rattle.std.proofs.lemmas.Int.{to_z-of_z}
use Rattle.s38_decimal.specs.Values.{answer, exact_of, scaled_by}
use Rattle.s38_decimal.proofs.products.scale.Goals as goal

pub times_ten-requires : goal.times_ten-requires
times_ten-requires c =
    let p = to_z-of_z w8 c.args.power c.ranges.power in
    let P : ℤ → Type 0 = λ k. scale_need c.args.a.attr c.args.to.attr k ≤ 38 in
    subst P (power_up c.args.power _ (c.unsigned_abs-zeros.ensures.value ∙ ap unsigned_abs p) (ap (int_le (pos 0)) (sym p) ∙ c.if-power-ge0.true)) c.requires

pub returns-then-power-ge0-clause-exact : goal.returns-then-power-ge0-clause-exact
returns-then-power-ge0-clause-exact c =
    let p = to_z-of_z w8 c.args.power c.ranges.power in
    let e = power_up c.args.power _ (c.unsigned_abs-zeros.ensures.value ∙ ap unsigned_abs p) (ap (int_le (pos 0)) (sym p) ∙ c.if-power-ge0.true) in
    c.times_ten.ensures.exact ∙ ap (λ k. answer c.args.to (scaled_by (exact_of c.args.a) k)) (sym e)

pub by_ten-requires : goal.by_ten-requires
by_ten-requires c =
    let p = to_z-of_z w8 c.args.power c.ranges.power in
    let P : ℤ → Type 0 = λ k. scale_need c.args.a.attr c.args.to.attr k ≤ 38 in
    let e = power_down c.args.power _ (c.unsigned_abs-zeros.ensures.value ∙ ap unsigned_abs p) (ap (int_le (pos 0)) (sym p) ∙ c.if-power-ge0.false) in
    record { some = e.0; need = subst P e.1 c.requires }

pub returns-else-power-ge0-clause-exact : goal.returns-else-power-ge0-clause-exact
returns-else-power-ge0-clause-exact c =
    let p = to_z-of_z w8 c.args.power c.ranges.power in
    let e = power_down c.args.power _ (c.unsigned_abs-zeros.ensures.value ∙ ap unsigned_abs p) (ap (int_le (pos 0)) (sym p) ∙ c.if-power-ge0.false) in
    c.by_ten.ensures.exact ∙ ap (λ k. answer c.args.to (scaled_by (exact_of c.args.a) k)) (sym e.1)
