-- Quotients of whole numbers with a scale.
use Rattle.std.proofs.Common.{◌≡◌, ℕ, ◌+◌, ◌-◌, ◌*◌, ◌^◌, ◌<◌, ◌≤◌, Bool, ℤ, pos, negsuc, ◌*ℤ◌, refl, ap, sym, ◌∙◌, arith}
use Rattle.std.specs.Prelude.{IsTrue, unsigned_abs}
use Rattle.std.specs.Int.{int_signum}
use Rattle.std.proofs.lemmas.Int.{unsigned_abs-mul}
use Rattle.std.proofs.lemmas.Nat.{pow-add}
use Rattle.std.proofs.Math.Nat.{one-le-pow, mul_comm, mul_assoc}
use Rattle.s38_base.specs.declared.attr.Attr.{Attr}
use Rattle.s38_base.specs.Scalar.{fits}
use Rattle.s38_base.specs.Attributes.{digits_of, fraction_of}
use Rattle.s38_decimal.specs.Need.{quotient_need}
use Rattle.s38_decimal.specs.Values.{cut_or_rounded, exact, quotient_of, units_at, with_sign}
use Rattle.s38_decimal.proofs.Attributes.{fits_below}
use Rattle.s38_decimal.proofs.Integers.{swap_factors}
use Rattle.s38_decimal.proofs.ProductLaws.{with_sign-scale}
use Rattle.s38_decimal.proofs.Rooms.{raised_le}

-- the sign of a number that is not 0 is 1 or -1
pub sign_abs : (b : ℤ) → 0 < unsigned_abs b → unsigned_abs (int_signum b) ≡ 1
sign_abs (pos n) h = omega arith
sign_abs (negsuc n) h = refl

pub turned_abs : (a b : ℤ) → 0 < unsigned_abs b → unsigned_abs (a *ℤ int_signum b) ≡ unsigned_abs a
turned_abs a b h = unsigned_abs-mul a (int_signum b) ∙ ap (λ n. unsigned_abs a * n) (sign_abs b h) ∙ omega arith

pub quotient_units : (round : Bool) (r f g : ℕ) (a b : ℤ) → with_sign (a *ℤ int_signum b) (cut_or_rounded round (unsigned_abs (a *ℤ int_signum b) * 10 ^ (r + g)) (unsigned_abs b * 10 ^ f)) ≡ units_at round r (quotient_of (exact a f) (exact b g))
quotient_units round r f g a b =
    let t = a *ℤ int_signum b in
    let top : t *ℤ pos (10 ^ g) ≡ a *ℤ pos (10 ^ g) *ℤ int_signum b = sym (swap_factors a (int_signum b) (10 ^ g)) in
    let n : unsigned_abs t * 10 ^ (r + g) ≡ unsigned_abs (t *ℤ pos (10 ^ g)) * 10 ^ r =
    ap (λ p. unsigned_abs t * p) (pow-add 10 r g ∙ mul_comm (10 ^ r) (10 ^ g)) ∙ sym (mul_assoc (unsigned_abs t) (10 ^ g) (10 ^ r))
    ∙ ap (λ k. k * 10 ^ r) (sym (unsigned_abs-mul t (pos (10 ^ g)))) in
    ap (λ k. with_sign t (cut_or_rounded round k (unsigned_abs b * 10 ^ f))) n
    ∙ sym (with_sign-scale t (10 ^ g) _ (one-le-pow g 10 (omega arith)))
    ∙ ap (λ z. with_sign z (cut_or_rounded round (unsigned_abs z * 10 ^ r) (unsigned_abs b * 10 ^ f))) top
    ∙ ap (λ m. with_sign (a *ℤ pos (10 ^ g) *ℤ int_signum b) (cut_or_rounded round (unsigned_abs (a *ℤ pos (10 ^ g) *ℤ int_signum b) * 10 ^ r) m)) (mul_comm (unsigned_abs b) (10 ^ f))

pub quotient_top : (a b to : Attr) (x y : ℤ) → IsTrue (fits a x) → 0 < unsigned_abs y → quotient_need a b to ≤ 38 → unsigned_abs (x *ℤ int_signum y) * 10 ^ (fraction_of to + fraction_of b - fraction_of a) ≤ 10 ^ 38
quotient_top a b to x y h divisor need =
    omega (
      arith,
      ap (λ n. n * 10 ^ (fraction_of to + fraction_of b - fraction_of a)) (turned_abs x y divisor),
      raised_le (unsigned_abs x) (digits_of a) (fraction_of to + fraction_of b - fraction_of a) 38 (fits_below a x h) (omega arith),
    )

pub quotient_bottom : (a b to : Attr) (y : ℤ) → IsTrue (fits b y) → quotient_need a b to ≤ 38 → unsigned_abs y * 10 ^ (fraction_of a - (fraction_of to + fraction_of b)) ≤ 10 ^ 38
quotient_bottom a b to y h need =
    raised_le (unsigned_abs y) (digits_of b) (fraction_of a - (fraction_of to + fraction_of b)) 38 (fits_below b y h) (omega arith)
