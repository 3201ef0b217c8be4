-- A number that is too large is not held.
use Rattle.std.proofs.Common.{◌≡◌, ℕ, ℤ, zero, suc, ◌-◌, ◌^◌, ◌<◌, ◌&&◌, Bool, true, false, cond, List, Option, Some, None, min, refl, ap, arith}
use Rattle.std.specs.Prelude.{unsigned_abs}
use Rattle.s38_base.specs.Scalar.{fits, fits_size, scalar_image, with_minus}
use Rattle.s38_base.specs.Attributes.{is_numeric}
use Rattle.s38_base.specs.declared.attr.Attr.{Attr}
use Rattle.s38_words.specs.declared.numbers.Numeral.{Numeral}
use Rattle.s38_odt.specs.First.{is_exact, is_negative, magnitude_in, number_held, units_held, units_in}
use Rattle.s38_odt.proofs.Powers.{fits-small}

unsigned_abs-with_minus : (minus : Bool) (n : ℕ) → unsigned_abs (with_minus minus n) ≡ n
unsigned_abs-with_minus false n = refl
unsigned_abs-with_minus true zero = refl
unsigned_abs-with_minus true (suc n) = refl

units_held-large : (attr : Attr) (z : ℤ) → 2 ^ 127 - 1 < unsigned_abs z → units_held attr z ≡ None
units_held-large attr z large =
    let by_test : (b : Bool) → fits attr z ≡ b → cond b (Some (scalar_image attr z)) None ≡ None =
    λ b. elim b as (λ b. fits attr z ≡ b → cond b (Some (scalar_image attr z)) None ≡ None) [
      | true ↦ λ e. let small : unsigned_abs z < 2 ^ 127 = fits-small attr z e in absurd (omega arith)
      | false ↦ λ e. refl
    ] in
    by_test (fits attr z) refl

none-cond : (b : Bool) (o : Option (List ℕ)) → o ≡ None → cond b o None ≡ None
none-cond true o h = h
none-cond false o h = refl

pub number_held-large : (attr : Attr) (n : Numeral) (m : ℕ) → m ≡ min (magnitude_in attr n) (2 ^ 128 - 1) → 2 ^ 127 - 1 < m → number_held attr n ≡ None
unfolding number_held
number_held-large attr n m is large =
    none-cond (is_exact attr n) (units_held attr (units_in attr n))
    (units_held-large attr (units_in attr n)
    (let same : unsigned_abs (units_in attr n) ≡ magnitude_in attr n = unsigned_abs-with_minus (is_negative n.units) (magnitude_in attr n) in omega arith))

units_held-other : (attr : Attr) (z : ℤ) → is_numeric attr ≡ false → units_held attr z ≡ None
unfolding fits
units_held-other attr z h = ap (λ b. cond (b && fits_size attr z) (Some (scalar_image attr z)) None) h

pub number_held-other : (attr : Attr) (n : Numeral) → is_numeric attr ≡ false → number_held attr n ≡ None
unfolding number_held
number_held-other attr n h = none-cond (is_exact attr n) (units_held attr (units_in attr n)) (units_held-other attr (units_in attr n) h)
