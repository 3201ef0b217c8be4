-- What the bounds of a numeric attribute give.
use Rattle.std.proofs.Common.{◌≡◌, ℕ, ◌^◌, ◌<◌, ◌≤◌, ℤ, pos, negsuc, neg_ℤ, true, zero, suc, refl, ap, ◌∙◌, ◌⊎◌, inl, inr, ⊎_elim, subst, sym, rules, arith, tests}
use Rattle.std.specs.Prelude.{IsTrue, unsigned_abs}
use Rattle.std.proofs.lemmas.Bool.Decides.{nat_tests}
use Rattle.std.proofs.lemmas.Bool.{cases_eq}
use Rattle.s38_base.specs.declared.attr.Attr.{Attr}
use Rattle.s38_base.specs.declared.attr.Attr.TheVariants.{Packed, Zoned, Binary, Chars, Pointer}
use Rattle.s38_base.specs.Scalar.{fits, fits_bytes}
use Rattle.s38_base.specs.Attributes.{digits_of, fraction_of, is_numeric}
use Rattle.s38_decimal.specs.Forms.{IsOf, is_decimal}
use Rattle.s38_decimal.specs.Need.{has_one_fraction}
use Rattle.s38_decimal.proofs.Powers.{tens_le}
use Rattle.s38_decimal.proofs.Rooms.{same}
use Rattle.std.specs.Int.{w128, cast_signed, cast_unsigned}

pub digits_few : (attr : Attr) → IsTrue (is_numeric attr) → digits_of attr ≤ 31
digits_few (Packed digits fraction) h = search (rules, tests)
digits_few (Zoned digits fraction) h = search (rules, tests)
digits_few (Binary size) h = search (rules, tests)
digits_few (Chars len) h = search rules
digits_few Pointer h = search rules

pub two_or_four : (size : ℕ) → IsTrue (is_numeric (Binary size)) → (size ≡ 2) ⊎ (size ≡ 4)
two_or_four size h = ⊎_elim (λ e. inl e) (λ ne. inr (grind (arith, nat_tests))) (cases_eq size 2)

-- 16 bits are less than five digits, and 32 less than ten
two_below : (z : ℤ) → IsTrue (fits_bytes 2 z) → unsigned_abs z < 10 ^ 5
two_below (pos n) h = search (rules, tests)
two_below (negsuc n) h = search (rules, tests)

four_below : (z : ℤ) → IsTrue (fits_bytes 4 z) → unsigned_abs z < 10 ^ 10
four_below (pos n) h = search (rules, tests)
four_below (negsuc n) h = search (rules, tests)

binary_below : (size : ℕ) (z : ℤ) → IsTrue (is_numeric (Binary size)) → IsTrue (fits_bytes size z) → unsigned_abs z < 10 ^ digits_of (Binary size)
binary_below size z numeric h =
    let P : ℕ → Type 0 = λ s. IsTrue (fits_bytes s z) → unsigned_abs z < 10 ^ digits_of (Binary s) in
    ⊎_elim (λ e. subst P (sym e) (two_below z) h) (λ e. subst P (sym e) (four_below z) h) (two_or_four size numeric)

-- a number that fits has so many digits at most
pub fits_below : (attr : Attr) (z : ℤ) → IsTrue (fits attr z) → unsigned_abs z < 10 ^ digits_of attr
unfolding fits
fits_below (Packed digits fraction) z h = search (rules, tests)
fits_below (Zoned digits fraction) z h = search (rules, tests)
fits_below (Binary size) z h = binary_below size z (search rules) (search rules)
fits_below (Chars len) z h = search rules
fits_below Pointer z h = search rules

-- one of up to 18 digits
pub short_below : (digits fraction : ℕ) (z : ℤ) → digits ≤ 18 → IsTrue (fits (Packed digits fraction) z) → unsigned_abs z < 10 ^ 18
short_below digits fraction z few h = omega (arith, fits_below (Packed digits fraction) z h, tens_le digits 18 few)

pub fits_numeric : (attr : Attr) (z : ℤ) → IsTrue (fits attr z) → IsTrue (is_numeric attr)
unfolding fits
fits_numeric attr z h = search rules

-- no more digits are after the point than there are
pub fraction_le : (attr : Attr) → IsTrue (is_numeric attr) → fraction_of attr ≤ digits_of attr
fraction_le (Packed digits fraction) h = search (rules, tests)
fraction_le (Zoned digits fraction) h = search (rules, tests)
fraction_le (Binary size) h = search (rules, tests)
fraction_le (Chars len) h = search rules
fraction_le Pointer h = search rules

-- a number that fits goes through a machine word unchanged
pub fits_same : (attr : Attr) (z : ℤ) → IsTrue (fits attr z) → cast_signed w128 (cast_unsigned w128 z) ≡ z
fits_same attr z h = same z (omega (arith, fits_below attr z h, tens_le (digits_of attr) 38 (omega (arith, digits_few attr (fits_numeric attr z h)))))

pub IsOf-small : (attr : Attr) (z : ℤ) → IsOf attr z → unsigned_abs z ≤ 10 ^ 38
IsOf-small attr z h = omega (arith, h.digits, tens_le (digits_of attr) 38 (omega (arith, digits_few attr h.numeric)))

-- a number as it reaches a call
pub IsOf-word : (attr : Attr) (top z : ℤ) → top ≡ z → IsOf attr z → IsOf attr (cast_signed w128 (cast_unsigned w128 top))
IsOf-word attr top z is h =
    subst (IsOf attr) (sym (ap (λ t. cast_signed w128 (cast_unsigned w128 t)) is ∙ same z (IsOf-small attr z h))) h

pub IsOf-fits : (attr : Attr) (z : ℤ) → IsTrue (fits attr z) → IsOf attr z
IsOf-fits attr z h = record { numeric = fits_numeric attr z h; digits = fits_below attr z h }

pub IsOf-negative : (attr : Attr) (z : ℤ) → IsOf attr z → IsOf attr (neg_ℤ z)
IsOf-negative attr z h = record { numeric = h.numeric; digits = omega (arith, h.digits, abs_negative z) }
  where
    abs_negative : (y : ℤ) → unsigned_abs (neg_ℤ y) ≡ unsigned_abs y
    abs_negative (pos zero) = refl
    abs_negative (pos (suc n)) = refl
    abs_negative (negsuc n) = refl

-- what is compared: 31 digits at most, and no more after the point
pub fits_magnitude : (attr : Attr) (z : ℤ) (n : ℕ) → IsTrue (fits attr z) → n ≡ unsigned_abs (cast_signed w128 (cast_unsigned w128 z)) → n < 10 ^ 31
fits_magnitude attr z n h is =
    omega (arith, is, ap unsigned_abs (fits_same attr z h), fits_below attr z h, tens_le (digits_of attr) 31 (digits_few attr (fits_numeric attr z h)))

pub fits_fraction : (attr : Attr) (z : ℤ) (n : ℕ) → IsTrue (fits attr z) → n ≡ fraction_of attr → n ≤ 31
fits_fraction attr z n h is = omega (arith, is, fraction_le attr (fits_numeric attr z h), digits_few attr (fits_numeric attr z h))

pub IsOf-few : (attr : Attr) (z : ℤ) → IsOf attr z → unsigned_abs z < 10 ^ 31
IsOf-few attr z h = omega (arith, h.digits, tens_le (digits_of attr) 31 (digits_few attr h.numeric))

-- what the test of the fractions says
pub first_fraction : (a b to : Attr) → has_one_fraction a b to ≡ true → fraction_of a ≡ fraction_of to
first_fraction a b to h = grind (arith, nat_tests)

pub second_fraction : (a b to : Attr) → has_one_fraction a b to ≡ true → fraction_of b ≡ fraction_of to
second_fraction a b to h = grind (arith, nat_tests)
