-- What an attribute holds is far below what 127 bits hold.
use Rattle.std.proofs.Common.{◌≡◌, ℕ, ℤ, pos, negsuc, ◌^◌, ◌<◌, ◌≤◌, ◌⊎◌, inl, inr, ⊎_elim, subst, sym, rules, arith, tests}
use Rattle.std.specs.Prelude.{IsTrue, unsigned_abs}
use Rattle.std.proofs.Math.Nat.{pow-le-pow_right}
use Rattle.std.proofs.lemmas.Bool.{cases_eq}
use Rattle.std.proofs.lemmas.Bool.Decides.{nat_tests}
use Rattle.s38_base.specs.Scalar.{fits, fits_bytes}
use Rattle.s38_base.specs.Attributes.{is_numeric}
use Rattle.s38_base.specs.declared.attr.Attr.{Attr}
use Rattle.s38_base.specs.declared.attr.Attr.TheVariants.{Packed, Zoned, Binary, Chars, Pointer}

-- a power of ten is at most a greater one
pub tens_le : (i j : ℕ) → i ≤ j → 10 ^ i ≤ 10 ^ j
tens_le i j h = pow-le-pow_right {n = 10} (omega arith) h

digits-small : (digits n : ℕ) → digits ≤ 31 → n < 10 ^ digits → n < 2 ^ 127
digits-small digits n few small = omega (arith, tens_le digits 31 few)

two_or_four : (size : ℕ) → IsTrue (is_numeric (Binary size)) → (size ≡ 2) ⊎ (size ≡ 4)
two_or_four size h = ⊎_elim (λ e. inl e) (λ ne. inr (grind (arith, nat_tests))) (cases_eq size 2)

two_small : (z : ℤ) → IsTrue (fits_bytes 2 z) → unsigned_abs z < 2 ^ 127
two_small (pos n) h = search (rules, tests)
two_small (negsuc n) h = search (rules, tests)

four_small : (z : ℤ) → IsTrue (fits_bytes 4 z) → unsigned_abs z < 2 ^ 127
four_small (pos n) h = search (rules, tests)
four_small (negsuc n) h = search (rules, tests)

binary_small : (size : ℕ) (z : ℤ) → IsTrue (is_numeric (Binary size)) → IsTrue (fits_bytes size z) → unsigned_abs z < 2 ^ 127
binary_small size z numeric h =
    let P : ℕ → Type 0 = λ s. IsTrue (fits_bytes s z) → unsigned_abs z < 2 ^ 127 in
    ⊎_elim (λ e. subst P (sym e) (two_small z) h) (λ e. subst P (sym e) (four_small z) h) (two_or_four size numeric)

pub fits-small : (attr : Attr) (z : ℤ) → IsTrue (fits attr z) → unsigned_abs z < 2 ^ 127
unfolding fits
fits-small (Packed digits fraction) z h = digits-small digits (unsigned_abs z) (search (rules, tests)) (search (rules, tests))
fits-small (Zoned digits fraction) z h = digits-small digits (unsigned_abs z) (search (rules, tests)) (search (rules, tests))
fits-small (Binary size) z h = binary_small size z (search rules) (search rules)
fits-small (Chars len) z h = search rules
fits-small Pointer z h = search rules
