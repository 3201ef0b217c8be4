-- Lengths and fractions of numbers, and what has no value.
use Rattle.std.proofs.Common.{◌≡◌, ℕ, ◌<◌, ◌≤◌, ◌^◌, false, List, [], refl, arith, IsTrue}
use Rattle.std.specs.Prelude.{ℤ, None}
use Rattle.std.proofs.lemmas.Bool.Decides.{nat_tests}
use Rattle.std.proofs.Math.Nat.{one-le-pow}
use Rattle.s38_base.specs.declared.attr.Attr.{Attr}
use Rattle.s38_base.specs.declared.attr.Attr.TheVariants.{Packed, Zoned, Binary, Chars, Pointer}
use Rattle.s38_base.specs.Scalar.{fits, value_of}
use Rattle.s38_base.specs.Attributes.{fraction_of, is_numeric, length_of}

-- a number has 1 to 31 bytes
pub numeric_length : (a : Attr) → IsTrue (is_numeric a) → (1 ≤ length_of a) × (length_of a ≤ 31)
numeric_length (Packed digits fraction) h = (omega arith, grind (arith, nat_tests, h))
numeric_length (Zoned digits fraction) h = (grind (arith, nat_tests, h), grind (arith, nat_tests, h))
numeric_length (Binary size) h = (grind (arith, nat_tests, h), grind (arith, nat_tests, h))
numeric_length (Chars len) h = cc
numeric_length Pointer h = cc

-- no bytes have no value
pub no_value : (a : Attr) → value_of a [] ≡ None
unfolding value_of
no_value (Packed digits fraction) = grind (arith, nat_tests)
no_value (Zoned digits fraction) = grind (arith, nat_tests)
no_value (Binary size) = grind (arith, nat_tests)
no_value (Chars len) = refl
no_value Pointer = refl

-- what is no number has no value
pub no_number : (a : Attr) (bytes : List ℕ) → is_numeric a ≡ false → value_of a bytes ≡ None
unfolding value_of
no_number a bytes h = rw h refl

-- at most 31 digits follow the point
pub fraction_small : (a : Attr) (z : ℤ) → IsTrue (fits a z) → fraction_of a < 39
unfolding fits
fraction_small (Packed digits fraction) z h = grind (arith, nat_tests, h)
fraction_small (Zoned digits fraction) z h = grind (arith, nat_tests, h)
fraction_small (Binary size) z h = omega arith
fraction_small (Chars len) z h = omega arith
fraction_small Pointer z h = omega arith

pub power_some : (k : ℕ) → 0 < 10 ^ k
power_some k = one-le-pow k 10 (omega arith)
