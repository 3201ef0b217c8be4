-- A number that is written fits the packed attribute of as many digits.
use Rattle.std.proofs.Common.{◌≡◌, ◌≤◌, ◌<◌, ◌+◌, ◌^◌, ℕ, zero, suc, ℤ, Bool, true, false, cond, List, length, leb, ltb, Option, Some, None, refl, sym, subst, arith}
use Rattle.std.specs.Prelude.{IfSome, IsTrue, unsigned_abs}
use Rattle.std.proofs.lemmas.Bool.Decides.{nat_tests}
use Rattle.s38_base.specs.Scalar.{fits, with_minus}
use Rattle.s38_base.specs.declared.attr.Attr.TheVariants.{Packed}
use Rattle.s38_words.specs.declared.numbers.Numeral.{Numeral}
use Rattle.s38_words.specs.Text.{after_byte, before}
use Rattle.s38_words.specs.Number.{are_digits, fraction_digits, has_minus, is_fraction, is_number, is_numeral, number_spelled, numeral_from, unsigned_number, value_after, value_of_digits, without_minus}
use Rattle.s38_words.proofs.DigitLaws.{value_after_both-lt}

unsigned_abs-with_minus : (minus : Bool) (n : ℕ) → unsigned_abs (with_minus minus n) ≡ n
unsigned_abs-with_minus false n = refl
unsigned_abs-with_minus true zero = refl
unsigned_abs-with_minus true (suc n) = refl

abbrev IsWritten : Numeral → Type 0
IsWritten n = fits (Packed n.digits n.fraction) n.units ≡ true

fits-packed : (digits fraction n : ℕ) (z : ℤ) → unsigned_abs z ≡ n → 1 ≤ digits → digits ≤ 31 → fraction ≤ digits → n < 10 ^ digits → fits (Packed digits fraction) z ≡ true
unfolding fits
fits-packed digits fraction n z is some few after_byte small =
    let low : unsigned_abs z < 10 ^ digits = omega arith in
    grind (arith, nat_tests)

numeral-parts : (text : List ℕ) → is_numeral text ≡ true → (1 ≤ length text) × (are_digits text ≡ true)
numeral-parts text h =
    let some : ltb 0 (length text) ≡ true = grind arith in
    (grind (arith, nat_tests), grind arith)

fraction-digits : (back : Option (List ℕ)) → is_fraction back ≡ true → are_digits (fraction_digits back) ≡ true
fraction-digits None h = refl
fraction-digits (Some digits) h = (numeral-parts digits h).1

number_from-fits : (minus : Bool) (front : List ℕ) (back : Option (List ℕ)) → is_number front back ≡ true → IsWritten (numeral_from minus front (fraction_digits back))
number_from-fits minus front back h =
    let numeral : is_numeral front ≡ true = grind arith in
    let fraction : is_fraction back ≡ true = grind arith in
    let test : leb (length front + length (fraction_digits back)) 31 ≡ true = grind arith in
    let few : length front + length (fraction_digits back) ≤ 31 = grind (arith, nat_tests) in
    let parts = numeral-parts front numeral in
    let some : 1 ≤ length front = parts.0 in
    fits-packed (length front + length (fraction_digits back)) (length (fraction_digits back)) (value_after (value_of_digits front) (fraction_digits back)) _
    (unsigned_abs-with_minus minus (value_after (value_of_digits front) (fraction_digits back))) (omega arith) few (omega arith)
    (value_after_both-lt front (fraction_digits back) parts.1 (fraction-digits back fraction))

unsigned_number-fits : (minus : Bool) (text : List ℕ) (n : Numeral) → unsigned_number minus text ≡ Some n → IsWritten n
unsigned_number-fits minus text n h =
    let made = numeral_from minus (before 46 text) (fraction_digits (after_byte 46 text)) in
    let by_test : (b : Bool) → is_number (before 46 text) (after_byte 46 text) ≡ b → cond b (Some made) None ≡ Some n → IsWritten n =
    λ b. elim b as (λ b. is_number (before 46 text) (after_byte 46 text) ≡ b → cond b (Some made) None ≡ Some n → IsWritten n) [
      | true ↦ λ t e. let same : made ≡ n = cc in subst IsWritten same (number_from-fits minus (before 46 text) (after_byte 46 text) t)
      | false ↦ λ t e. absurd (let x : None ≡ Some n = e in cc)
    ] in
    by_test (is_number (before 46 text) (after_byte 46 text)) refl h

pub number_of-fits : (text : List ℕ) (n : Numeral) → number_spelled text ≡ Some n → fits (Packed n.digits n.fraction) n.units ≡ true
unfolding number_spelled
number_of-fits text n h = unsigned_number-fits (has_minus text) (without_minus text) n h

pub number_of-held : (text : List ℕ) (o : Option Numeral) → o ≡ number_spelled text → IfSome o (λ n. IsTrue (fits (Packed n.digits n.fraction) n.units))
number_of-held text None h = tt
number_of-held text (Some n) h = number_of-fits text n (sym h)
