-- What is written of a number is read again.
use Rattle.std.proofs.Common.{◌≡◌, ℕ, zero, suc, ◌+◌, ◌-◌, ◌*◌, ◌/◌, ◌%◌, ◌^◌, ◌<◌, ◌≤◌, Bool, true, false, ◌&&◌, ◌||◌, ℤ, pos, negsuc, List, length, get_or, map, refl, ap, sym, ◌∙◌, ⊎_elim, subst, arith, rules, tests}
use Rattle.std.specs.Prelude.{IsTrue, unsigned_abs, ◌==◌, nat_lt, Some, None, if◌then◌else◌}
use Rattle.std.specs.List.{range_with_len}
use Rattle.std.proofs.lemmas.Bool.{cases_eq}
use Rattle.std.proofs.lemmas.Bool.Decides.{nat_tests}
use Rattle.std.proofs.lemmas.List.FromFn.{get_or-map-range_with_len, length-map-range_with_len}
use Rattle.std.proofs.lemmas.Grind.{pow_more}
use Rattle.std.proofs.Math.Nat.{div-add-mod', div-div-eq-div-mul, div-eq_of_lt, div-one, pow-zero}
use Rattle.s38_decimal.proofs.Attributes.{fits_below, fits_numeric, two_or_four}
use Rattle.s38_base.specs.declared.attr.Attr.{Attr}
use Rattle.s38_base.specs.declared.attr.Attr.TheVariants.{Packed, Zoned, Binary, Chars, Pointer}
use Rattle.s38_base.specs.Scalar.{are_decimal, begins_right, bits_of, digit_at, digit_in, fits, fits_bytes, half_byte, half_bytes_before, is_minus, is_sign, is_spelled, meaning_of, number_from, packed_byte, scalar_image, sign_in, sign_of, spelled, twos_complement, value_of, with_minus, zoned_byte}
use Rattle.s38_base.specs.Attributes.{digits_of, is_numeric, length_of}

-- the digits of n, the first of d, spell what comes before the others
from_digits : (base n d k : ℕ) (digit : ℕ → ℕ) → n < base ^ d → k ≤ d → ((i : ℕ) → i < d → digit i ≡ digit_at base n (d - 1 - i)) → number_from base digit k ≡ n / base ^ (d - k)
from_digits base n d zero digit small h is =
    let e : d - 0 ≡ d = omega arith in
    sym (ap (λ j. n / base ^ j) e ∙ div-eq_of_lt small)
from_digits base n d (suc k) digit small h is =
    let rest = n / base ^ (d - suc k) in
    let e : d - k ≡ d - suc k + 1 = omega arith in
    let f : d - 1 - k ≡ d - suc k = omega arith in
    let more : n / base ^ (d - k) ≡ rest / base = ap (λ j. n / base ^ j) e ∙ ap (λ p. n / p) (pow_more base (d - suc k)) ∙ sym (div-div-eq-div-mul n (base ^ (d - suc k)) base) in
    ap (λ x. x * base + digit k) (from_digits base n d k digit small (omega arith) is ∙ more)
    ∙ ap (λ x. rest / base * base + x) (is k (omega arith) ∙ ap (digit_at base n) f)
    ∙ div-add-mod' rest base

-- all of them spell n
pub spells : (base n d : ℕ) (digit : ℕ → ℕ) → n < base ^ d → ((i : ℕ) → i < d → digit i ≡ digit_at base n (d - 1 - i)) → number_from base digit d ≡ n
spells base n d digit small is =
    let e : d - d ≡ 0 = omega arith in
    from_digits base n d d digit small (omega arith) is ∙ ap (λ j. n / base ^ j) e ∙ ap (λ p. n / p) (pow-zero base) ∙ div-one n

digits_pass : (digit : ℕ → ℕ) (d : ℕ) → ((i : ℕ) → i < d → digit i < 10) → are_decimal digit d ≡ true
digits_pass digit zero small = refl
digits_pass digit (suc d) small = grind (arith, nat_tests, digits_pass digit d (λ i h. small i (omega arith)), small d (omega arith))

pub are_digits_at : (n d : ℕ) (digit : ℕ → ℕ) → ((i : ℕ) → i < d → digit i ≡ digit_at 10 n (d - 1 - i)) → are_decimal digit d ≡ true
are_digits_at n d digit is = digits_pass digit d (λ i h. omega (arith, is i h))

-- the sign that is written is one, and is read with the number
sign_is : (z : ℤ) → is_sign (sign_of z) ≡ true
sign_is (pos n) = refl
sign_is (negsuc n) = refl

sign_small : (z : ℤ) → sign_of z < 16
sign_small (pos n) = omega arith
sign_small (negsuc n) = omega arith

signed_again : (z : ℤ) → with_minus (is_minus (sign_of z)) (unsigned_abs z) ≡ z
signed_again (pos n) = refl
signed_again (negsuc n) = refl

-- a decimal form is read where its places are those that were written
spelled_again : (attr : Attr) (bytes : List ℕ) (z : ℤ) → unsigned_abs z < 10 ^ digits_of attr → begins_right attr bytes ≡ true → sign_in attr bytes ≡ sign_of z → ((i : ℕ) → i < digits_of attr → digit_in attr bytes i ≡ digit_at 10 (unsigned_abs z) (digits_of attr - 1 - i)) → spelled attr bytes ≡ Some z
spelled_again attr bytes z small begins sign is =
    let digits = are_digits_at (unsigned_abs z) (digits_of attr) (digit_in attr bytes) is in
    let number = spells 10 (unsigned_abs z) (digits_of attr) (digit_in attr bytes) small is in
    let signs : is_sign (sign_in attr bytes) ≡ true = ap is_sign sign ∙ sign_is z in
    let whole : with_minus (is_minus (sign_in attr bytes)) (number_from 10 (digit_in attr bytes) (digits_of attr)) ≡ z =
    ap (λ s. with_minus (is_minus s) (number_from 10 (digit_in attr bytes) (digits_of attr))) sign ∙ ap (with_minus (is_minus (sign_of z))) number ∙ signed_again z in
    let test : is_spelled attr bytes ≡ true = ap (λ b. b && (are_decimal (digit_in attr bytes) (digits_of attr) && is_sign (sign_in attr bytes))) begins ∙ ap (λ b. b && is_sign (sign_in attr bytes)) digits ∙ signs in
    ap (λ b. if b then Some (with_minus (is_minus (sign_in attr bytes)) (number_from 10 (digit_in attr bytes) (digits_of attr))) else None) test ∙ ap Some whole

-- ---- packed

low_small : (b : Bool) (s n k : ℕ) → s < 16 → (if b then s else digit_at 10 n k) < 16
low_small true s n k h = h
low_small false s n k h = omega arith

high_half : (x l : ℕ) → l < 16 → (x * 16 + l) / 16 ≡ x
high_half x l h = omega arith

low_half : (x l : ℕ) → l < 16 → (x * 16 + l) % 16 ≡ l
low_half x l h = omega arith

packed_high : (h j : ℕ) (z : ℤ) → packed_byte h z j / 16 ≡ digit_at 10 (unsigned_abs z) (2 * (h - j))
packed_high h j z = high_half (digit_at 10 (unsigned_abs z) (2 * (h - j))) _ (low_small (j == h) (sign_of z) (unsigned_abs z) (2 * (h - j) - 1) (sign_small z))

packed_low : (h j : ℕ) (z : ℤ) → packed_byte h z j % 16 ≡ (if j == h then sign_of z else digit_at 10 (unsigned_abs z) (2 * (h - j) - 1))
packed_low h j z = low_half (digit_at 10 (unsigned_abs z) (2 * (h - j))) _ (low_small (j == h) (sign_of z) (unsigned_abs z) (2 * (h - j) - 1) (sign_small z))

not_last : (j h : ℕ) → j < h → (j == h) ≡ false
not_last j h below = grind (arith, nat_tests)

is_last : (j h : ℕ) → j ≡ h → (j == h) ≡ true
is_last j h same = grind (arith, nat_tests)

abbrev packed_bytes : ℕ → ℤ → List ℕ
packed_bytes h z = map (packed_byte h z) (range_with_len 0 (h + 1))

packed_at : (h j : ℕ) (z : ℤ) → j < h + 1 → get_or (packed_bytes h z) j 0 ≡ packed_byte h z j
packed_at h j z below = get_or-map-range_with_len (packed_byte h z) 0 (h + 1) j j 0 below (omega arith)

half_is : (h k : ℕ) (z : ℤ) → k < 2 * h + 1 → half_byte (packed_bytes h z) k ≡ digit_at 10 (unsigned_abs z) (2 * h - k)
half_is h k z below =
    ⊎_elim
    (λ even.
    let t : (k % 2 == 0) ≡ true = is_last (k % 2) 0 even in
    let e : 2 * (h - k / 2) ≡ 2 * h - k = omega (arith, even) in
    ap (λ b. if b then get_or (packed_bytes h z) (k / 2) 0 / 16 else get_or (packed_bytes h z) (k / 2) 0 % 16) t
    ∙ ap (λ x. x / 16) (packed_at h (k / 2) z (omega arith)) ∙ packed_high h (k / 2) z ∙ ap (digit_at 10 (unsigned_abs z)) e)
    (λ odd.
    let t : (k % 2 == 0) ≡ false = grind (arith, nat_tests) in
    let e : 2 * (h - k / 2) - 1 ≡ 2 * h - k = omega (arith, odd) in
    ap (λ b. if b then get_or (packed_bytes h z) (k / 2) 0 / 16 else get_or (packed_bytes h z) (k / 2) 0 % 16) t
    ∙ ap (λ x. x % 16) (packed_at h (k / 2) z (omega arith)) ∙ packed_low h (k / 2) z
    ∙ ap (λ b. if b then sign_of z else digit_at 10 (unsigned_abs z) (2 * (h - k / 2) - 1)) (not_last (k / 2) h (omega (arith, odd)))
    ∙ ap (digit_at 10 (unsigned_abs z)) e)
    (cases_eq (k % 2) 0)

packed_begins : (d f : ℕ) (z : ℤ) → unsigned_abs z < 10 ^ d → begins_right (Packed d f) (packed_bytes (d / 2) z) ≡ true
packed_begins d f z small =
    ⊎_elim
    (λ odd. ap (λ b. b || (get_or (packed_bytes (d / 2) z) 0 0 / 16 == 0)) (is_last (d % 2) 1 odd))
    (λ even.
    let e : 2 * (d / 2 - 0) ≡ d = omega (arith, even) in
    let zero_digit : get_or (packed_bytes (d / 2) z) 0 0 / 16 ≡ 0 =
    ap (λ x. x / 16) (packed_at (d / 2) 0 z (omega arith)) ∙ packed_high (d / 2) 0 z
    ∙ ap (λ j. unsigned_abs z / 10 ^ j % 10) e ∙ ap (λ x. x % 10) (div-eq_of_lt small) in
    let t : (get_or (packed_bytes (d / 2) z) 0 0 / 16 == 0) ≡ true = is_last _ 0 zero_digit in
    ap (λ b. (d % 2 == 1) || b) t ∙ or_true (d % 2 == 1))
    (cases_eq (d % 2) 1)
  where
    or_true : (b : Bool) → (b || true) ≡ true
    or_true true = refl
    or_true false = refl

packed_again : (d f : ℕ) (z : ℤ) → unsigned_abs z < 10 ^ d → spelled (Packed d f) (packed_bytes (d / 2) z) ≡ Some z
packed_again d f z small =
    let h = d / 2 in
    let sign : get_or (packed_bytes h z) h 0 % 16 ≡ sign_of z =
    ap (λ x. x % 16) (packed_at h h z (omega arith)) ∙ packed_low h h z
    ∙ ap (λ b. if b then sign_of z else digit_at 10 (unsigned_abs z) (2 * (h - h) - 1)) (is_last h h refl) in
    spelled_again (Packed d f) (packed_bytes h z) z small (packed_begins d f z small) sign (λ i below.
    let e : 2 * (d / 2) - (half_bytes_before d + i) ≡ d - 1 - i = omega arith in
    half_is (d / 2) (half_bytes_before d + i) z (omega arith) ∙ ap (digit_at 10 (unsigned_abs z)) e)

-- ---- zoned

abbrev zoned_bytes : ℕ → ℤ → List ℕ
zoned_bytes d z = map (zoned_byte d z) (range_with_len 0 d)

zoned_at : (d j : ℕ) (z : ℤ) → j < d → get_or (zoned_bytes d z) j 0 ≡ zoned_byte d z j
zoned_at d j z below = get_or-map-range_with_len (zoned_byte d z) 0 d j j 0 below (omega arith)

digit_small : (n k : ℕ) → digit_at 10 n k < 16
digit_small n k = omega arith

zoned_again : (d f : ℕ) (z : ℤ) → 0 < d → unsigned_abs z < 10 ^ d → spelled (Zoned d f) (zoned_bytes d z) ≡ Some z
zoned_again d f z some small =
    let last : (d - 1 + 1 == d) ≡ true = is_last (d - 1 + 1) d (omega arith) in
    let sign : get_or (zoned_bytes d z) (d - 1) 0 / 16 ≡ sign_of z =
    ap (λ x. x / 16) (zoned_at d (d - 1) z (omega arith))
    ∙ high_half (if d - 1 + 1 == d then sign_of z else 15) _ (digit_small (unsigned_abs z) (d - 1 - (d - 1)))
    ∙ ap (λ b. if b then sign_of z else 15) last in
    spelled_again (Zoned d f) (zoned_bytes d z) z small refl sign (λ i below.
    ap (λ x. x % 16) (zoned_at d i z below) ∙ low_half (if i + 1 == d then sign_of z else 15) _ (digit_small (unsigned_abs z) (d - 1 - i)))

-- ---- binary

abbrev binary_bytes : ℕ → ℤ → List ℕ
binary_bytes size z = map (λ k. digit_at 256 (bits_of size z) (size - 1 - k)) (range_with_len 0 size)

binary_number : (size : ℕ) (z : ℤ) → bits_of size z < 256 ^ size → number_from 256 (λ k. get_or (binary_bytes size z) k 0) size ≡ bits_of size z
binary_number size z small =
    spells 256 (bits_of size z) size (λ k. get_or (binary_bytes size z) k 0) small (λ i below.
    get_or-map-range_with_len (λ k. digit_at 256 (bits_of size z) (size - 1 - k)) 0 size i i 0 below (omega arith))

below_true : (n m : ℕ) → n < m → nat_lt n m ≡ true
below_true n m h = grind (arith, nat_tests)

below_false : (n m : ℕ) → m ≤ n → nat_lt n m ≡ false
below_false n m h = grind (arith, nat_tests)

under : (n m : ℕ) → IsTrue (nat_lt n m) → n < m
under n m h = search (rules, tests)

true_is : (b : Bool) → IsTrue b → b ≡ true
true_is true h = refl
true_is false h = search rules

bits_two : (z : ℤ) → IsTrue (fits_bytes 2 z) → (bits_of 2 z < 256 ^ 2) × (twos_complement 2 (bits_of 2 z) ≡ z)
bits_two (pos n) h =
    let small = under n (2 ^ 15) h in
    (omega arith, ap (λ b. if b then pos n else negsuc (2 ^ 16 - suc n)) (below_true n (2 ^ 15) small))
bits_two (negsuc n) h =
    let small = under n (2 ^ 15) h in
    let m = 2 ^ 16 - suc n in
    let again : 2 ^ 16 - suc (2 ^ 16 - suc n) ≡ n = omega arith in
    (omega arith, ap (λ b. if b then pos (2 ^ 16 - suc n) else negsuc (2 ^ 16 - suc (2 ^ 16 - suc n))) (below_false (2 ^ 16 - suc n) (2 ^ 15) (omega arith)) ∙ ap negsuc again)

bits_four : (z : ℤ) → IsTrue (fits_bytes 4 z) → (bits_of 4 z < 256 ^ 4) × (twos_complement 4 (bits_of 4 z) ≡ z)
bits_four (pos n) h =
    let small = under n (2 ^ 31) h in
    (omega arith, ap (λ b. if b then pos n else negsuc (2 ^ 32 - suc n)) (below_true n (2 ^ 31) small))
bits_four (negsuc n) h =
    let small = under n (2 ^ 31) h in
    let again : 2 ^ 32 - suc (2 ^ 32 - suc n) ≡ n = omega arith in
    (omega arith, ap (λ b. if b then pos (2 ^ 32 - suc n) else negsuc (2 ^ 32 - suc (2 ^ 32 - suc n))) (below_false (2 ^ 32 - suc n) (2 ^ 31) (omega arith)) ∙ ap negsuc again)

abbrev BinaryAgain : ℤ → ℕ → Type 0
BinaryAgain z size = IsTrue (fits_bytes size z) → twos_complement size (number_from 256 (λ k. get_or (binary_bytes size z) k 0) size) ≡ z

binary_again : (size : ℕ) (z : ℤ) → IsTrue (is_numeric (Binary size)) → BinaryAgain z size
binary_again size z numeric =
    ⊎_elim
    (λ e. subst (BinaryAgain z) (sym e) (λ h. let b = bits_two z h in ap (twos_complement 2) (binary_number 2 z b.0) ∙ b.1))
    (λ e. subst (BinaryAgain z) (sym e) (λ h. let b = bits_four z h in ap (twos_complement 4) (binary_number 4 z b.0) ∙ b.1))
    (two_or_four size numeric)

-- ---- all

-- the length of what is written
pub length-image : (attr : Attr) (z : ℤ) → IsTrue (fits attr z) → length (scalar_image attr z) ≡ length_of attr
unfolding fits scalar_image
length-image (Packed d f) z h = length-map-range_with_len (packed_byte (d / 2) z) 0 (d / 2 + 1)
length-image (Zoned d f) z h = length-map-range_with_len (zoned_byte d z) 0 d
length-image (Binary size) z h = length-map-range_with_len (λ k. digit_at 256 (bits_of size z) (size - 1 - k)) 0 size
length-image (Chars len) z h = search rules
length-image Pointer z h = search rules

pub meaning-image : (attr : Attr) (z : ℤ) → IsTrue (fits attr z) → meaning_of attr (scalar_image attr z) ≡ Some z
unfolding fits scalar_image
meaning-image (Packed d f) z h = packed_again d f z (fits_below (Packed d f) z h)
meaning-image (Zoned d f) z h = zoned_again d f z (search (rules, tests)) (fits_below (Zoned d f) z h)
meaning-image (Binary size) z h = ap Some (binary_again size z (search rules) (search rules))
meaning-image (Chars len) z h = search rules
meaning-image Pointer z h = search rules

pub value-image : (attr : Attr) (z : ℤ) → IsTrue (fits attr z) → value_of attr (scalar_image attr z) ≡ Some z
unfolding value_of
value-image attr z h =
    let numeric = true_is (is_numeric attr) (fits_numeric attr z h) in
    let long = is_last (length (scalar_image attr z)) (length_of attr) (length-image attr z h) in
    ap (λ b. if b && (length (scalar_image attr z) == length_of attr) then meaning_of attr (scalar_image attr z) else None) numeric
    ∙ ap (λ b. if b then meaning_of attr (scalar_image attr z) else None) long
    ∙ meaning-image attr z h

pub ruleset images = (value-image, length-image)
