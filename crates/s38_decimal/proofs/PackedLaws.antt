-- Packed digits, two at a time.
use Rattle.std.proofs.Common.{◌≡◌, ℕ, zero, suc, ◌+◌, ◌-◌, ◌*◌, ◌/◌, ◌%◌, ◌^◌, ◌<◌, ◌≤◌, ◌&&◌, ◌||◌, ◌==◌, Bool, true, false, List, length, nat_lt, refl, ◌∙◌, ap, ⊎_elim, arith}
use Rattle.std.proofs.lemmas.Bool.{cases_lt}
use Rattle.std.proofs.lemmas.Bool.Decides.{nat_tests}
use Rattle.std.proofs.Math.Nat.{pow-suc}
use Rattle.std.specs.Prelude.{IsTrue, IfSome, Option, Some, None, slice_index, if◌then◌else◌}
use Rattle.s38_base.specs.declared.attr.Attr.TheVariants.{Packed}
use Rattle.s38_base.specs.Scalar.{are_decimal, begins_right, digit_in, half_byte, number_from}

-- ---- the half bytes of byte k

pub high_half : (bytes : List ℕ) (k : ℕ) → half_byte bytes (2 * k) ≡ slice_index bytes k / 16
high_half bytes k =
    let even : (2 * k % 2 == 0) ≡ true = grind (arith, nat_tests) in
    rw even (ap (λ j. slice_index bytes j / 16) (omega arith))

pub low_half : (bytes : List ℕ) (k : ℕ) → half_byte bytes (suc (2 * k)) ≡ slice_index bytes k % 16
low_half bytes k =
    let odd : (suc (2 * k) % 2 == 0) ≡ false = grind (arith, nat_tests) in
    rw odd (ap (λ j. slice_index bytes j % 16) (omega arith))

next_two : (k : ℕ) → 2 * (k + 1) ≡ suc (suc (2 * k))
next_two k = omega arith

-- ---- one byte more

pub next_number : (bytes : List ℕ) (k number : ℕ) → number ≡ number_from 10 (half_byte bytes) (2 * k) → number * 100 + (slice_index bytes k / 16 * 10 + slice_index bytes k % 16) ≡ number_from 10 (half_byte bytes) (2 * (k + 1))
next_number bytes k number is =
    let two : number_from 10 (half_byte bytes) (2 * (k + 1)) ≡ (number_from 10 (half_byte bytes) (2 * k) * 10 + half_byte bytes (2 * k)) * 10 + half_byte bytes (suc (2 * k)) = ap (number_from 10 (half_byte bytes)) (next_two k) in
    omega (arith, two, is, high_half bytes k, low_half bytes k)

and_test : (a b : Bool) → a ≡ true → b ≡ true → (a && b) ≡ true
and_test true b h g = g
and_test false b h g = cc

is_digit : (n : ℕ) → n ≤ 9 → nat_lt n 10 ≡ true
is_digit n h = grind (arith, nat_tests)

no_digit : (n : ℕ) → 9 < n → nat_lt n 10 ≡ false
no_digit n h = grind (arith, nat_tests)

pub next_decimal : (bytes : List ℕ) (k : ℕ) → are_decimal (half_byte bytes) (2 * k) ≡ true → slice_index bytes k / 16 ≤ 9 → slice_index bytes k % 16 ≤ 9 → are_decimal (half_byte bytes) (2 * (k + 1)) ≡ true
next_decimal bytes k before high low =
    ap (are_decimal (half_byte bytes)) (next_two k)
    ∙ and_test (are_decimal (half_byte bytes) (suc (2 * k))) (nat_lt (half_byte bytes (suc (2 * k))) 10)
    (and_test (are_decimal (half_byte bytes) (2 * k)) (nat_lt (half_byte bytes (2 * k)) 10) before (ap (λ n. nat_lt n 10) (high_half bytes k) ∙ is_digit (slice_index bytes k / 16) high))
    (ap (λ n. nat_lt n 10) (low_half bytes k) ∙ is_digit (slice_index bytes k % 16) low)

spoiled : (f : ℕ → ℕ) (k n : ℕ) → k < n → nat_lt (f k) 10 ≡ false → are_decimal f n ≡ false
spoiled f k zero below bad = absurd (omega arith)
spoiled f k (suc n) below bad = grind (arith, spoiled f k n)

pub bad_high : (bytes : List ℕ) (k pairs : ℕ) → k < pairs → 9 < slice_index bytes k / 16 → are_decimal (half_byte bytes) (2 * pairs) ≡ false
bad_high bytes k pairs below bad = spoiled (half_byte bytes) (2 * k) (2 * pairs) (omega arith) (ap (λ n. nat_lt n 10) (high_half bytes k) ∙ no_digit (slice_index bytes k / 16) bad)

pub bad_low : (bytes : List ℕ) (k pairs : ℕ) → k < pairs → 9 < slice_index bytes k % 16 → are_decimal (half_byte bytes) (2 * pairs) ≡ false
bad_low bytes k pairs below bad = spoiled (half_byte bytes) (suc (2 * k)) (2 * pairs) (omega arith) (ap (λ n. nat_lt n 10) (low_half bytes k) ∙ no_digit (slice_index bytes k % 16) bad)

pub next_bound : (k number high low : ℕ) → number < 10 ^ (2 * k) → high ≤ 9 → low ≤ 9 → number * 100 + (high * 10 + low) < 10 ^ (2 * (k + 1))
next_bound k number high low small h l =
    let two : 10 ^ (2 * (k + 1)) ≡ 10 ^ (2 * k) * 10 * 10 = ap (λ n. 10 ^ n) (next_two k) ∙ pow-suc 10 (suc (2 * k)) ∙ ap (λ n. n * 10) (pow-suc 10 (2 * k)) in
    omega (arith, two)

-- ---- what the list of bytes says

abbrev Pair : ℕ → ℕ → ℕ → Type 0
Pair h l pair = pair ≡ (if nat_lt h 10 && nat_lt l 10 then h * 10 + l else 255)

pair_of_digits : (h l pair : ℕ) → Pair h l pair → h ≤ 9 → l ≤ 9 → pair ≡ h * 10 + l
pair_of_digits h l pair is high low = is ∙ ap (λ (b : Bool). if b then h * 10 + l else 255) (and_test (nat_lt h 10) (nat_lt l 10) (is_digit h high) (is_digit l low))

no_pair : (h l pair : ℕ) → Pair h l pair → (nat_lt h 10 && nat_lt l 10) ≡ false → pair ≡ 255
no_pair h l pair is none = is ∙ ap (λ (b : Bool). if b then h * 10 + l else 255) none

and_neither : (b : Bool) → (b && false) ≡ false
and_neither true = refl
and_neither false = refl

pub pair_high : (h l pair : ℕ) → Pair h l pair → pair ≤ 99 → h ≤ 9
pair_high h l pair is small = ⊎_elim (λ below. omega arith) (λ above. absurd (omega (arith, no_pair h l pair is (ap (λ b. b && nat_lt l 10) (no_digit h (omega arith)))))) (cases_lt h 10)

pub pair_low : (h l pair : ℕ) → Pair h l pair → pair ≤ 99 → l ≤ 9
pair_low h l pair is small = ⊎_elim (λ below. omega arith) (λ above. absurd (omega (arith, no_pair h l pair is (ap (λ b. nat_lt h 10 && b) (no_digit l (omega arith)) ∙ and_neither (nat_lt h 10))))) (cases_lt l 10)

pub pair_is : (h l pair : ℕ) → Pair h l pair → pair ≤ 99 → pair ≡ h * 10 + l
pair_is h l pair is small = pair_of_digits h l pair is (pair_high h l pair is small) (pair_low h l pair is small)

pub bad_pair : (bytes : List ℕ) (k pairs pair : ℕ) → k < pairs → Pair (slice_index bytes k / 16) (slice_index bytes k % 16) pair → 99 < pair → are_decimal (half_byte bytes) (2 * pairs) ≡ false
bad_pair bytes k pairs pair below is bad =
    let h = slice_index bytes k / 16 in
    let l = slice_index bytes k % 16 in
    ⊎_elim
    (λ high. ⊎_elim (λ low. absurd (omega (arith, pair_of_digits h l pair is (omega arith) (omega arith)))) (λ low. bad_low bytes k pairs below (omega arith)) (cases_lt l 10))
    (λ high. bad_high bytes k pairs below (omega arith))
    (cases_lt h 10)

-- the pairs of four bytes
pub four_number : (bytes : List ℕ) (a b c d : ℕ)
    → Pair (slice_index bytes 0 / 16) (slice_index bytes 0 % 16) a → Pair (slice_index bytes 1 / 16) (slice_index bytes 1 % 16) b
    → Pair (slice_index bytes 2 / 16) (slice_index bytes 2 % 16) c → Pair (slice_index bytes 3 / 16) (slice_index bytes 3 % 16) d
    → a ≤ 99 → b ≤ 99 → c ≤ 99 → d ≤ 99
    → ((a * 100 + b) * 100 + c) * 100 + d ≡ number_from 10 (half_byte bytes) 8
four_number bytes a b c d a_is b_is c_is d_is a_few b_few c_few d_few =
    let one = next_number bytes 0 0 refl in
    let two = next_number bytes 1 (number_from 10 (half_byte bytes) 2) refl in
    let three = next_number bytes 2 (number_from 10 (half_byte bytes) 4) refl in
    let four = next_number bytes 3 (number_from 10 (half_byte bytes) 6) refl in
    omega (
      arith,
      one,
      two,
      three,
      four,
      pair_is (slice_index bytes 0 / 16) (slice_index bytes 0 % 16) a a_is a_few,
      pair_is (slice_index bytes 1 / 16) (slice_index bytes 1 % 16) b b_is b_few,
      pair_is (slice_index bytes 2 / 16) (slice_index bytes 2 % 16) c c_is c_few,
      pair_is (slice_index bytes 3 / 16) (slice_index bytes 3 % 16) d d_is d_few,
    )

pub four_decimal : (bytes : List ℕ) (a b c d : ℕ)
    → Pair (slice_index bytes 0 / 16) (slice_index bytes 0 % 16) a → Pair (slice_index bytes 1 / 16) (slice_index bytes 1 % 16) b
    → Pair (slice_index bytes 2 / 16) (slice_index bytes 2 % 16) c → Pair (slice_index bytes 3 / 16) (slice_index bytes 3 % 16) d
    → a ≤ 99 → b ≤ 99 → c ≤ 99 → d ≤ 99
    → are_decimal (half_byte bytes) 8 ≡ true
four_decimal bytes a b c d a_is b_is c_is d_is a_few b_few c_few d_few =
    next_decimal bytes 3 (next_decimal bytes 2 (next_decimal bytes 1 (next_decimal bytes 0 refl
    (pair_high (slice_index bytes 0 / 16) (slice_index bytes 0 % 16) a a_is a_few) (pair_low (slice_index bytes 0 / 16) (slice_index bytes 0 % 16) a a_is a_few))
    (pair_high (slice_index bytes 1 / 16) (slice_index bytes 1 % 16) b b_is b_few) (pair_low (slice_index bytes 1 / 16) (slice_index bytes 1 % 16) b b_is b_few))
    (pair_high (slice_index bytes 2 / 16) (slice_index bytes 2 % 16) c c_is c_few) (pair_low (slice_index bytes 2 / 16) (slice_index bytes 2 % 16) c c_is c_few))
    (pair_high (slice_index bytes 3 / 16) (slice_index bytes 3 % 16) d d_is d_few) (pair_low (slice_index bytes 3 / 16) (slice_index bytes 3 % 16) d d_is d_few)

-- ---- digits that begin after the first half byte

number_ext : (f g : ℕ → ℕ) (n : ℕ) → ((k : ℕ) → f k ≡ g k) → number_from 10 f n ≡ number_from 10 g n
number_ext f g zero same = refl
number_ext f g (suc n) same = omega (arith, number_ext f g n same, same n)

decimal_ext : (f g : ℕ → ℕ) (n : ℕ) → ((k : ℕ) → f k ≡ g k) → are_decimal f n ≡ are_decimal g n
decimal_ext f g zero same = refl
decimal_ext f g (suc n) same = ap (λ b. b && nat_lt (f n) 10) (decimal_ext f g n same) ∙ ap (λ x. are_decimal g n && nat_lt x 10) (same n)

number_behind : (f g : ℕ → ℕ) (n : ℕ) → f 0 ≡ 0 → ((k : ℕ) → f (suc k) ≡ g k) → number_from 10 f (suc n) ≡ number_from 10 g n
number_behind f g zero first same = omega (arith, first)
number_behind f g (suc n) first same = omega (arith, number_behind f g n first same, same n)

decimal_behind : (f g : ℕ → ℕ) (n : ℕ) → f 0 ≡ 0 → ((k : ℕ) → f (suc k) ≡ g k) → are_decimal f (suc n) ≡ are_decimal g n
decimal_behind f g zero first same = ap (λ x. true && nat_lt x 10) first
decimal_behind f g (suc n) first same = ap (λ b. b && nat_lt (f (suc n)) 10) (decimal_behind f g n first same) ∙ ap (λ x. are_decimal g n && nat_lt x 10) (same n)

pub number_below : (f : ℕ → ℕ) (n : ℕ) → are_decimal f n ≡ true → number_from 10 f n < 10 ^ n
number_below f zero h = omega arith
number_below f (suc n) h =
    let both = parts (are_decimal f n) (nat_lt (f n) 10) h in
    let digit : f n < 10 = grind (arith, nat_tests, both.1) in
    omega (arith, number_below f n both.0, digit, pow-suc 10 n)
  where
    parts : (a b : Bool) → (a && b) ≡ true → (a ≡ true) × (b ≡ true)
    parts true b h = (refl, h)
    parts false b h = cc

begins_zero : (digits fraction : ℕ) (bytes : List ℕ) → (digits % 2 == 1) ≡ false → IsTrue (begins_right (Packed digits fraction) bytes) → slice_index bytes 0 / 16 ≡ 0
begins_zero digits fraction bytes even begins = by (digits % 2 == 1) (slice_index bytes 0 / 16 == 0) even begins (λ h. grind (arith, nat_tests))
  where
    by : (a b : Bool) → a ≡ false → IsTrue (a || b) → (b ≡ true → slice_index bytes 0 / 16 ≡ 0) → slice_index bytes 0 / 16 ≡ 0
    by true b h g use_it = cc
    by false true h g use_it = use_it refl
    by false false h g use_it = cc

-- the half bytes before the sign spell the digits
pub record Spells (digits fraction : ℕ) (bytes : List ℕ) : Type 0 where
  pub decimal : are_decimal (half_byte bytes) (2 * (length bytes - 1) + 1) ≡ are_decimal (digit_in (Packed digits fraction) bytes) digits
  pub number : number_from 10 (half_byte bytes) (2 * (length bytes - 1) + 1) ≡ number_from 10 (digit_in (Packed digits fraction) bytes) digits

spells_by : (test : Bool) (digits fraction : ℕ) (bytes : List ℕ) → (digits % 2 == 1) ≡ test → length bytes ≡ digits / 2 + 1 → IsTrue (begins_right (Packed digits fraction) bytes) → Spells digits fraction bytes
spells_by true digits fraction bytes odd long begins =
    let one : digits % 2 ≡ 1 = grind (arith, nat_tests) in
    let count : 2 * (length bytes - 1) + 1 ≡ digits = omega (arith, one, long) in
    let same : (k : ℕ) → half_byte bytes k ≡ digit_in (Packed digits fraction) bytes k = λ k. ap (half_byte bytes) (omega (arith, one)) in
    record {
      decimal = ap (are_decimal (half_byte bytes)) count ∙ decimal_ext (half_byte bytes) (digit_in (Packed digits fraction) bytes) digits same;
      number = ap (number_from 10 (half_byte bytes)) count ∙ number_ext (half_byte bytes) (digit_in (Packed digits fraction) bytes) digits same;
    }
spells_by false digits fraction bytes even long begins =
    let none : digits % 2 ≡ 0 = grind (arith, nat_tests) in
    let count : 2 * (length bytes - 1) + 1 ≡ suc digits = omega (arith, none, long) in
    let first : half_byte bytes 0 ≡ 0 = high_half bytes 0 ∙ begins_zero digits fraction bytes even begins in
    let same : (k : ℕ) → half_byte bytes (suc k) ≡ digit_in (Packed digits fraction) bytes k = λ k. ap (half_byte bytes) (omega (arith, none)) in
    record {
      decimal = ap (are_decimal (half_byte bytes)) count ∙ decimal_behind (half_byte bytes) (digit_in (Packed digits fraction) bytes) digits first same;
      number = ap (number_from 10 (half_byte bytes)) count ∙ number_behind (half_byte bytes) (digit_in (Packed digits fraction) bytes) digits first same;
    }

pub spells : (digits fraction : ℕ) (bytes : List ℕ) → length bytes ≡ digits / 2 + 1 → IsTrue (begins_right (Packed digits fraction) bytes) → Spells digits fraction bytes
spells digits fraction bytes long begins = spells_by (digits % 2 == 1) digits fraction bytes refl long begins

-- so what they give is what the digits give
pub packed_value : (digits fraction : ℕ) (bytes : List ℕ) → Spells digits fraction bytes
    → (if are_decimal (half_byte bytes) (2 * (length bytes - 1) + 1) then Some (number_from 10 (half_byte bytes) (2 * (length bytes - 1) + 1)) else None)
    ≡ (if are_decimal (digit_in (Packed digits fraction) bytes) digits then Some (number_from 10 (digit_in (Packed digits fraction) bytes) digits) else None)
packed_value digits fraction bytes h =
    ap (λ (b : Bool). if b then Some (number_from 10 (half_byte bytes) (2 * (length bytes - 1) + 1)) else None) h.decimal
    ∙ ap (λ (n : ℕ). if are_decimal (digit_in (Packed digits fraction) bytes) digits then Some n else None) h.number

bounded : (b : Bool) (n m : ℕ) (o : Option ℕ) → (b ≡ true → n < m) → o ≡ (if b then Some n else None) → IfSome o (λ k. k < m)
bounded true n m o small is = rw is (small refl)
bounded false n m o small is = rw is tt

pub packed_bound : (digits fraction : ℕ) (bytes : List ℕ) (o : Option ℕ) → o ≡ (if are_decimal (digit_in (Packed digits fraction) bytes) digits then Some (number_from 10 (digit_in (Packed digits fraction) bytes) digits) else None) → IfSome o (λ k. k < 10 ^ digits)
packed_bound digits fraction bytes o is =
    bounded (are_decimal (digit_in (Packed digits fraction) bytes) digits) (number_from 10 (digit_in (Packed digits fraction) bytes) digits) (10 ^ digits) o
    (number_below (digit_in (Packed digits fraction) bytes) digits) is
