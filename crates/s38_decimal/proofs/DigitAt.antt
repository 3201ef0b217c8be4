-- The digit of a number that has so many digits after it.
use Rattle.std.proofs.Common.{◌≡◌, ℕ, ◌+◌, ◌-◌, ◌*◌, ◌/◌, ◌%◌, ◌^◌, ◌<◌, List, ◌++◌, length, get_or, map, true, false, ◌==◌, ap, sym, ◌∙◌, ⊎_elim, arith}
use Rattle.std.specs.List.{range_with_len}
use Rattle.std.proofs.Math.Nat.{div-div-eq-div-mul, mul-add-div, mul-add-mod_self_right, div-add-mod', div-one, one-le-pow, pow-zero}
use Rattle.std.proofs.lemmas.Nat.{pow-add}
use Rattle.std.proofs.lemmas.Grind.{pow_more}
use Rattle.std.proofs.lemmas.List.{get_or_append_left, get_or-append_right, length-append}
use Rattle.std.proofs.lemmas.Bool.{cases_lt}
use Rattle.std.proofs.lemmas.List.FromFn.{fill_by_all, get_or-map-range_with_len, length-map-range_with_len}
use Rattle.std.proofs.lemmas.Bool.Decides.{nat_tests}
use Rattle.s38_base.specs.Scalar.{digit_at}
use Rattle.s38_decimal.specs.Images.{packed_with}

-- one digit less
pub rest_more : (n rest k : ℕ) → rest ≡ n / 10 ^ k → rest / 10 ≡ n / 10 ^ (k + 1)
rest_more n rest k is = ap (λ r. r / 10) is ∙ div-div-eq-div-mul n (10 ^ k) 10 ∙ ap (λ p. n / p) (sym (pow_more 10 k))

-- the digits of a number without its last i ones
pub digit_at-div : (n i k : ℕ) → digit_at 10 (n / 10 ^ i) k ≡ digit_at 10 n (i + k)
digit_at-div n i k = ap (λ q. q % 10) (div-div-eq-div-mul n (10 ^ i) (10 ^ k) ∙ ap (λ p. n / p) (sym (pow-add 10 i k)))

digit_at-split : (q p m r : ℕ) → 0 < p → r / p % 10 ≡ (q * (p * (m * 10)) + r) / p % 10
digit_at-split q p m r pos =
    let e : (q * (p * (m * 10)) + r) / p ≡ (q * m) * 10 + r / p = ap (λ x. (x + r) / p) (omega arith) ∙ mul-add-div pos (q * m * 10) r in
    sym (ap (λ x. x % 10) e ∙ mul-add-mod_self_right (q * m) 10 (r / p))

-- the digits of the last i ones
pub digit_at-mod : (n i k : ℕ) → k < i → digit_at 10 (n % 10 ^ i) k ≡ digit_at 10 n k
digit_at-mod n i k below =
    let e : 10 ^ i ≡ 10 ^ k * (10 ^ (i - k - 1) * 10) = ap (λ j. 10 ^ j) (omega arith) ∙ pow-add 10 k (i - k - 1 + 1) ∙ ap (λ p. 10 ^ k * p) (pow_more 10 (i - k - 1)) in
    digit_at-split (n / 10 ^ i) (10 ^ k) (10 ^ (i - k - 1)) (n % 10 ^ i) (one-le-pow k 10 (omega arith))
    ∙ ap (λ x. x / 10 ^ k % 10) (ap (λ p. n / 10 ^ i * p + n % 10 ^ i) (sym e) ∙ div-add-mod' n (10 ^ i))

-- digits at the front
pub front_digit : (xs ys : List ℕ) (f : ℕ → ℕ) (n k : ℕ) → xs ≡ map f (range_with_len 0 n) → k < n → get_or (xs ++ ys) k 0 ≡ f k
front_digit xs ys f n k is below =
    get_or_append_left xs ys 0 k (omega (arith, ap length is, length-map-range_with_len f 0 n))
    ∙ ap (λ zs. get_or zs k 0) is ∙ get_or-map-range_with_len f 0 n k k 0 below (omega arith)

-- the same where the length is that of the list
pub written_digit : (xs ys : List ℕ) (f : ℕ → ℕ) (n k : ℕ) → xs ≡ map f (range_with_len 0 n) → k < length xs → get_or (xs ++ ys) k 0 ≡ f k
written_digit xs ys f n k is below = front_digit xs ys f n k is (omega (arith, ap length is, length-map-range_with_len f 0 n))

-- the last sixteen digits, and those before them
pub both_digits : (xs ys : List ℕ) (n m len : ℕ) → xs ≡ map (digit_at 10 (n % 10 ^ 16)) (range_with_len 0 16) → ys ≡ map (digit_at 10 (n / 10 ^ 16)) (range_with_len 0 m) → len ≡ 16 + m → xs ++ ys ≡ map (digit_at 10 n) (range_with_len 0 len)
both_digits xs ys n m len low high is =
    let long : length xs ≡ 16 = ap length low ∙ length-map-range_with_len (digit_at 10 (n % 10 ^ 16)) 0 16 in
    let rest : length ys ≡ m = ap length high ∙ length-map-range_with_len (digit_at 10 (n / 10 ^ 16)) 0 m in
    fill_by_all (digit_at 10 n) (xs ++ ys) len 0 (omega (arith, length-append xs ys)) (λ k below. ⊎_elim
    (λ first. front_digit xs ys (digit_at 10 (n % 10 ^ 16)) 16 k low first ∙ digit_at-mod n 16 k first)
    (λ later.
    get_or-append_right xs ys 16 k 0 long later
    ∙ ap (λ zs. get_or zs (k - 16) 0) high
    ∙ get_or-map-range_with_len (digit_at 10 (n / 10 ^ 16)) 0 m (k - 16) (k - 16) 0 (omega arith) (omega arith)
    ∙ digit_at-div n 16 (k - 16) ∙ ap (λ j. digit_at 10 n j) (omega arith))
    (cases_lt k 16))

-- ---- two digits at a time

pub rest_more_two : (n rest k : ℕ) → rest ≡ n / 10 ^ (2 * k + 1) → rest / 100 ≡ n / 10 ^ (2 * (k + 1) + 1)
rest_more_two n rest k is =
    let two : rest / 100 ≡ rest / 10 / 10 = omega arith in
    let e : 2 * k + 1 + 1 + 1 ≡ 2 * (k + 1) + 1 = omega arith in
    two ∙ rest_more n (rest / 10) (2 * k + 1 + 1) (rest_more n rest (2 * k + 1) is) ∙ ap (λ j. n / 10 ^ j) e

-- the byte of two digits
pub pair_byte : (n rest k h sign j : ℕ) → rest ≡ n / 10 ^ (2 * k + 1) → j + (k + 1) ≡ h → rest % 100 / 10 * 16 + rest % 100 % 10 ≡ packed_with h n sign j
pair_byte n rest k h sign j is at =
    let apart : (j == h) ≡ false = grind (arith, nat_tests) in
    let high : 2 * (h - j) ≡ 2 * k + 1 + 1 = omega arith in
    let low : 2 * (h - j) - 1 ≡ 2 * k + 1 = omega arith in
    let one : digit_at 10 n (2 * (h - j)) ≡ rest / 10 % 10 = ap (digit_at 10 n) high ∙ ap (λ q. q % 10) (sym (rest_more n rest (2 * k + 1) is)) in
    let other : digit_at 10 n (2 * (h - j) - 1) ≡ rest % 10 = ap (digit_at 10 n) low ∙ ap (λ q. q % 10) (sym is) in
    rw apart (omega (arith, one, other))

-- and of the last digit with the sign
pub last_byte : (n h sign j : ℕ) → j ≡ h → n % 10 * 16 + sign ≡ packed_with h n sign j
last_byte n h sign j at =
    let same : (j == h) ≡ true = grind (arith, nat_tests) in
    let none : 2 * (h - j) ≡ 0 = omega arith in
    let one : digit_at 10 n (2 * (h - j)) ≡ n % 10 = ap (digit_at 10 n) none ∙ ap (λ q. q % 10) (ap (λ p. n / p) (pow-zero 10) ∙ div-one n) in
    rw same (omega (arith, one))
