-- The number that digits write, digit by digit, and how large it can be.
use Rattle.std.proofs.Common.{◌≡◌, ℕ, suc, ◌+◌, ◌-◌, ◌*◌, ◌^◌, ◌<◌, ◌≤◌, true, List, [], ◌∷◌, ◌++◌, length, get_or, take, refl, ◌∙◌, ap, arith}
use Rattle.std.proofs.lemmas.Bool.{leb-true}
use Rattle.std.proofs.lemmas.List.{take_more}
use Rattle.std.proofs.lemmas.Nat.{pow-add}
use Rattle.std.proofs.Math.Nat.{mul-le-mul_right, pow-le-pow_right, pow-suc}
use Rattle.s38_words.specs.Text.{is_digit}
use Rattle.s38_words.specs.Number.{are_digits, capped, value_after, value_of_digits}

pub value_after-push : (n : ℕ) (cs : List ℕ) (c : ℕ) → value_after n (cs ++ c ∷ []) ≡ value_after n cs * 10 + (c - 48)
value_after-push n [] c = refl
value_after-push n (d ∷ cs) c = value_after-push (n * 10 + (d - 48)) cs c

-- one digit more
pub value_after-more : (n : ℕ) (cs : List ℕ) (i : ℕ) → i < length cs →
    value_after n (take (i + 1) cs) ≡ value_after n (take i cs) * 10 + (get_or cs i 0 - 48)
value_after-more n cs i h = ap (λ ds. value_after n ds) (take_more cs i 0 h) ∙ value_after-push n (take i cs) (get_or cs i 0)

digit-bounds : (c : ℕ) → is_digit c ≡ true → (48 ≤ c) × (c ≤ 57)
digit-bounds c h = grind (arith, leb-true)

room-step : (n d p : ℕ) → d ≤ 9 → (n * 10 + d + 1) * p ≤ (n + 1) * (p * 10)
room-step n d p h = let most : n * 10 + d + 1 ≤ (n + 1) * 10 = omega arith in omega (arith, mul-le-mul_right p most)

-- digits write less than a one with a zero for each of them
pub value_after-lt : (n : ℕ) (cs : List ℕ) → are_digits cs ≡ true → value_after n cs < (n + 1) * 10 ^ length cs
value_after-lt n [] h = omega arith
value_after-lt n (c ∷ cs) h =
    let first : is_digit c ≡ true = grind arith in
    let more : are_digits cs ≡ true = grind arith in
    let bounds = digit-bounds c first in
    let step = room-step n (c - 48) (10 ^ length cs) (omega arith) in
    let e : (n + 1) * 10 ^ suc (length cs) ≡ (n + 1) * (10 ^ length cs * 10) = ap (λ p. (n + 1) * p) (pow-suc 10 (length cs)) in
    omega (arith, value_after-lt (n * 10 + (c - 48)) cs more, step, e)

-- as do digits after others
pub value_after_both-lt : (front back : List ℕ) → are_digits front ≡ true → are_digits back ≡ true →
    value_after (value_of_digits front) back < 10 ^ (length front + length back)
value_after_both-lt front back f b =
    let first = value_after-lt 0 front f in
    let second = value_after-lt (value_of_digits front) back b in
    let room : (value_of_digits front + 1) * 10 ^ length back ≤ 10 ^ length front * 10 ^ length back = mul-le-mul_right (10 ^ length back) (omega arith) in
    omega (arith, second, room, pow-add 10 (length front) (length back))

-- a power of ten is at most a greater one
pub tens_le : (i j : ℕ) → i ≤ j → 10 ^ i ≤ 10 ^ j
tens_le i j h = pow-le-pow_right {n = 10} (omega arith) h

-- what is held is the number itself, where it is far below the largest
held-same : (n v : ℕ) → n ≡ capped (2 ^ 128 - 1) v → v < 2 ^ 127 → n ≡ v
held-same n v h small = omega arith

-- a literal's digits write a number far below what 127 bits hold
pub whole-lt : (digits : List ℕ) (n : ℕ) → n ≡ capped (2 ^ 128 - 1) (value_of_digits digits) → are_digits digits ≡ true → length digits ≤ 31 →
    (n ≡ value_of_digits digits) × (n < 2 ^ 127)
whole-lt digits n h are few =
    let small : value_of_digits digits < 2 ^ 127 = omega (arith, value_after-lt 0 digits are, tens_le (length digits) 31 few) in
    let same : n ≡ value_of_digits digits = held-same n (value_of_digits digits) h small in
    (same, omega arith)

-- as do digits before and after a point
pub number-lt : (front back : List ℕ) (first n : ℕ) →
    first ≡ capped (2 ^ 128 - 1) (value_of_digits front) → n ≡ capped (2 ^ 128 - 1) (value_after first back) →
    are_digits front ≡ true → are_digits back ≡ true → length front + length back ≤ 31 →
    (n ≡ value_after (value_of_digits front) back) × (n < 2 ^ 127)
number-lt front back first n h k f b few =
    let before : first ≡ value_of_digits front = (whole-lt front first h f (omega arith)).0 in
    let small : value_after (value_of_digits front) back < 2 ^ 127 =
    omega (arith, value_after_both-lt front back f b, tens_le (length front + length back) 31 few) in
    let same : n ≡ value_after (value_of_digits front) back =
    held-same n (value_after (value_of_digits front) back) (k ∙ ap (λ m. capped (2 ^ 128 - 1) (value_after m back)) before) small in
    (same, omega arith)
