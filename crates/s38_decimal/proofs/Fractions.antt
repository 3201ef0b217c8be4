-- Fractions under a common factor, cut and rounded.
use Rattle.std.proofs.Common.{◌≡◌, ℕ, ◌+◌, ◌-◌, ◌*◌, ◌/◌, ◌%◌, ◌^◌, ◌<◌, ◌≤◌, Bool, true, false, ap, sym, ◌∙◌, arith}
use Rattle.std.proofs.Math.Nat.{div-le_self, div-eq_of_lt-le, mul-div-mul_right, div-add-mod', mod-lt, one-le-pow, mul-le-mul}
use Rattle.std.proofs.lemmas.Nat.{pow-add}
use Rattle.s38_decimal.specs.Values.{cut_or_rounded}

double_plus : (n m q r : ℕ) → n ≡ q * m + r → 2 * n + m ≡ q * (2 * m) + (2 * r + m)
double_plus n m q r is = omega (arith, is)

-- the rest is half of m or more, so it is rounded up
pub rounds_up : (n m : ℕ) → 0 < m → m - n % m ≤ n % m → (2 * n + m) / (2 * m) ≡ n / m + 1
rounds_up n m pos half =
    let e = double_plus n m (n / m) (n % m) (sym (div-add-mod' n m)) in
    let below : n % m < m = mod-lt n pos in
    div-eq_of_lt-le (2 * m) (omega (arith, e)) (omega (arith, e))

-- it is less, so it is dropped
pub rounds_down : (n m : ℕ) → 0 < m → n % m < m - n % m → (2 * n + m) / (2 * m) ≡ n / m
rounds_down n m pos half =
    let e = double_plus n m (n / m) (n % m) (sym (div-add-mod' n m)) in
    div-eq_of_lt-le (2 * m) (omega (arith, e)) (omega (arith, e))

pub ruleset roundings = (rounds_up, rounds_down)

-- a common factor changes nothing
pub cut_or_rounded-common : (round : Bool) (n m p : ℕ) → 0 < p → cut_or_rounded round (n * p) (m * p) ≡ cut_or_rounded round n m
cut_or_rounded-common true n m p pos =
    let top : 2 * (n * p) + m * p ≡ (2 * n + m) * p = omega arith in
    let bottom : 2 * (m * p) ≡ (2 * m) * p = omega arith in
    ap (λ x. x / (2 * (m * p))) top ∙ ap (λ y. (2 * n + m) * p / y) bottom ∙ mul-div-mul_right (2 * n + m) (2 * m) pos
cut_or_rounded-common false n m p pos = mul-div-mul_right n m pos

tens_apart : (i j : ℕ) → i ≤ j → 10 ^ j ≡ 10 ^ (j - i) * 10 ^ i
tens_apart i j h = ap (λ k. 10 ^ k) (omega arith) ∙ pow-add 10 (j - i) i

-- of two powers of ten the difference alone counts
pub cut_or_rounded-more : (round : Bool) (n m up down : ℕ) → down ≤ up → cut_or_rounded round (n * 10 ^ up) (m * 10 ^ down) ≡ cut_or_rounded round (n * 10 ^ (up - down)) m
cut_or_rounded-more round n m up down h =
    let e : n * 10 ^ up ≡ n * 10 ^ (up - down) * 10 ^ down = ap (λ p. n * p) (tens_apart down up h) ∙ omega arith in
    ap (λ x. cut_or_rounded round x (m * 10 ^ down)) e
    ∙ cut_or_rounded-common round (n * 10 ^ (up - down)) m (10 ^ down) (one-le-pow down 10 (omega arith))

pub cut_or_rounded-less : (round : Bool) (n m up down : ℕ) → up ≤ down → cut_or_rounded round (n * 10 ^ up) (m * 10 ^ down) ≡ cut_or_rounded round n (m * 10 ^ (down - up))
cut_or_rounded-less round n m up down h =
    let e : m * 10 ^ down ≡ m * 10 ^ (down - up) * 10 ^ up = ap (λ p. m * p) (tens_apart up down h) ∙ omega arith in
    ap (λ y. cut_or_rounded round (n * 10 ^ up) y) e
    ∙ cut_or_rounded-common round n (m * 10 ^ (down - up)) (10 ^ up) (one-le-pow up 10 (omega arith))

-- a bottom stays above 0
pub bottom_pos : (m k : ℕ) → 0 < m → 0 < m * 10 ^ k
bottom_pos m k pos = omega (arith, mul-le-mul pos (one-le-pow k 10 (omega arith)))

-- a whole part is no greater
pub quotient_le : (n m : ℕ) → n / m ≤ n
quotient_le n m = div-le_self n m
