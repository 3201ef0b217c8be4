-- 38 digits are enough, and 127 bits for them.
use Rattle.std.proofs.Common.{◌≡◌, ℕ, zero, suc, pos, negsuc, refl, ◌+◌, ◌-◌, ◌*◌, ◌^◌, ◌<◌, ◌≤◌, ℤ, ◌*ℤ◌, ◌+ℤ◌, ap, ◌∙◌, arith}
use Rattle.std.specs.Prelude.{unsigned_abs}
use Rattle.std.specs.Int.{w128, cast_signed, cast_unsigned}
use Rattle.std.specs.Int.RustNames.{FitsSigned}
use Rattle.std.proofs.lemmas.Int.{fits_signed_from_abs, to_z-of_z, unsigned_abs-mul}
use Rattle.std.proofs.lemmas.Nat.{pow-add, mul-le, mul-lt}
use Rattle.std.proofs.Math.Nat.{le-mul_of_pos_right, one-le-pow}
use Rattle.s38_decimal.specs.Values.{with_sign}
use Rattle.s38_decimal.proofs.Powers.{tens_le}

-- a number of d digits with k zeros after it
pub raised_le : (n d k t : ℕ) → n < 10 ^ d → d + k ≤ t → n * 10 ^ k ≤ 10 ^ t
raised_le n d k t small enough = omega (arith, mul-le n (10 ^ k) (10 ^ d) (10 ^ k) (omega arith) (omega arith), pow-add 10 d k, tens_le (d + k) t enough)

pub fits_word : (z : ℤ) → unsigned_abs z ≤ 10 ^ 38 → FitsSigned w128 z
fits_word z small = fits_signed_from_abs w128 z (omega arith)

-- such a number goes through a machine word unchanged
pub same : (z : ℤ) → unsigned_abs z ≤ 10 ^ 38 → cast_signed w128 (cast_unsigned w128 z) ≡ z
same z small = to_z-of_z w128 z (fits_word z small)

pub product_fits : (a b : ℤ) → unsigned_abs a * unsigned_abs b ≤ 10 ^ 38 → FitsSigned w128 (a *ℤ b)
product_fits a b small = fits_word (a *ℤ b) (omega (arith, unsigned_abs-mul a b))

pub ruleset words = (product_fits, to_z-of_z, same)

-- what reaches an answer as a word is the number itself
pub same_top : (top z : ℤ) (k : ℕ) → top ≡ z → unsigned_abs z * 10 ^ k ≤ 10 ^ 38 → cast_signed w128 (cast_unsigned w128 top) ≡ z
same_top top z k is small = ap (λ t. cast_signed w128 (cast_unsigned w128 t)) is ∙ same z (omega (arith, le-mul_of_pos_right (unsigned_abs z) (one-le-pow k 10 (omega arith))))

-- room for the top of an answer
pub top_room : (top z : ℤ) (up down u d : ℕ) → top ≡ z → up ≡ u → down ≡ d → unsigned_abs z * 10 ^ (u - d) ≤ 10 ^ 38 → unsigned_abs (cast_signed w128 (cast_unsigned w128 top)) * 10 ^ (up - down) ≤ 10 ^ 38
top_room top z up down u d is up_is down_is small =
    let e : unsigned_abs (cast_signed w128 (cast_unsigned w128 top)) * 10 ^ (up - down) ≡ unsigned_abs z * 10 ^ (u - d) =
    ap (λ t. unsigned_abs t * 10 ^ (up - down)) (same_top top z (u - d) is small)
    ∙ ap (λ n. unsigned_abs z * 10 ^ (n - down)) up_is ∙ ap (λ n. unsigned_abs z * 10 ^ (u - n)) down_is in
    omega (arith, e)

-- room for the bottom
pub bottom_room : (k : ℕ) → k ≤ 38 → 1 * 10 ^ k ≤ 10 ^ 38
bottom_room k few = omega (arith, tens_le k 38 few)

-- a product of numbers of i and j digits has i + j
pub product_below : (x y : ℤ) (i j : ℕ) → unsigned_abs x < 10 ^ i → unsigned_abs y < 10 ^ j → unsigned_abs (x *ℤ y) < 10 ^ (i + j)
product_below x y i j first second = omega (arith, unsigned_abs-mul x y, mul-lt (unsigned_abs x) (unsigned_abs y) (10 ^ i) (10 ^ j) first second, pow-add 10 i j)

pub same_word : (top z : ℤ) → top ≡ z → unsigned_abs z ≤ 10 ^ 38 → cast_signed w128 (cast_unsigned w128 top) ≡ z
same_word top z is small = ap (λ t. cast_signed w128 (cast_unsigned w128 t)) is ∙ same z small

-- the sum of two words
pub sum_is : (t u v x y : ℤ) → t ≡ cast_signed w128 (cast_unsigned w128 u) +ℤ cast_signed w128 (cast_unsigned w128 v) → u ≡ x → v ≡ y → unsigned_abs x ≤ 10 ^ 38 → unsigned_abs y ≤ 10 ^ 38 → t ≡ x +ℤ y
sum_is t u v x y is u_is v_is x_small y_small =
    is ∙ ap (λ z. z +ℤ cast_signed w128 (cast_unsigned w128 v)) (same_word u x u_is x_small) ∙ ap (λ z. x +ℤ z) (same_word v y v_is y_small)

pub sum_room : (u v x y : ℤ) → u ≡ x → v ≡ y → unsigned_abs x ≤ 10 ^ 37 → unsigned_abs y ≤ 10 ^ 37 → unsigned_abs (cast_signed w128 (cast_unsigned w128 u)) + unsigned_abs (cast_signed w128 (cast_unsigned w128 v)) ≤ 10 ^ 38
sum_room u v x y u_is v_is x_small y_small =
    omega (arith, ap unsigned_abs (same_word u x u_is (omega arith)), ap unsigned_abs (same_word v y v_is (omega arith)))

pub bottom_is : (n m up down u d : ℕ) → n ≡ m → up ≡ u → down ≡ d → m * 10 ^ (d - u) ≤ 10 ^ 38 → n * 10 ^ (down - up) ≤ 10 ^ 38
bottom_is n m up down u d is up_is down_is small =
    let e : n * 10 ^ (down - up) ≡ m * 10 ^ (d - u) =
    ap (λ k. k * 10 ^ (down - up)) is ∙ ap (λ k. m * 10 ^ (down - k)) up_is ∙ ap (λ k. m * 10 ^ (k - u)) down_is in
    omega (arith, e)

pub with_sign-abs : (z : ℤ) (n : ℕ) → unsigned_abs (with_sign z n) ≡ n
with_sign-abs (pos a) n = refl
with_sign-abs (negsuc a) zero = refl
with_sign-abs (negsuc a) (suc n) = refl

-- a number with a sign, as it reaches a caller
pub signed_word : (top z : ℤ) (n : ℕ) → top ≡ with_sign z n → n < 10 ^ 31 → unsigned_abs (cast_signed w128 (cast_unsigned w128 top)) < 10 ^ 31
signed_word top z n is small =
    omega (arith, ap unsigned_abs (same_word top (with_sign z n) is (omega (arith, with_sign-abs z n, tens_le 31 38 (omega arith)))), with_sign-abs z n)
