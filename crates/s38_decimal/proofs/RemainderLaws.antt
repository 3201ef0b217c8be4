-- Remainders of whole numbers with a scale.
use Rattle.std.proofs.Common.{◌≡◌, ℕ, zero, suc, ◌+◌, ◌-◌, ◌*◌, ◌/◌, ◌%◌, ◌^◌, ◌<◌, ◌≤◌, max, min, Bool, false, ℤ, pos, negsuc, ◌*ℤ◌, neg_ℤ, refl, ap, sym, ◌∙◌, arith}
use Rattle.std.specs.Prelude.{unsigned_abs, ◌-ℤ◌}
use Rattle.std.specs.Int.{int_signum}
use Rattle.std.proofs.lemmas.Int.{unsigned_abs-mul, ints}
use Rattle.std.proofs.Math.IntN.{*ℤ_comm, *ℤ-negsuc}
use Rattle.std.proofs.Math.Nat.{div-add-mod, mod-le, mul-le-mul_right, mul-div-mul_right, mul-lt-mul_of_pos_right, mul_comm, one-le-pow, zero-div}
use Rattle.s38_base.specs.declared.attr.Attr.{Attr}
use Rattle.s38_base.specs.Attributes.{digits_of, fraction_of}
use Rattle.s38_decimal.proofs.Attributes.{fraction_le}
use Rattle.s38_decimal.specs.Forms.{IsOf}
use Rattle.s38_decimal.specs.Need.{longer_fraction, remainder_need}
use Rattle.s38_decimal.specs.Common.{brought, rest_of}
use Rattle.s38_decimal.specs.Values.{cut_or_rounded, exact, quotient_of, remainder_of, units_at, with_sign}
use Rattle.s38_decimal.proofs.Integers.{neg_times, swap_factors, times_times}
use Rattle.s38_decimal.proofs.ProductLaws.{with_sign-scale}
use Rattle.s38_decimal.proofs.QuotientLaws.{turned_abs}
use Rattle.s38_decimal.proofs.SumLaws.{raised_on, both_powers, first_power, second_power, units_common}

rest_up : (x k r : ℕ) → k + r ≡ x → pos x -ℤ pos k ≡ pos r
rest_up x k r h = omega (arith, ints, h)

rest_down : (x k r : ℕ) → k + r ≡ suc x → negsuc x -ℤ neg_ℤ (pos k) ≡ neg_ℤ (pos r)
rest_down x k r h = omega (arith, ints, h)

by_plus : (z : ℤ) → z *ℤ pos 1 ≡ z
by_plus (pos n) = ap pos (omega arith)
by_plus (negsuc n) =
    let e : suc n * 1 ≡ suc n = omega arith in
    ap (λ m. neg_ℤ (pos m)) e

by_minus : (z : ℤ) → z *ℤ negsuc 0 ≡ neg_ℤ z
by_minus z = *ℤ-negsuc z 0 ∙ ap neg_ℤ (by_plus z)

times_neg : (y n : ℕ) → pos y *ℤ neg_ℤ (pos n) ≡ neg_ℤ (pos (y * n))
times_neg y n = *ℤ_comm (pos y) (neg_ℤ (pos n)) ∙ neg_times n y ∙ ap (λ m. neg_ℤ (pos m)) (mul_comm n y)

neg_times_neg : (y n : ℕ) → negsuc y *ℤ neg_ℤ (pos n) ≡ pos (suc y * n)
neg_times_neg y zero =
    let e : suc y * 0 ≡ 0 = omega arith in
    ap (λ m. neg_ℤ (pos m)) e ∙ sym (ap pos e)
neg_times_neg y (suc n) = refl

-- what is left of a, where b goes into it |a| / |b| times: above 0 and below
by_positive : (a : ℤ) (y : ℕ) → a -ℤ pos y *ℤ with_sign a (unsigned_abs a / y) ≡ with_sign a (unsigned_abs a % y)
by_positive (pos x) y = rest_up x (y * (x / y)) (x % y) (div-add-mod x y)
by_positive (negsuc x) y =
    ap (λ k. negsuc x -ℤ k) (times_neg y (suc x / y)) ∙ rest_down x (y * (suc x / y)) (suc x % y) (div-add-mod (suc x) y)

by_negative : (a : ℤ) (y : ℕ) → a -ℤ negsuc y *ℤ with_sign (neg_ℤ a) (unsigned_abs a / suc y) ≡ with_sign a (unsigned_abs a % suc y)
by_negative (pos zero) y =
    let e : 0 / suc y ≡ 0 = zero-div (suc y) in
    let k : negsuc y *ℤ pos (0 / suc y) ≡ pos (suc y * (0 / suc y)) = ap (λ n. negsuc y *ℤ pos n) e ∙ neg_times_neg y 0 ∙ ap (λ n. pos (suc y * n)) (sym e) in
    ap (λ m. pos 0 -ℤ m) k ∙ rest_up 0 (suc y * (0 / suc y)) (0 % suc y) (div-add-mod 0 (suc y))
by_negative (pos (suc x)) y =
    ap (λ m. pos (suc x) -ℤ m) (neg_times_neg y (suc x / suc y)) ∙ rest_up (suc x) (suc y * (suc x / suc y)) (suc x % suc y) (div-add-mod (suc x) (suc y))
by_negative (negsuc x) y = rest_down x (suc y * (suc x / suc y)) (suc x % suc y) (div-add-mod (suc x) (suc y))

pub division : (a b : ℤ) → 0 < unsigned_abs b → a -ℤ b *ℤ with_sign (a *ℤ int_signum b) (unsigned_abs a / unsigned_abs b) ≡ with_sign a (unsigned_abs a % unsigned_abs b)
division a (pos y) above =
    let one : min y 1 ≡ 1 = omega arith in
    ap (λ s. a -ℤ pos y *ℤ with_sign s (unsigned_abs a / y)) (ap (λ n. a *ℤ pos n) one ∙ by_plus a) ∙ by_positive a y
division a (negsuc y) above =
    ap (λ s. a -ℤ negsuc y *ℤ with_sign s (unsigned_abs a / suc y)) (by_minus a) ∙ by_negative a y

sign_scale : (b : ℤ) (q : ℕ) → 0 < q → int_signum (b *ℤ pos q) ≡ int_signum b
sign_scale b zero above = absurd (omega arith)
sign_scale (pos zero) (suc q) above =
    let e : 0 * suc q ≡ 0 = omega arith in
    ap (λ n. int_signum (pos n)) e
sign_scale (pos (suc n)) (suc q) above =
    let e : suc n * suc q ≡ suc (n * q + n + q) = omega arith in
    let f : min (suc n * suc q) 1 ≡ min (suc n) 1 = omega (arith, e) in
    ap pos f
sign_scale (negsuc n) (suc q) above =
    let e : suc n * suc q ≡ suc (n * q + n + q) = omega arith in
    ap (λ k. int_signum (neg_ℤ (pos k))) e

-- the whole quotient, by numbers at the longer fraction
whole_quotient : (f g : ℕ) (a b : ℤ) → 0 < unsigned_abs b → units_at false 0 (quotient_of (exact a f) (exact b g)) ≡ with_sign (a *ℤ pos (10 ^ g) *ℤ int_signum (b *ℤ pos (10 ^ f))) (unsigned_abs (a *ℤ pos (10 ^ g)) / unsigned_abs (b *ℤ pos (10 ^ f)))
whole_quotient f g a b above =
    let x = a *ℤ pos (10 ^ g) in
    let one : unsigned_abs (x *ℤ int_signum b) * 10 ^ 0 ≡ unsigned_abs x = omega (arith, turned_abs x b above) in
    let bottom : 10 ^ f * unsigned_abs b ≡ unsigned_abs (b *ℤ pos (10 ^ f)) = mul_comm (10 ^ f) (unsigned_abs b) ∙ sym (unsigned_abs-mul b (pos (10 ^ f))) in
    ap (λ n. with_sign (x *ℤ int_signum b) (n / (10 ^ f * unsigned_abs b))) one
    ∙ ap (λ m. with_sign (x *ℤ int_signum b) (unsigned_abs x / m)) bottom
    ∙ ap (λ s. with_sign (x *ℤ s) (unsigned_abs x / unsigned_abs (b *ℤ pos (10 ^ f)))) (sym (sign_scale b (10 ^ f) (one-le-pow f 10 (omega arith))))

scaled_above : (b : ℤ) (f : ℕ) → 0 < unsigned_abs b → 0 < unsigned_abs (b *ℤ pos (10 ^ f))
scaled_above b f above = omega (arith, unsigned_abs-mul b (pos (10 ^ f)), mul-lt-mul_of_pos_right {k = 10 ^ f} above (one-le-pow f 10 (omega arith)))

-- the remainder's top, by cross products
crossed_top : (f g : ℕ) (a b : ℤ) → 0 < unsigned_abs b → (remainder_of (exact a f) (exact b g)).top ≡ with_sign (a *ℤ pos (10 ^ g)) (unsigned_abs (a *ℤ pos (10 ^ g)) % unsigned_abs (b *ℤ pos (10 ^ f)))
crossed_top f g a b above =
    let x = a *ℤ pos (10 ^ g) in
    let y = b *ℤ pos (10 ^ f) in
    let q = units_at false 0 (quotient_of (exact a f) (exact b g)) in
    let one : 10 ^ g * 1 ≡ 10 ^ g = omega arith in
    ap (λ p. a *ℤ pos p -ℤ b *ℤ q *ℤ pos (10 ^ f)) one
    ∙ ap (λ z. x -ℤ z) (sym (swap_factors b q (10 ^ f)))
    ∙ ap (λ z. x -ℤ y *ℤ z) (whole_quotient f g a b above)
    ∙ division x y (scaled_above b f above)

mod_common : (n m p : ℕ) → 0 < p → (n * p) % (m * p) ≡ n % m * p
mod_common n m p above =
    let q = n / m in
    let e : (n * p) / (m * p) ≡ q = mul-div-mul_right n m above in
    let whole : m * p * (n * p / (m * p)) + (n * p) % (m * p) ≡ n * p = div-add-mod (n * p) (m * p) in
    let at : m * p * (n * p / (m * p)) ≡ m * q * p = ap (λ k. m * p * k) e ∙ omega arith in
    let parts : (m * q + n % m) * p ≡ n * p = ap (λ k. k * p) (div-add-mod n m) in
    let apart : (m * q + n % m) * p ≡ m * q * p + n % m * p = omega arith in
    omega (arith, whole, at, parts, apart)

with_sign-times : (z : ℤ) (n p : ℕ) → with_sign z (n * p) ≡ with_sign z n *ℤ pos p
with_sign-times (pos x) n p = refl
with_sign-times (negsuc x) n p = sym (neg_times n p)

rest_common : (x y : ℤ) (p : ℕ) → 0 < p → with_sign (x *ℤ pos p) (unsigned_abs (x *ℤ pos p) % unsigned_abs (y *ℤ pos p)) ≡ rest_of x y *ℤ pos p
rest_common x y p above =
    with_sign-scale x p _ above
    ∙ ap (λ n. with_sign x (n % unsigned_abs (y *ℤ pos p))) (unsigned_abs-mul x (pos p))
    ∙ ap (λ m. with_sign x ((unsigned_abs x * p) % m)) (unsigned_abs-mul y (pos p))
    ∙ ap (with_sign x) (mod_common (unsigned_abs x) (unsigned_abs y) p above)
    ∙ with_sign-times x (unsigned_abs x % unsigned_abs y) p

first_brought : (f g : ℕ) (a : ℤ) → brought f g a *ℤ pos (10 ^ min f g) ≡ a *ℤ pos (10 ^ g)
first_brought f g a = times_times a (10 ^ (max f g - f)) (10 ^ min f g) ∙ ap (λ n. a *ℤ pos n) (first_power f g)

second_brought : (f g : ℕ) (b : ℤ) → brought g f b *ℤ pos (10 ^ min f g) ≡ b *ℤ pos (10 ^ f)
second_brought f g b = times_times b (10 ^ (max g f - g)) (10 ^ min f g) ∙ ap (λ n. b *ℤ pos n) (second_power f g)

remainder_top : (f g : ℕ) (a b : ℤ) → 0 < unsigned_abs b → rest_of (brought f g a) (brought g f b) *ℤ pos (10 ^ min f g) ≡ (remainder_of (exact a f) (exact b g)).top
remainder_top f g a b above =
    sym (rest_common (brought f g a) (brought g f b) (10 ^ min f g) (one-le-pow (min f g) 10 (omega arith)))
    ∙ ap (λ x. with_sign x (unsigned_abs x % unsigned_abs (brought g f b *ℤ pos (10 ^ min f g)))) (first_brought f g a)
    ∙ ap (λ y. with_sign (a *ℤ pos (10 ^ g)) (unsigned_abs (a *ℤ pos (10 ^ g)) % unsigned_abs y)) (second_brought f g b)
    ∙ sym (crossed_top f g a b above)

pub remainder_units : (round : Bool) (r f g : ℕ) (a b : ℤ) → 0 < unsigned_abs b → with_sign (rest_of (brought f g a) (brought g f b)) (cut_or_rounded round (unsigned_abs (rest_of (brought f g a) (brought g f b)) * 10 ^ r) (1 * 10 ^ max f g)) ≡ units_at round r (remainder_of (exact a f) (exact b g))
remainder_units round r f g a b above =
    let z = rest_of (brought f g a) (brought g f b) in
    let e = remainder_of (exact a f) (exact b g) in
    let one : 1 * 10 ^ max f g ≡ 10 ^ max f g = omega arith in
    let bottom : 10 ^ max f g * 10 ^ min f g ≡ 10 ^ f * (10 ^ g * 1) = both_powers f g ∙ omega arith in
    ap (λ m. with_sign z (cut_or_rounded round (unsigned_abs z * 10 ^ r) m)) one
    ∙ sym (units_common round r z (10 ^ max f g) (10 ^ min f g) (one-le-pow (min f g) 10 (omega arith)))
    ∙ ap (λ t. with_sign t (cut_or_rounded round (unsigned_abs t * 10 ^ r) (10 ^ max f g * 10 ^ min f g))) (remainder_top f g a b above)
    ∙ ap (λ m. with_sign e.top (cut_or_rounded round (unsigned_abs e.top * 10 ^ r) m)) bottom

abs_with_sign : (z : ℤ) (n : ℕ) → unsigned_abs (with_sign z n) ≡ n
abs_with_sign (pos x) n = refl
abs_with_sign (negsuc x) zero = refl
abs_with_sign (negsuc x) (suc n) = refl

rest_room : (x y : ℤ) (q t : ℕ) → unsigned_abs x * q ≤ t → unsigned_abs (rest_of x y) * q ≤ t
rest_room x y q t small =
    omega (arith, ap (λ n. n * q) (abs_with_sign x (unsigned_abs x % unsigned_abs y)), mul-le-mul_right q (mod-le (unsigned_abs x) (unsigned_abs y)))

pub remainder_room : (a b to : Attr) (x y : ℤ) → IsOf a x → remainder_need a b to ≤ 38 → unsigned_abs (rest_of (brought (fraction_of a) (fraction_of b) x) y) * 10 ^ (fraction_of to - longer_fraction a b) ≤ 10 ^ 38
remainder_room a b to x y h need =
    rest_room (brought (fraction_of a) (fraction_of b) x) y (10 ^ (fraction_of to - longer_fraction a b)) (10 ^ 38)
    (raised_on x (digits_of a) (longer_fraction a b - fraction_of a) (fraction_of to - longer_fraction a b) 38 h.digits (omega (arith, fraction_le a h.numeric)))

-- a divisor stays one
pub brought_above : (f g : ℕ) (y : ℤ) → 0 < unsigned_abs y → 0 < unsigned_abs (brought f g y)
brought_above f g y above =
    omega (arith, unsigned_abs-mul y (pos (10 ^ (max f g - f))), mul-lt-mul_of_pos_right {k = 10 ^ (max f g - f)} above (one-le-pow (max f g - f) 10 (omega arith)))
