-- Products and scaled numbers.
use Rattle.std.proofs.Common.{◌≡◌, ℕ, zero, suc, true, false, ◌+◌, ◌-◌, ◌*◌, ◌^◌, ◌<◌, ◌≤◌, Bool, ℤ, pos, negsuc, ◌*ℤ◌, neg_ℤ, refl, ap, sym, ◌∙◌, arith}
use Rattle.std.proofs.lemmas.Bool.Decides.{nat_tests}
use Rattle.std.specs.Prelude.{IsTrue, unsigned_abs, int_le}
use Rattle.std.proofs.lemmas.Int.{unsigned_abs-mul}
use Rattle.std.proofs.lemmas.Nat.{pow-add}
use Rattle.std.proofs.Math.Nat.{le-mul_of_pos_right, one-le-pow}
use Rattle.std.specs.Int.{w128, cast_signed, cast_unsigned}
use Rattle.s38_base.specs.declared.attr.Attr.{Attr}
use Rattle.s38_base.specs.Scalar.{fits}
use Rattle.s38_base.specs.Attributes.{digits_of, fraction_of}
use Rattle.s38_decimal.specs.Need.{copy_need, product_need, scale_need}
use Rattle.s38_decimal.specs.Values.{cut_or_rounded, exact, product_of, scaled_by, units_at, with_sign}
use Rattle.s38_decimal.proofs.Attributes.{IsOf-fits, IsOf-negative, fits_below, fits_numeric, fits_same, fraction_le}
use Rattle.s38_decimal.proofs.Rooms.{product_below, raised_le}

-- the product of two numbers under their need
pub product_top : (a b to : Attr) (x y : ℤ) → IsTrue (fits a x) → IsTrue (fits b y) → product_need a b to ≤ 38 → unsigned_abs (x *ℤ y) * 10 ^ (fraction_of to - (fraction_of a + fraction_of b)) ≤ 10 ^ 38
product_top a b to x y first second need =
    raised_le (unsigned_abs (x *ℤ y)) (digits_of a + digits_of b) (fraction_of to - (fraction_of a + fraction_of b)) 38
    (product_below x y (digits_of a) (digits_of b) (fits_below a x first) (fits_below b y second))
    (omega (arith, fraction_le a (fits_numeric a x first), fraction_le b (fits_numeric b y second)))

pub product_units : (round : Bool) (r fa fb : ℕ) (x y : ℤ) → with_sign (x *ℤ y) (cut_or_rounded round (unsigned_abs (x *ℤ y) * 10 ^ r) (1 * 10 ^ (fa + fb))) ≡ units_at round r (product_of (exact x fa) (exact y fb))
product_units round r fa fb x y =
    let e : 1 * 10 ^ (fa + fb) ≡ 10 ^ fa * 10 ^ fb = omega (arith, pow-add 10 fa fb) in
    ap (λ m. with_sign (x *ℤ y) (cut_or_rounded round (unsigned_abs (x *ℤ y) * 10 ^ r) m)) e

-- their product as words
pub product_room : (a b to : Attr) (x y : ℤ) → IsTrue (fits a x) → IsTrue (fits b y) → product_need a b to ≤ 38 → unsigned_abs (cast_signed w128 (cast_unsigned w128 x)) * unsigned_abs (cast_signed w128 (cast_unsigned w128 y)) ≤ 10 ^ 38
product_room a b to x y first second need =
    let e : unsigned_abs (cast_signed w128 (cast_unsigned w128 x)) * unsigned_abs (cast_signed w128 (cast_unsigned w128 y)) ≡ unsigned_abs (x *ℤ y) =
    ap (λ z. unsigned_abs z * unsigned_abs (cast_signed w128 (cast_unsigned w128 y))) (fits_same a x first)
    ∙ ap (λ z. unsigned_abs x * unsigned_abs z) (fits_same b y second) ∙ sym (unsigned_abs-mul x y) in
    omega (arith, e, product_top a b to x y first second need, le-mul_of_pos_right (unsigned_abs (x *ℤ y)) (one-le-pow (fraction_of to - (fraction_of a + fraction_of b)) 10 (omega arith)))

-- a factor above 0 leaves the sign
pub with_sign-scale : (z : ℤ) (p n : ℕ) → 0 < p → with_sign (z *ℤ pos p) n ≡ with_sign z n
with_sign-scale (pos a) p n h = refl
with_sign-scale (negsuc a) zero n h = absurd (omega arith)
with_sign-scale (negsuc a) (suc p) n h =
    let e : suc a * suc p ≡ suc (a * p + a + p) = omega arith in
    ap (λ m. with_sign (neg_ℤ (pos m)) n) e

pub raised_units : (round : Bool) (r fa k : ℕ) (x : ℤ) → with_sign x (cut_or_rounded round (unsigned_abs x * 10 ^ (r + k)) (1 * 10 ^ fa)) ≡ units_at round r (scaled_by (exact x fa) (pos k))
raised_units round r fa k x =
    let e : unsigned_abs x * 10 ^ (r + k) ≡ unsigned_abs (x *ℤ pos (10 ^ k)) * 10 ^ r = omega (arith, unsigned_abs-mul x (pos (10 ^ k)), ap (λ p. unsigned_abs x * p) (pow-add 10 r k), ap (λ n. n * 10 ^ r) (unsigned_abs-mul x (pos (10 ^ k)))) in
    let m : 1 * 10 ^ fa ≡ 10 ^ fa = omega arith in
    ap (λ n. with_sign x (cut_or_rounded round n (1 * 10 ^ fa))) e
    ∙ ap (λ b. with_sign x (cut_or_rounded round (unsigned_abs (x *ℤ pos (10 ^ k)) * 10 ^ r) b)) m
    ∙ sym (with_sign-scale x (10 ^ k) _ (one-le-pow k 10 (omega arith)))

pub lowered_units : (round : Bool) (r fa k : ℕ) (x : ℤ) → 0 < k → with_sign x (cut_or_rounded round (unsigned_abs x * 10 ^ r) (1 * 10 ^ (fa + k))) ≡ units_at round r (scaled_by (exact x fa) (negsuc (k - 1)))
lowered_units round r fa k x some =
    let again : k ≡ k - 1 + 1 = omega arith in
    let m : 1 * 10 ^ (fa + k) ≡ 10 ^ fa * 10 ^ (k - 1 + 1) = omega (arith, ap (λ j. 10 ^ fa * 10 ^ j) again, pow-add 10 fa k) in
    ap (λ b. with_sign x (cut_or_rounded round (unsigned_abs x * 10 ^ r) b)) m

-- a power by its sign
pub power_up : (k : ℤ) (n : ℕ) → n ≡ unsigned_abs k → int_le (pos 0) k ≡ true → k ≡ pos n
power_up (pos k) n is up = ap pos (sym is)
power_up (negsuc k) n is up = cc

not_above : (k : ℕ) → int_le (pos 0) (pos k) ≡ false → ⊥
not_above k down = grind (arith, nat_tests)

pub power_down : (k : ℤ) (n : ℕ) → n ≡ unsigned_abs k → int_le (pos 0) k ≡ false → (0 < n) × (k ≡ negsuc (n - 1))
power_down (pos k) n is down = absurd (not_above k down)
power_down (negsuc k) n is down = (omega arith, ap negsuc (omega arith))

pub raised_top : (a to : Attr) (x : ℤ) (k : ℕ) → IsTrue (fits a x) → scale_need a to (pos k) ≤ 38 → unsigned_abs x * 10 ^ (fraction_of to + k - fraction_of a) ≤ 10 ^ 38
raised_top a to x k h need =
    raised_le (unsigned_abs x) (digits_of a) (fraction_of to + k - fraction_of a) 38 (fits_below a x h) (omega (arith, fraction_le a (fits_numeric a x h)))

pub lowered_top : (a to : Attr) (x : ℤ) (k : ℕ) → 0 < k → IsTrue (fits a x) → scale_need a to (negsuc (k - 1)) ≤ 38 → unsigned_abs x * 10 ^ (fraction_of to - (fraction_of a + k)) ≤ 10 ^ 38
lowered_top a to x k some h need =
    raised_le (unsigned_abs x) (digits_of a) (fraction_of to - (fraction_of a + k)) 38 (fits_below a x h) (omega (arith, fraction_le a (fits_numeric a x h)))

pub negative_top : (a to : Attr) (x : ℤ) → IsTrue (fits a x) → copy_need a to ≤ 38 → unsigned_abs (neg_ℤ x) * 10 ^ (fraction_of to - fraction_of a) ≤ 10 ^ 38
negative_top a to x h need =
    raised_le (unsigned_abs (neg_ℤ x)) (digits_of a) (fraction_of to - fraction_of a) 38 (IsOf-negative a x (IsOf-fits a x h)).digits (omega (arith, fraction_le a (fits_numeric a x h)))
