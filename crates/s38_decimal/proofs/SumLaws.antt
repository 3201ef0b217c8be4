-- Sums of numbers that are brought to the longer fraction.
use Rattle.std.proofs.Common.{◌≡◌, ℕ, suc, ◌+◌, ◌-◌, ◌*◌, ◌^◌, ◌<◌, ◌≤◌, max, min, Bool, ℤ, pos, negsuc, ◌+ℤ◌, ◌*ℤ◌, neg_ℤ, true, false, ltb, cond, refl, ap, sym, ◌∙◌, arith}
use Rattle.std.specs.Prelude.{unsigned_abs}
use Rattle.std.proofs.lemmas.Int.{unsigned_abs-mul}
use Rattle.std.proofs.lemmas.Nat.{pow-add}
use Rattle.std.proofs.Math.Nat.{div-one, one-le-pow, mul_assoc, mul-le-mul_right}
use Rattle.s38_base.specs.declared.attr.Attr.{Attr}
use Rattle.s38_base.specs.Attributes.{digits_of, fraction_of}
use Rattle.std.proofs.Math.IntN.{sub_ℕ}
use Rattle.s38_decimal.specs.Forms.{IsOf}
use Rattle.s38_decimal.specs.Need.{longer_fraction, sum_need}
use Rattle.s38_decimal.specs.Common.{brought, common_sum}
use Rattle.s38_decimal.specs.Values.{cut_or_rounded, difference_of, exact, sum_of, units_at, with_sign}
use Rattle.s38_decimal.proofs.Attributes.{fraction_le}
use Rattle.s38_decimal.proofs.Fractions.{cut_or_rounded-common}
use Rattle.s38_decimal.proofs.Integers.{negative_times, sum_times, times_times}
use Rattle.s38_decimal.proofs.ProductLaws.{with_sign-scale}
use Rattle.s38_decimal.proofs.Rooms.{raised_le, same}
use Rattle.std.specs.Int.{w128, cast_signed, cast_unsigned}

-- the units of a fraction don't change by a common factor
pub units_common : (round : Bool) (r : ℕ) (z : ℤ) (m p : ℕ) → 0 < p → with_sign (z *ℤ pos p) (cut_or_rounded round (unsigned_abs (z *ℤ pos p) * 10 ^ r) (m * p)) ≡ with_sign z (cut_or_rounded round (unsigned_abs z * 10 ^ r) m)
units_common round r z m p above =
    let e : unsigned_abs (z *ℤ pos p) * 10 ^ r ≡ unsigned_abs z * 10 ^ r * p = ap (λ n. n * 10 ^ r) (unsigned_abs-mul z (pos p)) ∙ omega arith in
    with_sign-scale z p _ above
    ∙ ap (λ n. with_sign z (cut_or_rounded round n (m * p))) e
    ∙ ap (with_sign z) (cut_or_rounded-common round (unsigned_abs z * 10 ^ r) m p above)

-- what each is raised by, and what both lack
pub first_power : (f g : ℕ) → 10 ^ (max f g - f) * 10 ^ min f g ≡ 10 ^ g
first_power f g = sym (pow-add 10 (max f g - f) (min f g)) ∙ ap (λ k. 10 ^ k) (omega arith)

pub second_power : (f g : ℕ) → 10 ^ (max g f - g) * 10 ^ min f g ≡ 10 ^ f
second_power f g = sym (pow-add 10 (max g f - g) (min f g)) ∙ ap (λ k. 10 ^ k) (omega arith)

pub both_powers : (f g : ℕ) → 10 ^ max f g * 10 ^ min f g ≡ 10 ^ f * 10 ^ g
both_powers f g = sym (pow-add 10 (max f g) (min f g)) ∙ ap (λ k. 10 ^ k) (omega arith) ∙ pow-add 10 f g

common_top : (f g : ℕ) (x y : ℤ) → common_sum f g x y *ℤ pos (10 ^ min f g) ≡ x *ℤ pos (10 ^ g) +ℤ y *ℤ pos (10 ^ f)
common_top f g x y =
    sum_times (brought f g x) (brought g f y) (10 ^ min f g)
    ∙ ap (λ z. z +ℤ y *ℤ pos (10 ^ (max g f - g)) *ℤ pos (10 ^ min f g)) (times_times x (10 ^ (max f g - f)) (10 ^ min f g) ∙ ap (λ n. x *ℤ pos n) (first_power f g))
    ∙ ap (λ z. x *ℤ pos (10 ^ g) +ℤ z) (times_times y (10 ^ (max g f - g)) (10 ^ min f g) ∙ ap (λ n. y *ℤ pos n) (second_power f g))

pub sum_units : (round : Bool) (r f g : ℕ) (x y : ℤ) → with_sign (common_sum f g x y) (cut_or_rounded round (unsigned_abs (common_sum f g x y) * 10 ^ r) (1 * 10 ^ max f g)) ≡ units_at round r (sum_of (exact x f) (exact y g))
sum_units round r f g x y =
    let z = common_sum f g x y in
    let one : 1 * 10 ^ max f g ≡ 10 ^ max f g = omega arith in
    ap (λ m. with_sign z (cut_or_rounded round (unsigned_abs z * 10 ^ r) m)) one
    ∙ sym (units_common round r z (10 ^ max f g) (10 ^ min f g) (one-le-pow (min f g) 10 (omega arith)))
    ∙ ap (λ t. with_sign t (cut_or_rounded round (unsigned_abs t * 10 ^ r) (10 ^ max f g * 10 ^ min f g))) (common_top f g x y)
    ∙ ap (λ m. with_sign (x *ℤ pos (10 ^ g) +ℤ y *ℤ pos (10 ^ f)) (cut_or_rounded round (unsigned_abs (x *ℤ pos (10 ^ g) +ℤ y *ℤ pos (10 ^ f)) * 10 ^ r) m)) (both_powers f g)

-- a difference is the sum with the negative
pub difference_is_sum : (x y : ℤ) (f g : ℕ) → difference_of (exact x f) (exact y g) ≡ sum_of (exact x f) (exact (neg_ℤ y) g)
difference_is_sum x y f g = ap (λ t. record { top = x *ℤ pos (10 ^ g) +ℤ t; bottom = 10 ^ f * 10 ^ g }) (sym (negative_times y (10 ^ f)))

-- under the need of a sum, a number that is brought to the longer fraction and on to the receiver's has 37 digits
few : (own other to : Attr) (x : ℤ) → IsOf own x → sum_need own other to ≤ 38 → digits_of own + (longer_fraction own other - fraction_of own + (fraction_of to - longer_fraction own other)) ≤ 37
few own other to x h need = omega (arith, fraction_le own h.numeric)

few_turned : (own other to : Attr) (x : ℤ) → IsOf own x → sum_need other own to ≤ 38 → digits_of own + (longer_fraction own other - fraction_of own + (fraction_of to - longer_fraction other own)) ≤ 37
few_turned own other to x h need = omega (arith, fraction_le own h.numeric)

pub raised_on : (x : ℤ) (d i j t : ℕ) → unsigned_abs x < 10 ^ d → d + (i + j) ≤ t → unsigned_abs (x *ℤ pos (10 ^ i)) * 10 ^ j ≤ 10 ^ t
raised_on x d i j t small few =
    let e : unsigned_abs (x *ℤ pos (10 ^ i)) * 10 ^ j ≡ unsigned_abs x * 10 ^ (i + j) =
    ap (λ n. n * 10 ^ j) (unsigned_abs-mul x (pos (10 ^ i))) ∙ mul_assoc (unsigned_abs x) (10 ^ i) (10 ^ j) ∙ ap (λ p. unsigned_abs x * p) (sym (pow-add 10 i j)) in
    omega (arith, e, raised_le (unsigned_abs x) d (i + j) t small few)

abs_apart : (m n : ℕ) → unsigned_abs (sub_ℕ m (suc n)) ≤ m + suc n
abs_apart m n = elim (ltb m (suc n)) as (λ t. unsigned_abs (cond t (negsuc (suc n - suc m)) (pos (m - suc n))) ≤ m + suc n) [ true ↦ omega arith | false ↦ omega arith ]

abs_sum : (x y : ℤ) → unsigned_abs (x +ℤ y) ≤ unsigned_abs x + unsigned_abs y
abs_sum (pos m) (pos n) = omega arith
abs_sum (pos m) (negsuc n) = abs_apart m n
abs_sum (negsuc m) (pos n) = omega (arith, abs_apart n m)
abs_sum (negsuc m) (negsuc n) = omega arith

sum_on : (x y : ℤ) (q : ℕ) → unsigned_abs x * q ≤ 10 ^ 37 → unsigned_abs y * q ≤ 10 ^ 37 → unsigned_abs (x +ℤ y) * q ≤ 10 ^ 38
sum_on x y q first second = omega (arith, mul-le-mul_right q (abs_sum x y))

pub common_room : (a b to : Attr) (x y : ℤ) → IsOf a x → IsOf b y → sum_need a b to ≤ 38 → unsigned_abs (common_sum (fraction_of a) (fraction_of b) x y) * 10 ^ (fraction_of to - longer_fraction a b) ≤ 10 ^ 38
common_room a b to x y first second need =
    sum_on (brought (fraction_of a) (fraction_of b) x) (brought (fraction_of b) (fraction_of a) y) (10 ^ (fraction_of to - longer_fraction a b))
    (raised_on x (digits_of a) (longer_fraction a b - fraction_of a) (fraction_of to - longer_fraction a b) 37 first.digits (few a b to x first need))
    (raised_on y (digits_of b) (longer_fraction b a - fraction_of b) (fraction_of to - longer_fraction a b) 37 second.digits (few_turned b a to y second need))

-- a number that is brought to the longer fraction
pub brought_small : (own other : Attr) (x : ℤ) (t : ℕ) → IsOf own x → digits_of own + (longer_fraction own other - fraction_of own) ≤ t → unsigned_abs (brought (fraction_of own) (fraction_of other) x) ≤ 10 ^ t
brought_small own other x t h room =
    omega (arith, unsigned_abs-mul x (pos (10 ^ (longer_fraction own other - fraction_of own))), raised_le (unsigned_abs x) (digits_of own) (longer_fraction own other - fraction_of own) t h.digits room)

-- what a call gives that raises a number
pub raised_is : (r x : ℤ) (behind f most own : ℕ) → r ≡ cast_signed w128 (cast_unsigned w128 x) *ℤ pos (10 ^ (behind - f)) → unsigned_abs x ≤ 10 ^ 38 → behind ≡ most → f ≡ own → r ≡ x *ℤ pos (10 ^ (most - own))
raised_is r x behind f most own is small behind_is f_is =
    is ∙ ap (λ z. z *ℤ pos (10 ^ (behind - f))) (same x small) ∙ ap (λ n. x *ℤ pos (10 ^ (n - f))) behind_is ∙ ap (λ n. x *ℤ pos (10 ^ (most - n))) f_is

-- at one fraction the sum stays as it is
same_sign : (z : ℤ) → with_sign z (unsigned_abs z) ≡ z
same_sign (pos n) = refl
same_sign (negsuc n) = refl

whole_units : (round : Bool) (n : ℕ) → cut_or_rounded round n 1 ≡ n
whole_units true n = omega arith
whole_units false n = div-one n

pub plain_sum : (round : Bool) (f : ℕ) (x y : ℤ) → x +ℤ y ≡ units_at round f (sum_of (exact x f) (exact y f))
plain_sum round f x y =
    let p = 10 ^ f in
    let z = x +ℤ y in
    let above : 0 < p = one-le-pow f 10 (omega arith) in
    let one : 1 * p ≡ p = omega arith in
    sym (ap (λ t. with_sign t (cut_or_rounded round (unsigned_abs t * p) (p * p))) (sym (sum_times x y p))
    ∙ units_common round f z p p above
    ∙ ap (λ m. with_sign z (cut_or_rounded round (unsigned_abs z * p) m)) (sym one)
    ∙ ap (with_sign z) (cut_or_rounded-common round (unsigned_abs z) 1 p above ∙ whole_units round (unsigned_abs z))
    ∙ same_sign z)
