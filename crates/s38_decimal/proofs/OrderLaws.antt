-- The order of numbers with a scale.
use Rattle.std.proofs.Common.{◌≡◌, ℕ, zero, suc, ◌+◌, ◌-◌, ◌*◌, ◌/◌, ◌%◌, ◌^◌, ◌<◌, ◌≤◌, ◌≢◌, max, min, true, false, ℤ, pos, negsuc, ◌*ℤ◌, neg_ℤ, ⊎_elim, ap, sym, refl, ◌∙◌, arith}
use Rattle.std.specs.declared.cmp.Ordering.TheVariants.{Less, Equal, Greater}
use Rattle.std.specs.Prelude.{unsigned_abs, int_lt}
use Rattle.std.specs.Ordering.{int_cmp, nat_cmp}
use Rattle.std.specs.Cmp.{nat_cmp_is}
use Rattle.std.proofs.lemmas.Bool.{cases_lt, cases_eq}
use Rattle.std.proofs.lemmas.Bool.Decides.{nat_tests}
use Rattle.std.proofs.lemmas.Nat.{pow-add}
use Rattle.std.proofs.Math.Nat.{div-add-mod', mod-lt, mul-le-mul_right, mul-lt-mul_of_pos_right, mul_assoc, one-le-pow}

less : (a b : ℕ) → a < b → nat_cmp a b ≡ Less
less a b h = sym (nat_cmp_is a b Less h)

equal : (a b : ℕ) → a ≡ b → nat_cmp a b ≡ Equal
equal a b h = sym (nat_cmp_is a b Equal h)

greater : (a b : ℕ) → b < a → nat_cmp a b ≡ Greater
greater a b h = sym (nat_cmp_is a b Greater h)

-- a common factor leaves the order
pub nat_cmp-common : (a b p : ℕ) → 0 < p → nat_cmp (a * p) (b * p) ≡ nat_cmp a b
nat_cmp-common a b p above =
    ⊎_elim
    (λ h. less (a * p) (b * p) (omega (arith, mul-le-mul_right {m = a + 1} {n = b} p (omega arith))) ∙ sym (less a b h))
    (λ h. ⊎_elim
    (λ e. equal (a * p) (b * p) (ap (λ n. n * p) e) ∙ sym (equal a b e))
    (λ ne. greater (a * p) (b * p) (omega (arith, mul-le-mul_right {m = b + 1} {n = a} p (omega arith))) ∙ sym (greater a b (omega arith)))
    (cases_eq a b))
    (cases_lt a b)

-- the whole parts decide where they differ
pub by_whole : (q s r t p : ℕ) → s < p → t < p → q ≢ r → nat_cmp q r ≡ nat_cmp (q * p + s) (r * p + t)
by_whole q s r t p s_below t_below ne =
    ⊎_elim
    (λ h. less q r h ∙ sym (less (q * p + s) (r * p + t) (omega (arith, mul-le-mul_right {m = q + 1} {n = r} p (omega arith)))))
    (λ h. greater q r (omega arith) ∙ sym (greater (q * p + s) (r * p + t) (omega (arith, mul-le-mul_right {m = r + 1} {n = q} p (omega arith)))))
    (cases_lt q r)

-- and the rests where they don't
pub by_rest : (q s r t p : ℕ) → q ≡ r → nat_cmp s t ≡ nat_cmp (q * p + s) (r * p + t)
by_rest q s r t p e =
    let same = ap (λ n. n * p) e in
    ⊎_elim
    (λ h. less s t h ∙ sym (less (q * p + s) (r * p + t) (omega arith)))
    (λ h. ⊎_elim
    (λ e'. equal s t e' ∙ sym (equal (q * p + s) (r * p + t) (omega arith)))
    (λ ne. greater s t (omega arith) ∙ sym (greater (q * p + s) (r * p + t) (omega arith)))
    (cases_eq s t))
    (cases_lt s t)

parts_of : (n q p r power most : ℕ) → n ≡ q * p + r → most ≡ p * power → n * power ≡ q * most + r * power
parts_of n q p r power most is e =
    let one : n * power ≡ (q * p + r) * power = ap (λ x. x * power) is in
    let two : (q * p + r) * power ≡ q * (p * power) + r * power = omega arith in
    one ∙ two ∙ ap (λ x. q * x + r * power) (sym e)

power_apart : (f most : ℕ) → f ≤ most → 10 ^ most ≡ 10 ^ f * 10 ^ (most - f)
power_apart f most h = ap (λ k. 10 ^ k) (omega arith) ∙ pow-add 10 f (most - f)

-- a number by its whole part and its rest, at a longer fraction
pub parts : (n f most : ℕ) → f ≤ most → n * 10 ^ (most - f) ≡ n / 10 ^ f * 10 ^ most + n % 10 ^ f * 10 ^ (most - f)
parts n f most h =
    parts_of n (n / 10 ^ f) (10 ^ f) (n % 10 ^ f) (10 ^ (most - f)) (10 ^ most) (sym (div-add-mod' n (10 ^ f))) (power_apart f most h)

pub rest_below : (n f most : ℕ) → f ≤ most → n % 10 ^ f * 10 ^ (most - f) < 10 ^ most
rest_below n f most h =
    omega (arith, power_apart f most h, mul-lt-mul_of_pos_right {k = 10 ^ (most - f)} (mod-lt n (one-le-pow f 10 (omega arith))) (one-le-pow (most - f) 10 (omega arith)))

up_power : (f g : ℕ) → 10 ^ (max f g - f) * 10 ^ min f g ≡ 10 ^ g
up_power f g = sym (pow-add 10 (max f g - f) (min f g)) ∙ ap (λ k. 10 ^ k) (omega arith)

up_other : (f g : ℕ) → 10 ^ (max f g - g) * 10 ^ min f g ≡ 10 ^ f
up_other f g = sym (pow-add 10 (max f g - g) (min f g)) ∙ ap (λ k. 10 ^ k) (omega arith)

-- the order at the longer fraction is the order by cross products
pub crossed : (n m f g : ℕ) → nat_cmp (n * 10 ^ (max f g - f)) (m * 10 ^ (max f g - g)) ≡ nat_cmp (n * 10 ^ g) (m * 10 ^ f)
crossed n m f g =
    sym (nat_cmp-common (n * 10 ^ (max f g - f)) (m * 10 ^ (max f g - g)) (10 ^ min f g) (one-le-pow (min f g) 10 (omega arith)))
    ∙ ap (λ x. nat_cmp x (m * 10 ^ (max f g - g) * 10 ^ min f g)) (mul_assoc n (10 ^ (max f g - f)) (10 ^ min f g) ∙ ap (λ p. n * p) (up_power f g))
    ∙ ap (λ y. nat_cmp (n * 10 ^ g) y) (mul_assoc m (10 ^ (max f g - g)) (10 ^ min f g) ∙ ap (λ p. m * p) (up_other f g))

-- the whole parts decide, or else the rests
pub whole_decides : (n m f g : ℕ) → n / 10 ^ f ≢ m / 10 ^ g → nat_cmp (n / 10 ^ f) (m / 10 ^ g) ≡ nat_cmp (n * 10 ^ (max f g - f)) (m * 10 ^ (max f g - g))
whole_decides n m f g ne =
    by_whole (n / 10 ^ f) (n % 10 ^ f * 10 ^ (max f g - f)) (m / 10 ^ g) (m % 10 ^ g * 10 ^ (max f g - g)) (10 ^ max f g) (rest_below n f (max f g) (omega arith)) (rest_below m g (max f g) (omega arith)) ne
    ∙ sym (ap (λ x. nat_cmp x (m * 10 ^ (max f g - g))) (parts n f (max f g) (omega arith)) ∙ ap (λ y. nat_cmp (n / 10 ^ f * 10 ^ max f g + n % 10 ^ f * 10 ^ (max f g - f)) y) (parts m g (max f g) (omega arith)))

pub rest_decides : (n m f g : ℕ) → n / 10 ^ f ≡ m / 10 ^ g → nat_cmp (n % 10 ^ f * 10 ^ (max f g - f)) (m % 10 ^ g * 10 ^ (max f g - g)) ≡ nat_cmp (n * 10 ^ (max f g - f)) (m * 10 ^ (max f g - g))
rest_decides n m f g e =
    by_rest (n / 10 ^ f) (n % 10 ^ f * 10 ^ (max f g - f)) (m / 10 ^ g) (m % 10 ^ g * 10 ^ (max f g - g)) (10 ^ max f g) e
    ∙ sym (ap (λ x. nat_cmp x (m * 10 ^ (max f g - g))) (parts n f (max f g) (omega arith)) ∙ ap (λ y. nat_cmp (n / 10 ^ f * 10 ^ max f g + n % 10 ^ f * 10 ^ (max f g - f)) y) (parts m g (max f g) (omega arith)))

pos_cmp : (a b : ℕ) → nat_cmp a b ≡ int_cmp (pos a) (pos b)
pos_cmp a b = grind (arith, nat_tests)

neg_cmp : (a b : ℕ) → nat_cmp b a ≡ int_cmp (neg_ℤ (pos a)) (neg_ℤ (pos b))
neg_cmp zero zero = grind (arith, nat_tests)
neg_cmp zero (suc b) = greater (suc b) zero (omega arith)
neg_cmp (suc a) zero = less zero (suc a) (omega arith)
neg_cmp (suc a) (suc b) = grind (arith, nat_tests)

not_below : (n : ℕ) → int_lt (pos n) (pos 0) ≡ true → ⊥
not_below n h = grind (arith, nat_tests)

-- by the signs
pub order_up : (x y : ℤ) (p q : ℕ) → int_lt x (pos 0) ≡ false → int_lt y (pos 0) ≡ false → nat_cmp (unsigned_abs x * p) (unsigned_abs y * q) ≡ int_cmp (x *ℤ pos p) (y *ℤ pos q)
order_up (pos n) (pos m) p q h i = pos_cmp (n * p) (m * q)
order_up (pos n) (negsuc m) p q h i = cc
order_up (negsuc n) y p q h i = cc

pub order_down : (x y : ℤ) (p q : ℕ) → int_lt x (pos 0) ≡ true → int_lt y (pos 0) ≡ true → nat_cmp (unsigned_abs y * q) (unsigned_abs x * p) ≡ int_cmp (x *ℤ pos p) (y *ℤ pos q)
order_down (negsuc n) (negsuc m) p q h i = neg_cmp (suc n * p) (suc m * q)
order_down (pos n) y p q h i = absurd (not_below n h)
order_down (negsuc n) (pos m) p q h i = absurd (not_below m i)

pub order_less : (x y : ℤ) (p q : ℕ) → 0 < p → int_lt x (pos 0) ≡ true → int_lt y (pos 0) ≡ false → Less ≡ int_cmp (x *ℤ pos p) (y *ℤ pos q)
order_less (pos n) y p q above h i = absurd (not_below n h)
order_less (negsuc n) (negsuc m) p q above h i = cc
order_less (negsuc n) (pos m) zero q above h i = absurd (omega arith)
order_less (negsuc n) (pos m) (suc p) q above h i =
    let e : suc n * suc p ≡ suc (n * p + n + p) = omega arith in
    sym (ap (λ k. int_cmp (neg_ℤ (pos k)) (pos (m * q))) e)

pub order_greater : (x y : ℤ) (p q : ℕ) → 0 < q → int_lt x (pos 0) ≡ false → int_lt y (pos 0) ≡ true → Greater ≡ int_cmp (x *ℤ pos p) (y *ℤ pos q)
order_greater (negsuc n) y p q above h i = cc
order_greater (pos n) (pos m) p q above h i = absurd (not_below m i)
order_greater (pos n) (negsuc m) p zero above h i = absurd (omega arith)
order_greater (pos n) (negsuc m) p (suc q) above h i =
    let e : suc m * suc q ≡ suc (m * q + m + q) = omega arith in
    sym (ap (λ k. int_cmp (pos (n * p)) (neg_ℤ (pos k))) e)

not_negative : (n : ℕ) → int_lt (pos n) (pos 0) ≡ false
not_negative n = grind (arith, nat_tests)

-- a common factor leaves the order of signed numbers
pub order_same : (x y : ℤ) (p : ℕ) → 0 < p → int_cmp x y ≡ int_cmp (x *ℤ pos p) (y *ℤ pos p)
order_same (pos n) (pos m) p above = sym (pos_cmp n m) ∙ sym (nat_cmp-common n m p above) ∙ pos_cmp (n * p) (m * p)
order_same (pos n) (negsuc m) p above = order_greater (pos n) (negsuc m) p p above (not_negative n) refl
order_same (negsuc n) (pos m) p above = order_less (negsuc n) (pos m) p p above refl (not_negative m)
order_same (negsuc n) (negsuc m) p above =
    sym (neg_cmp (suc n) (suc m)) ∙ sym (nat_cmp-common (suc m) (suc n) p above) ∙ neg_cmp (suc n * p) (suc m * p)
