-- Laws of signed products with a factor that is not negative.
use Rattle.std.proofs.Common.{◌≡◌, ℕ, zero, suc, ◌*◌, ℤ, pos, negsuc, ◌+ℤ◌, ◌*ℤ◌, neg_ℤ, refl, ap, sym, ◌∙◌, arith}
use Rattle.std.proofs.Math.IntN.{suc_ℤ-*ℤ, *ℤ_comm, *ℤ-zero, *ℤ-negsuc}
use Rattle.std.proofs.Math.Nat.{mul_comm}
use Rattle.std.proofs.lemmas.Int.{ints}

pub times_suc : (z : ℤ) (p : ℕ) → z *ℤ pos (suc p) ≡ z *ℤ pos p +ℤ z
times_suc z p = *ℤ_comm z (pos (suc p)) ∙ suc_ℤ-*ℤ (pos p) z ∙ ap (λ w. w +ℤ z) (*ℤ_comm (pos p) z)

sums_apart : (a b x y : ℤ) → (a +ℤ b) +ℤ (x +ℤ y) ≡ (a +ℤ x) +ℤ (b +ℤ y)
sums_apart a b x y = omega (arith, ints)

-- a factor goes to both terms
pub sum_times : (x y : ℤ) (p : ℕ) → (x +ℤ y) *ℤ pos p ≡ x *ℤ pos p +ℤ y *ℤ pos p
sum_times x y zero = *ℤ-zero (x +ℤ y) ∙ sym (ap (λ w. w +ℤ y *ℤ pos zero) (*ℤ-zero x) ∙ ap (λ w. pos zero +ℤ w) (*ℤ-zero y))
sum_times x y (suc p) =
    times_suc (x +ℤ y) p ∙ ap (λ w. w +ℤ (x +ℤ y)) (sum_times x y p)
    ∙ sums_apart (x *ℤ pos p) (y *ℤ pos p) x y
    ∙ sym (ap (λ w. w +ℤ y *ℤ pos (suc p)) (times_suc x p) ∙ ap (λ w. x *ℤ pos p +ℤ x +ℤ w) (times_suc y p))

-- the minus of a factor is that of the product
pub neg_times : (n p : ℕ) → neg_ℤ (pos n) *ℤ pos p ≡ neg_ℤ (pos (n * p))
neg_times zero p =
    let e : 0 * p ≡ 0 = omega arith in
    ap pos e ∙ sym (ap (λ m. neg_ℤ (pos m)) e)
neg_times (suc n) p = refl

pub negative_times : (z : ℤ) (p : ℕ) → neg_ℤ z *ℤ pos p ≡ neg_ℤ (z *ℤ pos p)
negative_times (pos n) p = neg_times n p
negative_times (negsuc n) p = sym (neg_neg (suc n * p))
  where
    neg_neg : (m : ℕ) → neg_ℤ (neg_ℤ (pos m)) ≡ pos m
    neg_neg zero = refl
    neg_neg (suc m) = refl

-- two factors are one
pub times_times : (z : ℤ) (p q : ℕ) → z *ℤ pos p *ℤ pos q ≡ z *ℤ pos (p * q)
times_times (pos a) p q = ap pos (omega arith)
times_times (negsuc a) p q = neg_times (suc a * p) q ∙ ap (λ n. neg_ℤ (pos n)) (omega arith)

-- the order of two factors is free
swap_pos : (z : ℤ) (m p : ℕ) → z *ℤ pos p *ℤ pos m ≡ z *ℤ pos m *ℤ pos p
swap_pos z m p = times_times z p m ∙ ap (λ n. z *ℤ pos n) (mul_comm p m) ∙ sym (times_times z m p)

pub swap_factors : (z s : ℤ) (p : ℕ) → z *ℤ pos p *ℤ s ≡ z *ℤ s *ℤ pos p
swap_factors z (pos m) p = swap_pos z m p
swap_factors z (negsuc m) p =
    *ℤ-negsuc (z *ℤ pos p) m ∙ ap neg_ℤ (swap_pos z (suc m) p)
    ∙ sym (negative_times (z *ℤ pos (suc m)) p) ∙ ap (λ y. y *ℤ pos p) (sym (*ℤ-negsuc z m))
