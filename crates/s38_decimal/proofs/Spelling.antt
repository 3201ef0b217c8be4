-- Digits that are read one after the other.
use Rattle.std.proofs.Common.{◌≡◌, ℕ, zero, suc, ◌<◌, ◌&&◌, Bool, true, false, nat_lt, refl, arith}
use Rattle.s38_base.specs.Scalar.{are_decimal}

and_false : (b : Bool) → (b && false) ≡ false
and_false true = refl
and_false false = refl

-- one place that is no digit spoils them all
pub not_decimal : (f : ℕ → ℕ) (k n : ℕ) → k < n → nat_lt (f k) 10 ≡ false → are_decimal f n ≡ false
not_decimal f k zero below bad = absurd (omega arith)
not_decimal f k (suc n) below bad = grind (arith, not_decimal f k n)
