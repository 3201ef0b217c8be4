-- What tests of numbers say.
use Rattle.std.proofs.Common.{◌≡◌, ℕ, ◌<◌, ◌≤◌, ◌==◌, Bool, true, false, cond, refl, arith}
use Rattle.std.proofs.lemmas.Bool.Decides.{nat_tests}
use Rattle.std.specs.Prelude.{◌||◌, None, Option, nat_le}

pub same_by : (a b : ℕ) → (a == b) ≡ true → a ≡ b
same_by a b e = grind (arith, nat_tests)

pub itself : (n : ℕ) → (n == n) ≡ true
itself n = grind (arith, nat_tests)

pub turned : (a b : ℕ) → (a == b) ≡ (b == a)
turned a b = grind (arith, nat_tests)

pub not_same : (a b : ℕ) → (a ≡ b → ⊥) → (a == b) ≡ false
not_same a b not = grind (arith, nat_tests)

pub within : (a b : ℕ) → a ≤ b → nat_le a b ≡ true
within a b low = grind (arith, nat_tests)

pub at_most : (a b : ℕ) → nat_le a b ≡ true → a ≤ b
at_most a b e = grind (arith, nat_tests)

pub beyond : (a b : ℕ) → b < a → nat_le a b ≡ false
beyond a b high = grind (arith, nat_tests)

pub above_by : (a b : ℕ) → nat_le a b ≡ false → b < a
above_by a b e = grind (arith, nat_tests)

-- ---- either of two

pub or_none : (b : Bool) → b || false ≡ b
or_none true = refl
or_none false = refl

pub or_true : (b c : Bool) → c ≡ true → b || c ≡ true
or_true true c e = refl
or_true false c e = e

pub or_false : (b c : Bool) → b ≡ false → c ≡ false → b || c ≡ false
or_false true c e f = cc
or_false false c e f = f

pub none_both : {A : Type 0} (b : Bool) (x y : Option A) → x ≡ None → y ≡ None → cond b x y ≡ None
none_both true x y p q = p
none_both false x y p q = q
