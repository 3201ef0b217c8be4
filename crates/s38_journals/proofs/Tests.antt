-- What tests tell, and when they hold.
use Rattle.std.proofs.Common.{◌≡◌, ℕ, ◌<◌, ◌≤◌, Bool, true, false, ◌&&◌, arith, refl}
use Rattle.std.proofs.lemmas.Bool.Decides.{nat_tests}
use Rattle.std.specs.Prelude.{◌==◌, nat_le, nat_lt}

pub both : (a b : Bool) → a ≡ true → b ≡ true → (a && b) ≡ true
both true true p q = refl
both true false p q = q
both false b p q = p

pub first_of : (a b : Bool) → (a && b) ≡ true → a ≡ true
first_of true b p = refl
first_of false b p = p

pub second_of : (a b : Bool) → (a && b) ≡ true → b ≡ true
second_of true b p = p
second_of false b p = absurd (cc)

pub le_tells : (a b : ℕ) → nat_le a b ≡ true → a ≤ b
le_tells a b e = grind (arith, nat_tests)

pub lt_tells : (a b : ℕ) → nat_lt a b ≡ true → a < b
lt_tells a b e = grind (arith, nat_tests)

pub eq_tells : (a b : ℕ) → (a == b) ≡ true → a ≡ b
eq_tells a b e = grind (arith, nat_tests)

pub le_holds : (a b : ℕ) → a ≤ b → nat_le a b ≡ true
le_holds a b e = grind (arith, nat_tests)

pub eq_holds : (a b : ℕ) → a ≡ b → (a == b) ≡ true
eq_holds a b e = grind (arith, nat_tests)
