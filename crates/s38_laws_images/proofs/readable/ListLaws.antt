-- Lists of values that are read again, and how long they are.
use Rattle.std.proofs.Common.{◌≡◌, ℕ, ◌+◌, ◌*◌, ◌<◌, ◌≤◌, ◌^◌, true, List, [], ◌∷◌, length, refl, arith}
use Rattle.std.proofs.lemmas.Bool.Decides.{nat_tests}
use Rattle.std.proofs.lemmas.Bool.{lt-ltb}
use Rattle.std.proofs.lemmas.List.Elements.{All-head, All-tail}
use Rattle.std.proofs.lemmas.List.Sums.{sum_by-cons}
use Rattle.std.specs.Prelude.{All, nat_le, sum_by}
use Rattle.s38_codec.proofs.CodecLaws.{and_true}
use Rattle.s38_codec.specs.Codec.{Codec, copies, fits_each}
use Rattle.s38_codec.specs.Formats.{list_of}

pub at_most : (a b : ℕ) → a ≤ b → nat_le a b ≡ true
at_most a b le = grind (arith, nat_tests, le)

-- each of them fits
pub times_fit : {A : Type 0} (c : Codec A) (P : A → Type 0) → ((x : A) → P x → c.fits x ≡ true) → (xs : List A) → All P xs → fits_each (copies (length xs) c) xs ≡ true
unfolding fits_each copies
times_fit c P f [] all = refl
times_fit c P f (x ∷ xs) all = and_true (c.fits x) _ (f x (All-head P x xs all)) (times_fit c P f xs (All-tail P x xs all))

-- and they are few enough to be counted
pub list_fits : {A : Type 0} (c : Codec A) (xs : List A) → length xs < 2 ^ 32 → fits_each (copies (length xs) c) xs ≡ true → (list_of c).fits xs ≡ true
list_fits c xs few fit = and_true _ _ (lt-ltb (length xs) (2 ^ 32) few) fit

-- where each takes a byte at least, there are no more of them than bytes
pub length_sum : {A : Type 0} (f : A → ℕ) → ((x : A) → 1 ≤ f x) → (xs : List A) → length xs ≤ sum_by f xs
length_sum f some [] = omega arith
length_sum f some (x ∷ xs) = omega (arith, some x, length_sum f some xs, sum_by-cons f x xs)

-- the same of as many bytes each
pub length_product : (n m : ℕ) → n ≤ n * (1 + m)
length_product n m = grind arith
