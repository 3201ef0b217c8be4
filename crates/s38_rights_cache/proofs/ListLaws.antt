-- Elements of lists of which one is set, and numbers of frames of which one is new.
use Rattle.std.proofs.Common.{◌≡◌, ◌≢◌, ◌<◌, ◌≤◌, ℕ, zero, suc, ◌+◌, ◌==◌, Bool, true, false, List, [], ◌∷◌, ◌++◌, length, refl, sym, ap, ◌∙◌, replicate, take, arith}
use Rattle.std.proofs.lemmas.Bool.Decides.{nat_tests}
use Rattle.std.proofs.lemmas.List.{replicate-append-replicate}
use Rattle.std.specs.Prelude.{Some, slice_get, slice_set}
use Rattle.s38_rights_cache.specs.Numbers.{number_at}

-- two places are one, or two
pub by_place : (P : Type 0) (j i : ℕ) → (j ≡ i → P) → (j ≢ i → P) → P
by_place P j i same other = by (j == i) refl
  where
    by : (b : Bool) → (j == i) ≡ b → P
    by true e = same (grind (arith, nat_tests))
    by false e = other (λ q. grind (arith, nat_tests))

pub get_set_same : {X : Type 0} (xs : List X) (i : ℕ) (y : X) → i < length xs → slice_get (slice_set xs i y) i ≡ Some y
get_set_same [] i y low = absurd (omega (arith, low))
get_set_same (x ∷ xs) zero y low = refl
get_set_same (x ∷ xs) (suc i) y low = get_set_same xs i y (omega (arith, low))

pub get_set_other : {X : Type 0} (xs : List X) (i j : ℕ) (y : X) → j ≢ i → slice_get (slice_set xs i y) j ≡ slice_get xs j
get_set_other [] i j y away = refl
get_set_other (x ∷ xs) zero zero y away = absurd (away refl)
get_set_other (x ∷ xs) zero (suc j) y away = refl
get_set_other (x ∷ xs) (suc i) zero y away = refl
get_set_other (x ∷ xs) (suc i) (suc j) y away = get_set_other xs i j y (λ e. away (ap suc e))

pub set_there : {X : Type 0} (xs : List X) (i : ℕ) (x : X) → slice_get xs i ≡ Some x → slice_set xs i x ≡ xs
set_there [] i x e = cc
set_there (y ∷ xs) zero x e = cc
set_there (y ∷ xs) (suc i) x e = ap (λ zs. y ∷ zs) (set_there xs i x e)

pub get_within : {X : Type 0} (xs : List X) (i : ℕ) (x : X) → slice_get xs i ≡ Some x → i < length xs
get_within [] i x e = cc
get_within (y ∷ xs) zero x e = omega arith
get_within (y ∷ xs) (suc i) x e = omega (arith, get_within xs i x e)

-- ---- numbers of frames

-- the frames before a new one keep their numbers
pub number_before : (xs : List ℕ) (k j n : ℕ) → j ≤ k → k ≤ length xs → number_at j (take k xs ++ n ∷ []) ≡ number_at j xs
number_before xs k zero n le within = refl
number_before [] k (suc j) n le within = omega (arith, le, within)
number_before (x ∷ xs) zero (suc j) n le within = omega (arith, le)
number_before (x ∷ xs) (suc k) (suc zero) n le within = refl
number_before (x ∷ xs) (suc k) (suc (suc j)) n le within = number_before xs k (suc j) n (omega (arith, le)) (omega (arith, within))

-- the new one has the new number
pub number_new : (xs : List ℕ) (k n : ℕ) → k ≤ length xs → number_at (suc k) (take k xs ++ n ∷ []) ≡ n
number_new xs zero n within = refl
number_new [] (suc k) n within = omega (arith, within)
number_new (x ∷ xs) (suc k) n within = number_new xs k n (omega (arith, within))

-- and after it there is none
pub number_after : (xs : List ℕ) (k j n : ℕ) → suc k < j → k ≤ length xs → number_at j (take k xs ++ n ∷ []) ≡ 0
number_after xs k zero n lt within = refl
number_after xs zero (suc zero) n lt within = omega (arith, lt)
number_after xs zero (suc (suc j)) n lt within = refl
number_after [] (suc k) (suc j) n lt within = omega (arith, within)
number_after (x ∷ xs) (suc k) (suc zero) n lt within = omega (arith, lt)
number_after (x ∷ xs) (suc k) (suc (suc j)) n lt within = number_after xs k (suc j) n (omega (arith, lt)) (omega (arith, within))

-- the first frames stay, and one follows them
pub take_before : {X : Type 0} (xs : List X) (k j : ℕ) (x : X) → j ≤ k → k ≤ length xs → take j (take k xs ++ x ∷ []) ≡ take j xs
take_before xs k zero x le within = refl
take_before [] k (suc j) x le within = absurd (omega (arith, le, within))
take_before (y ∷ xs) zero (suc j) x le within = absurd (omega (arith, le))
take_before (y ∷ xs) (suc k) (suc j) x le within = ap (λ zs. y ∷ zs) (take_before xs k j x (omega (arith, le)) (omega (arith, within)))

pub length_new : {X : Type 0} (xs : List X) (k : ℕ) (x : X) → k ≤ length xs → length (take k xs ++ x ∷ []) ≡ suc k
length_new xs zero x within = refl
length_new [] (suc k) x within = absurd (omega (arith, within))
length_new (y ∷ xs) (suc k) x within = ap suc (length_new xs k x (omega (arith, within)))

-- ---- as many of one

pub replicate_more : {X : Type 0} (n m : ℕ) (x : X) → m ≡ n + 1 → replicate n x ++ x ∷ [] ≡ replicate m x
replicate_more n m x more = replicate-append-replicate n 1 x ∙ ap (λ k. replicate k x) (sym more)
