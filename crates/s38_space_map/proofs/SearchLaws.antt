-- What a search finds in extents that rise by number.
use Rattle.std.proofs.Common.{◌≡◌, ℕ, ◌+◌, ◌≤◌, ◌<◌, ◌==◌, Bool, true, false, cond, not, List, [], ◌∷◌, get_or, length, refl, sym, ◌∙◌, ap, subst, arith, zero, suc}
use Rattle.std.proofs.lemmas.Bool.Decides.{nat_tests}
use Rattle.std.specs.Prelude.{Option, Some, None, nat_lt, remove, slice_get}
use Rattle.std.specs.List.Sorted.{IsPartitionPoint, IsPartitionedBy}
use Rattle.s38_rules.specs.store.Room.{Extent, extent_at}
use Rattle.s38_space_map.specs.Extents.{AreRising, IsBelowAll, count_before, extent_of, extent_there, is_of, is_there, without}
use Rattle.s38_space_map.proofs.ExtentLaws.{below_more, none_below, number_above, number_below, number_same}

-- the number of an extent is less
abbrev pub is_before : ℕ → Extent → Bool
is_before n x = nat_lt x.number n

below_at : (m : ℕ) (xs : List Extent) (k : ℕ) (d : Extent) → IsBelowAll m xs → k < length xs → m < (get_or xs k d).number
below_at m [] k d below low = absurd (omega (arith, low))
below_at m (x ∷ xs) zero d below low = below.0
below_at m (x ∷ xs) (suc k) d below low = below_at m xs k d below.1 (omega (arith, low))

rises_at : (xs : List Extent) (i j : ℕ) (d : Extent) → AreRising xs → i < j → j < length xs → (get_or xs i d).number < (get_or xs j d).number
rises_at [] i j d rising less low = absurd (omega (arith, low))
rises_at (x ∷ xs) i zero d rising less low = absurd (omega (arith, less))
rises_at (x ∷ xs) zero (suc j) d rising less low = below_at x.number xs j d rising.0 (omega (arith, low))
rises_at (x ∷ xs) (suc i) (suc j) d rising less low = rises_at xs i j d rising.1 (omega (arith, less)) (omega (arith, low))

less_too : (a b n : ℕ) → a < b → nat_lt b n ≡ true → nat_lt a n ≡ true
less_too a b n less e = grind (arith, nat_tests)

same_place : (i j : ℕ) → i ≤ j → nat_lt i j ≡ false → i ≡ j
same_place i j le e = grind (arith, nat_tests)

pub parted : (n : ℕ) (xs : List Extent) → AreRising xs → IsPartitionedBy (is_before n) xs
parted n xs rising i j d le low e = by (nat_lt i j) refl
  where
    by : (b : Bool) → nat_lt i j ≡ b → is_before n (get_or xs i d) ≡ true
    by true is = less_too (get_or xs i d).number (get_or xs j d).number n (rises_at xs i j d rising (number_below i j is) low) e
    by false is = rw (same_place i j le is) e

-- a search finds how many have a lesser number
pub count_is : (n : ℕ) (xs : List Extent) (i : ℕ) → i ≤ length xs → IsPartitionPoint (λ x. is_before n x ≡ true) (λ x. is_before n x ≡ false) xs i → count_before n xs ≡ i
count_is n [] i within point = omega (arith, within)
count_is n (x ∷ xs) zero within point = rw (point.1 0 x (omega arith) (omega arith)) refl
count_is n (x ∷ xs) (suc i) within point = rw (point.0 0 x (omega arith) (omega arith)) (ap suc (count_is n xs i (omega (arith, within))
    (λ k d from to. point.0 (suc k) d (omega arith) (omega (arith, to)), λ k d from to. point.1 (suc k) d (omega (arith, from)) (omega (arith, to)))))

pub found_there : (n : ℕ) (xs : List Extent) → AreRising xs → extent_there n (count_before n xs) xs ≡ extent_at xs n
found_there n [] rising = refl
found_there n (x ∷ xs) rising = by (found_there n xs rising.1) (nat_lt x.number n) refl (x.number == n) refl
  where
    by : extent_there n (count_before n xs) xs ≡ extent_at xs n → (a : Bool) → nat_lt x.number n ≡ a → (b : Bool) → (x.number == n) ≡ b
        → extent_of n (slice_get (x ∷ xs) (cond a (suc (count_before n xs)) 0)) ≡ cond b (Some x) (extent_at xs n)
    by rest true a true is = absurd (grind (arith, nat_tests, number_below x.number n a))
    by rest true a false is = rest
    by rest false a true is = rw is refl
    by rest false a false is = rw (is, none_below n xs (below_more n x.number xs (number_above x.number n a is) rising.0)) refl

-- ---- what is taken out

without_below : (n : ℕ) (xs : List Extent) → IsBelowAll n xs → without n xs ≡ xs
without_below n [] below = refl
without_below n (x ∷ xs) below = by (without_below n xs below.1) (x.number == n) refl
  where
    by : without n xs ≡ xs → (b : Bool) → (x.number == n) ≡ b → cond (not b) (x ∷ without n xs) (without n xs) ≡ x ∷ xs
    by rest true is = absurd (grind (arith, nat_tests, below.0))
    by rest false is = ap (λ (l : List Extent). x ∷ l) rest

pub removed_there : (n : ℕ) (xs : List Extent) → AreRising xs → is_there n (count_before n xs) xs ≡ true → remove xs (count_before n xs) ≡ without n xs
removed_there n [] rising on = cc
removed_there n (x ∷ xs) rising on = by (removed_there n xs rising.1) (nat_lt x.number n) refl (x.number == n) refl on
  where
    by : (is_there n (count_before n xs) xs ≡ true → remove xs (count_before n xs) ≡ without n xs)
        → (a : Bool) → nat_lt x.number n ≡ a → (b : Bool) → (x.number == n) ≡ b
        → is_there n (cond a (suc (count_before n xs)) 0) (x ∷ xs) ≡ true
        → remove (x ∷ xs) (cond a (suc (count_before n xs)) 0) ≡ cond (not b) (x ∷ without n xs) (without n xs)
    by rest true a true is g = absurd (grind (arith, nat_tests, number_below x.number n a))
    by rest true a false is g = ap (λ (l : List Extent). x ∷ l) (rest g)
    by rest false a true is g = sym (rw (number_same x.number n is) at (without_below x.number xs rising.0))
    by rest false a false is g = absurd (cc (is, g))

pub removed_none : (n : ℕ) (xs : List Extent) → AreRising xs → is_there n (count_before n xs) xs ≡ false → without n xs ≡ xs
removed_none n [] rising off = refl
removed_none n (x ∷ xs) rising off = by (removed_none n xs rising.1) (nat_lt x.number n) refl (x.number == n) refl off
  where
    by : (is_there n (count_before n xs) xs ≡ false → without n xs ≡ xs)
        → (a : Bool) → nat_lt x.number n ≡ a → (b : Bool) → (x.number == n) ≡ b
        → is_there n (cond a (suc (count_before n xs)) 0) (x ∷ xs) ≡ false
        → cond (not b) (x ∷ without n xs) (without n xs) ≡ x ∷ xs
    by rest true a true is g = absurd (grind (arith, nat_tests, number_below x.number n a))
    by rest true a false is g = ap (λ (l : List Extent). x ∷ l) (rest g)
    by rest false a true is g = absurd (cc (is, g))
    by rest false a false is g = ap (λ (l : List Extent). x ∷ l) (without_below n xs (below_more n x.number xs (number_above x.number n a is) rising.0))
