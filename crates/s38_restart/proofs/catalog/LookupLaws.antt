-- Groups that are looked up by their numbers, which rise.
use Rattle.std.proofs.Common.{◌≡◌, ℕ, zero, suc, Bor, ◌+◌, ◌<◌, ◌≤◌, ◌==◌, true, false, cond, not, List, [], ◌∷◌, length, get_or, map, refl, sym, ap, subst, arith}
use Rattle.std.proofs.lemmas.Bool.{eq-eqb}
use Rattle.std.proofs.lemmas.Bool.Decides.{nat_tests}
use Rattle.std.proofs.lemmas.List.Folds.{find_at}
use Rattle.std.proofs.lemmas.Option.{slice_get_read}
use Rattle.std.specs.Option.{option_copied}
use Rattle.std.specs.Slice.{IsItemAt}
use Rattle.std.proofs.lemmas.List.Sorted.{searched}
use Rattle.std.proofs.lemmas.List.Sums.{position_or_len_is}
use Rattle.std.proofs.lemmas.Map.Keys.{below_from_sorted, sorted_from_strictly_increasing}
use Rattle.std.specs.Prelude.{◌||◌, Option, Some, None, Ok, Err, find, is_some, nat_lt, slice_get}
use Rattle.std.specs.List.{list_any, position_or_len}
use Rattle.std.specs.List.Sorted.{IsBinarySearchResult, IsStrictlyIncreasing}
use Rattle.std.specs.Ordering.{nat_cmp}
use Rattle.s38_image.specs.Faults.{Group, group, group_has_number, group_is_on_disk}
use Rattle.s38_restart.specs.catalog.Runs.{number_of}

-- ---- numbers that rise

below_of : (k i : ℕ) → nat_lt k i ≡ true → k < i
below_of k i h = grind (arith, nat_tests)

above_of : (k i : ℕ) → nat_lt k i ≡ false → i ≤ k
above_of k i h = grind (arith, nat_tests)

rises : (xs : List ℕ) → IsStrictlyIncreasing xs → (i j : ℕ) → i ≤ j → j < length xs → get_or xs i 0 ≤ get_or xs j 0
rises xs h i j le lt =
    elim (nat_lt i j) as (λ b. nat_lt i j ≡ b → get_or xs i 0 ≤ get_or xs j 0) [
      | true ↦ λ q. let below = below_from_sorted xs i j 0 (sorted_from_strictly_increasing xs h) (below_of i j q) lt in omega (arith, below)
      | false ↦ λ q. let same : i ≡ j = omega (arith, above_of i j q, le) in subst (λ (k : ℕ). get_or xs i 0 ≤ get_or xs k 0) same (omega arith)
    ] refl

unequal : (a b : ℕ) → a < b → (a == b) ≡ false
unequal a b h = grind (arith, nat_tests)

unequal_above : (a b : ℕ) → b < a → (a == b) ≡ false
unequal_above a b h = grind (arith, nat_tests)

pub place_found : (xs : List ℕ) (n i : ℕ) → IsStrictlyIncreasing xs → IsBinarySearchResult (λ y. nat_cmp y n) xs (Ok i) → i ≡ position_or_len (λ k. k == n) xs
place_found xs n i h found =
    let at : (i < length xs) × (get_or xs i 0 ≡ n) = searched xs n (Ok i) found (rises xs h) in
    sym (position_or_len_is (λ k. k == n) xs i 0 (omega (arith, at.0)) (λ k lt. early at k lt) (λ lt. eq-eqb (get_or xs i 0) n at.1))
  where
    early : (i < length xs) × (get_or xs i 0 ≡ n) → (k : ℕ) → k < i → (get_or xs k 0 == n) ≡ false
    early at k lt =
        let below = below_from_sorted xs k i 0 (sorted_from_strictly_increasing xs h) lt at.0 in
        unequal (get_or xs k 0) n (omega (arith, below, at.1))

nowhere : (xs : List ℕ) (n i : ℕ) → ((k : ℕ) → k < i → get_or xs k 0 < n) → ((k : ℕ) → i ≤ k → k < length xs → n < get_or xs k 0) → (k : ℕ) → k < length xs → (get_or xs k 0 == n) ≡ false
nowhere xs n i low high k lt = elim (nat_lt k i) as (λ b. nat_lt k i ≡ b → (get_or xs k 0 == n) ≡ false) [
  | true ↦ λ q. unequal (get_or xs k 0) n (low k (below_of k i q))
  | false ↦ λ q. unequal_above (get_or xs k 0) n (high k (above_of k i q) lt)
] refl

pub place_missing : (xs : List ℕ) (n i : ℕ) → IsStrictlyIncreasing xs → IsBinarySearchResult (λ y. nat_cmp y n) xs (Err i) → length xs ≡ position_or_len (λ k. k == n) xs
place_missing xs n i h missed =
    let at : (i ≤ length xs) × ((k : ℕ) → k < i → get_or xs k 0 < n) × ((k : ℕ) → i ≤ k → k < length xs → n < get_or xs k 0) = searched xs n (Err i) missed (rises xs h) in
    sym (position_or_len_is (λ k. k == n) xs (length xs) 0 (omega arith) (nowhere xs n i at.1 at.2) (λ lt. absurd (omega arith)))

-- ---- groups

-- the place of a number is that of what has it
pub place_of_one : {A : Type 0} (f : A → ℕ) (n : ℕ) (xs : List A) → position_or_len (λ k. k == n) (map f xs) ≡ position_or_len (λ x. f x == n) xs
place_of_one f n [] = refl
place_of_one f n (x ∷ xs) = ap (λ (k : ℕ). cond (not (f x == n)) (1 + k) 0) (place_of_one f n xs)

pub place_of_group : (n : ℕ) (gs : List Group) → position_or_len (λ k. k == n) (map number_of gs) ≡ position_or_len (group_has_number n) gs
place_of_group n gs = place_of_one number_of n gs

pub group_at : (n : ℕ) (gs : List Group) → slice_get gs (position_or_len (group_has_number n) gs) ≡ group gs n
group_at n gs = sym (find_at (group_has_number n) gs)

pub some_group : (n : ℕ) (gs : List Group) → is_some (group gs n) ≡ group_is_on_disk gs n
some_group n [] = refl
some_group n (g ∷ gs) =
    let rest = some_group n gs in
    elim (group_has_number n g) as (λ b. is_some (cond b (Some g) (find (group_has_number n) gs)) ≡ (b || list_any (group_has_number n) gs)) [
      | true ↦ refl
      | false ↦ rest
    ]

-- ---- what a list lends

past : {A : Type 0} (xs : List A) (i : ℕ) → length xs ≤ i → slice_get xs i ≡ None
past [] i le = refl
past (x ∷ xs) zero le = absurd (omega arith)
past (x ∷ xs) (suc i) le = past xs i (omega arith)

pub item_get : {A : Type 0} (xs : List A) (i : ℕ) (r : Option (Bor A)) → IsItemAt xs i r → option_copied r ≡ slice_get xs i
item_get xs i None h = sym (past xs i h.3)
item_get xs i (Some x) h = sym (slice_get_read xs (length xs) i x.now refl h.3.0 h.1)

pub some_copied : {A : Type 0} (o : Option (Bor A)) → is_some o ≡ is_some (option_copied o)
some_copied None = refl
some_copied (Some x) = refl
