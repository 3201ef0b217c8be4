-- Objects that are looked up by their numbers, which rise.
use Rattle.std.proofs.Common.{◌≡◌, ℕ, zero, suc, ◌<◌, ◌≤◌, ◌==◌, true, false, List, [], ◌∷◌, length, get_or, map, refl, sym, ap, ◌∙◌, arith, tests}
use Rattle.std.proofs.lemmas.Bool.Decides.{nat_tests}
use Rattle.std.proofs.lemmas.Map.Keys.{sorted_from_strictly_increasing, sorted_head, sorted_tail}
use Rattle.std.specs.Prelude.{Some, None, find, nat_lt}
use Rattle.std.specs.List.{AllByRecursion, HoldsAt}
use Rattle.std.specs.List.Sorted.{IsNonDecreasingBy, IsPartitionPoint, IsStrictlyIncreasing, IsStrictlySortedBy}
use Rattle.std.specs.Ordering.{nat_cmp, ordering_index}
use Rattle.std.specs.declared.cmp.Ordering.TheVariants.{Equal, Greater, Less}
use Rattle.s38_image.specs.declared.stored.Stored.{Stored}
use Rattle.s38_restart.specs.catalog.Readings.{is_object, stored_number}

is_below : (a b : ℕ) → nat_cmp a b ≡ Less → a < b
is_below a b h = grind (arith, nat_tests)

is_equal : (a b : ℕ) → nat_cmp a b ≡ Equal → (a == b) ≡ true
is_equal a b h = grind (arith, nat_tests)

is_other : (a b n : ℕ) → a < b → (b == n) ≡ true → (a == n) ≡ false
is_other a b n less h = grind (arith, nat_tests)

is_less : (a b : ℕ) → nat_cmp a b ≡ Less → (a == b) ≡ false
is_less a b h = grind (arith, nat_tests)

is_greater : (a b : ℕ) → nat_cmp a b ≡ Greater → (a == b) ≡ false
is_greater a b h = grind (arith, nat_tests)

below_of : (k i : ℕ) → nat_lt k i ≡ true → k < i
below_of k i h = grind (arith, nat_tests)

above_of : (k i : ℕ) → nat_lt k i ≡ false → i ≤ k
above_of k i h = grind (arith, nat_tests)

higher : (a b n : ℕ) → a ≤ b → ordering_index (nat_cmp a n) ≤ ordering_index (nat_cmp b n)
higher a b n le = grind (arith, tests)

above_at : (n : ℕ) (ss : List Stored) (k : ℕ) (d : Stored) → AllByRecursion (λ m. nat_cmp n m ≡ Less) (map stored_number ss) → k < length ss → n < stored_number (get_or ss k d)
above_at n [] k d above lt = absurd (omega (arith, lt))
above_at n (s ∷ ss) zero d above lt = is_below n (stored_number s) above.0
above_at n (s ∷ ss) (suc k) d above lt = above_at n ss k d above.1 (omega (arith, lt))

rises_at : (ss : List Stored) (i j : ℕ) (d : Stored) → IsStrictlySortedBy nat_cmp (map stored_number ss) → i ≤ j → j < length ss → stored_number (get_or ss i d) ≤ stored_number (get_or ss j d)
rises_at [] i j d h le lt = absurd (omega (arith, lt))
rises_at (s ∷ ss) zero zero d h le lt = omega arith
rises_at (s ∷ ss) zero (suc j) d h le lt = omega (arith, above_at (stored_number s) ss j d (sorted_head nat_cmp (stored_number s) (map stored_number ss) h) (omega (arith, lt)))
rises_at (s ∷ ss) (suc i) zero d h le lt = absurd (omega (arith, le))
rises_at (s ∷ ss) (suc i) (suc j) d h le lt = rises_at ss i j d (sorted_tail nat_cmp (stored_number s) (map stored_number ss) h) (omega (arith, le)) (omega (arith, lt))

found_at : (n : ℕ) (ss : List Stored) (i : ℕ) (d : Stored) → IsStrictlySortedBy nat_cmp (map stored_number ss) → i < length ss → is_object n (get_or ss i d) ≡ true → find (is_object n) ss ≡ Some (get_or ss i d)
found_at n [] i d h lt is = absurd (omega (arith, lt))
found_at n (s ∷ ss) zero d h lt is = rw is refl
found_at n (s ∷ ss) (suc i) d h lt is =
    let less = above_at (stored_number s) ss i d (sorted_head nat_cmp (stored_number s) (map stored_number ss) h) (omega (arith, lt)) in
    let other : is_object n s ≡ false = is_other (stored_number s) (stored_number (get_or ss i d)) n less is in
    rw other (found_at n ss i d (sorted_tail nat_cmp (stored_number s) (map stored_number ss) h) (omega (arith, lt)) is)

none_at : (n : ℕ) (ss : List Stored) → ((k : ℕ) (d : Stored) → k < length ss → is_object n (get_or ss k d) ≡ false) → find (is_object n) ss ≡ None
none_at n [] each = refl
none_at n (s ∷ ss) each =
    let other : is_object n s ≡ false = each 0 s (omega arith) in
    rw other (none_at n ss (λ k d lt. each (suc k) d (omega (arith, lt))))

-- a search by number found one
pub search_found : (n : ℕ) (ss : List Stored) (i : ℕ) (s : Stored) → IsStrictlyIncreasing (map stored_number ss) → i < length ss → HoldsAt (λ y. nat_cmp (stored_number y) n ≡ Equal) ss i → s ≡ get_or ss i s → Some s ≡ find (is_object n) ss
search_found n ss i s rising lt equal at =
    ap (λ (x : Stored). Some x) at
    ∙ sym (found_at n ss i s (sorted_from_strictly_increasing (map stored_number ss) rising) lt (is_equal (stored_number (get_or ss i s)) n (equal s)))

-- a search by number found none
pub search_missed : (n : ℕ) (ss : List Stored) (i : ℕ) → IsStrictlyIncreasing (map stored_number ss) →
    (IsNonDecreasingBy (λ y. ordering_index (nat_cmp (stored_number y) n)) ss → IsPartitionPoint (λ y. nat_cmp (stored_number y) n ≡ Less) (λ y. nat_cmp (stored_number y) n ≡ Greater) ss i) → None ≡ find (is_object n) ss
search_missed n ss i rising point =
    let sorted = sorted_from_strictly_increasing (map stored_number ss) rising in
    let parted = point (λ a b d le lt. higher (stored_number (get_or ss a d)) (stored_number (get_or ss b d)) n (rises_at ss a b d sorted le lt)) in
    sym (none_at n ss (λ k d lt. elim (nat_lt k i) as (λ b. nat_lt k i ≡ b → is_object n (get_or ss k d) ≡ false) [
      | true ↦ λ q. is_less (stored_number (get_or ss k d)) n (parted.0 k d (omega arith) (below_of k i q))
      | false ↦ λ q. is_greater (stored_number (get_or ss k d)) n (parted.1 k d (above_of k i q) lt)
    ] refl))
