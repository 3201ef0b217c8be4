-- Rising lists of numbers are the same where they have the same numbers; and what is kept in the order of its numbers.
use Rattle.std.proofs.Common.{◌≡◌, ◌∙◌, ◌==◌, ℕ, Bool, true, false, cond, List, [], ◌∷◌, Some, map, refl, sym, ap, subst, arith}
use Rattle.std.proofs.lemmas.Bool.Decides.{nat_tests}
use Rattle.std.proofs.lemmas.Map.Keys.{sorted_head, sorted_tail}
use Rattle.std.specs.List.{AllByRecursion, list_any}
use Rattle.std.specs.List.Sorted.{IsStrictlySortedBy}
use Rattle.std.specs.Ordering.{nat_cmp}
use Rattle.std.specs.Prelude.{◌||◌, is_some}
use Rattle.std.specs.declared.cmp.Ordering.TheVariants.{Equal, Greater, Less}
use Rattle.std.specs.declared.cmp.Ordering.{Ordering}
use Rattle.s38_durable_state.specs.Durable.{kept}
use Rattle.s38_image.specs.declared.stored.Stored.{Stored}
use Rattle.s38_restart.specs.Restarted.{number_in_stored}

abbrev pub has : ℕ → List ℕ → Bool
has n xs = list_any (λ k. k == n) xs

abbrev pub Above : ℕ → List ℕ → Type 0
Above n xs = AllByRecursion (λ k. nat_cmp n k ≡ Less) xs

none_has : (n : ℕ) (xs : List ℕ) → Above n xs → has n xs ≡ false
none_has n [] above = refl
none_has n (x ∷ xs) above =
    let less : nat_cmp n x ≡ Less = above.0 in
    let off : (x == n) ≡ false = grind (arith, nat_tests) in
    rw off (none_has n xs above.1)

pub itself : (n : ℕ) → (n == n) ≡ true
itself n = grind (arith, nat_tests)

pub number_same : (a b : ℕ) → (a == b) ≡ true → a ≡ b
number_same a b h = grind (arith, nat_tests)

first_has : (x : ℕ) (xs : List ℕ) → has x (x ∷ xs) ≡ true
first_has x xs = ap (λ b. b || has x xs) (itself x)

above_both : (n x : ℕ) (xs : List ℕ) → nat_cmp n x ≡ Less → Above x xs → Above n xs
above_both n x [] less h = tt
above_both n x (y ∷ xs) less h =
    let more : nat_cmp x y ≡ Less = h.0 in
    let both : nat_cmp n y ≡ Less = grind (arith, nat_tests) in
    (both, above_both n x xs less h.1)

not_less : (x y : ℕ) (xs ys : List ℕ) → IsStrictlySortedBy nat_cmp (y ∷ ys) → has x (x ∷ xs) ≡ has x (y ∷ ys) → nat_cmp x y ≡ Less → ⊥
not_less x y xs ys order same less =
    let above : Above x (y ∷ ys) = (less, above_both x y ys less (sorted_head nat_cmp y ys order)) in
    let e : true ≡ false = sym (first_has x xs) ∙ same ∙ none_has x (y ∷ ys) above in
    cc

rest_same : (x y : ℕ) (xs ys : List ℕ) → IsStrictlySortedBy nat_cmp (x ∷ xs) → IsStrictlySortedBy nat_cmp (y ∷ ys) → x ≡ y → ((n : ℕ) → has n (x ∷ xs) ≡ has n (y ∷ ys)) → (n : ℕ) → has n xs ≡ has n ys
rest_same x y xs ys ox oy one same n = by (x == n) refl
  where
    by : (b : Bool) → (x == n) ≡ b → has n xs ≡ has n ys
    by true is =
        let at : x ≡ n = grind (arith, nat_tests) in
        let left : has x xs ≡ false = none_has x xs (sorted_head nat_cmp x xs ox) in
        let right : has y ys ≡ false = none_has y ys (sorted_head nat_cmp y ys oy) in
        subst (λ (k : ℕ). has k xs ≡ has k ys) at (left ∙ sym (ap (λ (k : ℕ). has k ys) one ∙ right))
    by false is =
        sym (ap (λ b. b || has n xs) is) ∙ same n ∙ ap (λ b. b || has n ys) (ap (λ (k : ℕ). k == n) (sym one) ∙ is)

pub same_numbers : (xs ys : List ℕ) → IsStrictlySortedBy nat_cmp xs → IsStrictlySortedBy nat_cmp ys → ((n : ℕ) → has n xs ≡ has n ys) → xs ≡ ys
same_numbers [] [] ox oy same = refl
same_numbers [] (y ∷ ys) ox oy same = absurd (let e : false ≡ true = same y ∙ first_has y ys in cc)
same_numbers (x ∷ xs) [] ox oy same = absurd (let e : true ≡ false = sym (first_has x xs) ∙ same x in cc)
same_numbers (x ∷ xs) (y ∷ ys) ox oy same = by (same_numbers xs ys (sorted_tail nat_cmp x xs ox) (sorted_tail nat_cmp y ys oy)) (nat_cmp x y) refl
  where
    by : (((n : ℕ) → has n xs ≡ has n ys) → xs ≡ ys) → (r : Ordering) → nat_cmp x y ≡ r → x ∷ xs ≡ y ∷ ys
    by more Less is = absurd (not_less x y xs ys oy (same x) is)
    by more Greater is = absurd (let other : nat_cmp y x ≡ Less = grind (arith, nat_tests) in not_less y x ys xs ox (sym (same y)) other)
    by more Equal is =
        let one : x ≡ y = grind (arith, nat_tests) in
        let rest = more (rest_same x y xs ys ox oy one same) in
        cc

-- ---- what is kept

pub kept_has : (n : ℕ) (xs : List Stored) → has n (map number_in_stored xs) ≡ is_some (kept xs n)
kept_has n [] = refl
kept_has n (x ∷ xs) = by (x.object.number.0 == n) (kept_has n xs)
  where
    by : (b : Bool) → has n (map number_in_stored xs) ≡ is_some (kept xs n) → (b || has n (map number_in_stored xs)) ≡ is_some (cond b (Some x) (kept xs n))
    by true rest = refl
    by false rest = rest

-- where numbers rise, each is kept under its number
abbrev pub IsKeptIn : List Stored → Stored → Type 0
IsKeptIn xs y = kept xs y.object.number.0 ≡ Some y

behind_first : (x : Stored) (xs ys : List Stored) → Above x.object.number.0 (map number_in_stored ys) → AllByRecursion (IsKeptIn xs) ys → AllByRecursion (IsKeptIn (x ∷ xs)) ys
behind_first x xs [] above each = tt
behind_first x xs (y ∷ ys) above each =
    let less : nat_cmp x.object.number.0 y.object.number.0 ≡ Less = above.0 in
    let off : (x.object.number.0 == y.object.number.0) ≡ false = grind (arith, nat_tests) in
    (ap (λ b. cond b (Some x) (kept xs y.object.number.0)) off ∙ each.0, behind_first x xs ys above.1 each.1)

pub each_kept : (xs : List Stored) → IsStrictlySortedBy nat_cmp (map number_in_stored xs) → AllByRecursion (IsKeptIn xs) xs
each_kept [] order = tt
each_kept (x ∷ xs) order = (
  ap (λ b. cond b (Some x) (kept xs x.object.number.0)) (itself x.object.number.0),
  behind_first x xs xs (sorted_head nat_cmp x.object.number.0 (map number_in_stored xs) order) (each_kept xs (sorted_tail nat_cmp x.object.number.0 (map number_in_stored xs) order)),
)
