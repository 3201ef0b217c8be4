-- Changes that take parts away, in the order of their keys.
use Rattle.std.proofs.Common.{◌≡◌, ℕ, zero, suc, ◌+◌, ◌-◌, ◌<◌, ◌≤◌, inl, inr, Bool, true, false, List, [], ◌∷◌, ◌++◌, map, take, drop, refl, sym, ap, ◌∙◌, arith}
use lib.Dec.{T}
use Rattle.std.proofs.lemmas.Bool.Decides.{nat_tests}
use Rattle.std.proofs.Math.Seq.{take-add}
use Rattle.std.proofs.lemmas.List.Sums.{sum_by-cons}
use Rattle.std.proofs.lemmas.Map.Keys.{sorted_head, sorted_tail}
use Rattle.std.specs.Prelude.{◌⊎◌, ◌↔◌, None, nat_le, nat_lt}
use Rattle.std.specs.FinMap.{entries, entries_sorted, is_sorted, keys}
use Rattle.std.specs.FinMap.Entries.{below_all}
use Rattle.std.specs.List.{AllByRecursion, slice_range}
use Rattle.std.specs.List.Sorted.{IsStrictlySortedBy}
use Rattle.std.specs.Ordering.{is_lt}
use Rattle.std.specs.declared.cmp.Ordering.{Ordering}
use Rattle.std.specs.declared.cmp.Ordering.TheVariants.{Less, Equal, Greater}
use Rattle.s38_base.specs.declared.page.Change.{Change}
use Rattle.s38_base.specs.declared.page.Key.{Key}
use Rattle.s38_restart.proofs.PartLaws.{key_of}
use Rattle.s38_restart.specs.Removing.{AreRemovals}
use Rattle.s38_vault.specs.Content.{AreRising, Content, HaveObjects, changed, with_value}
use Rattle.s38_vault.specs.Directory.{Keys, new_keys}
use Rattle.s38_vault.specs.Keys.{key_cmp}
use Rattle.s38_vault.specs.Vaults.{VaultView, refusal}
use Rattle.s38_vault.proofs.PlaceLaws.{both_first, both_second}

-- ---- the keys of a store are in order

below_first : (r : Ordering) → is_lt r ≡ true → r ≡ Less
below_first Less e = refl
below_first Equal e = absurd (cc)
below_first Greater e = absurd (cc)

is_true : (b : Bool) → T b → b ≡ true
is_true true h = refl
is_true false h = absurd h

module _ {V : Type 0} where
  all_below : (k : Key) (es : List (Key × V)) → below_all key_cmp k es ≡ true → AllByRecursion (λ q. key_cmp k q ≡ Less) (map (λ e. e.0) es)
  all_below k [] h = tt
  all_below k (e ∷ es) h = (below_first (key_cmp k e.0) (both_first _ _ h), all_below k es (both_second _ _ h))

  sorted_keys : (es : List (Key × V)) → is_sorted key_cmp es ≡ true → IsStrictlySortedBy key_cmp (map (λ e. e.0) es)
  unfolding IsStrictlySortedBy
  sorted_keys [] h = tt
  sorted_keys (e ∷ es) h = (all_below e.0 es (both_first _ _ h), sorted_keys es (both_second _ _ h))

pub keys_in_order : (ks : Keys) → IsStrictlySortedBy key_cmp (keys ks)
keys_in_order ks = sorted_keys (entries ks) (is_true _ (entries_sorted ks))

-- parts whose keys are in order rise
pub rising_parts : (xs : List Change) → IsStrictlySortedBy key_cmp (map key_of xs) → AreRising xs
rising_parts [] h = tt
rising_parts (x ∷ []) h = tt
rising_parts (x ∷ y ∷ xs) h = ((sorted_head key_cmp x.key (map key_of (y ∷ xs)) h).0, rising_parts (y ∷ xs) (sorted_tail key_cmp x.key (map key_of (y ∷ xs)) h))

-- ---- the first of some changes, and the others

removals_take : (n : ℕ) (xs : List Change) → AreRemovals xs → AreRemovals (take n xs)
removals_take zero xs h = tt
removals_take (suc n) [] h = tt
removals_take (suc n) (x ∷ xs) h = (h.0, removals_take n xs h.1)

removals_drop : (n : ℕ) (xs : List Change) → AreRemovals xs → AreRemovals (drop n xs)
removals_drop zero xs h = h
removals_drop (suc n) [] h = h
removals_drop (suc n) (x ∷ xs) h = removals_drop n xs h.1

have_take : (n : ℕ) (xs : List Change) → HaveObjects xs → HaveObjects (take n xs)
have_take zero xs h = tt
have_take (suc n) [] h = tt
have_take (suc n) (x ∷ xs) h = (h.0, have_take n xs h.1)

have_drop : (n : ℕ) (xs : List Change) → HaveObjects xs → HaveObjects (drop n xs)
have_drop zero xs h = h
have_drop (suc n) [] h = h
have_drop (suc n) (x ∷ xs) h = have_drop n xs h.1

rising_take : (n : ℕ) (xs : List Change) → AreRising xs → AreRising (take n xs)
rising_take zero xs h = tt
rising_take (suc n) [] h = tt
rising_take (suc n) (x ∷ []) h = rising_one n x
  where
    rising_one : (n : ℕ) (x : Change) → AreRising (x ∷ take n [])
    rising_one zero x = tt
    rising_one (suc n) x = tt
rising_take (suc zero) (x ∷ y ∷ xs) h = tt
rising_take (suc (suc n)) (x ∷ y ∷ xs) h = (h.0, rising_take (suc n) (y ∷ xs) h.1)

rising_rest : (x : Change) (xs : List Change) → AreRising (x ∷ xs) → AreRising xs
rising_rest x [] h = tt
rising_rest x (y ∷ xs) h = h.1

rising_drop : (n : ℕ) (xs : List Change) → AreRising xs → AreRising (drop n xs)
rising_drop zero xs h = h
rising_drop (suc n) [] h = h
rising_drop (suc n) (x ∷ xs) h = rising_drop n xs (rising_rest x xs h)

changed_append : (m : Content) (xs ys : List Change) → changed m (xs ++ ys) ≡ changed (changed m xs) ys
changed_append m [] ys = refl
changed_append m (x ∷ xs) ys = changed_append (with_value m x.key x.page) xs ys

-- the first of some changes, and so many after them
at_most : (a b : ℕ) → nat_le a b ≡ true → a ≤ b
at_most a b h = grind (arith, nat_tests)

beyond : (a b : ℕ) → nat_le a b ≡ false → b < a
beyond a b h = grind (arith, nat_tests)

pub changed_range : (m : Content) (done end : ℕ) (xs : List Change) → done ≤ end → changed (changed m (take done xs)) (slice_range xs done end) ≡ changed m (take end xs)
changed_range m done end xs le =
    let sum : done + (end - done) ≡ end = omega arith in
    sym (changed_append m (take done xs) (slice_range xs done end))
    ∙ ap (λ (l : List Change). changed m l) (sym (take-add done (end - done) xs) ∙ ap (λ (n : ℕ). take n xs) sum)

pub range_rises : (done end : ℕ) (xs : List Change) → AreRising xs → AreRising (slice_range xs done end)
range_rises done end xs h = rising_take (end - done) (drop done xs) (rising_drop done xs h)

pub range_has : (done end : ℕ) (xs : List Change) → HaveObjects xs → HaveObjects (slice_range xs done end)
range_has done end xs h = have_take (end - done) (drop done xs) (have_drop done xs h)

pub range_removes : (done end : ℕ) (xs : List Change) → AreRemovals xs → AreRemovals (slice_range xs done end)
range_removes done end xs h = removals_take (end - done) (drop done xs) (removals_drop done xs h)

-- ---- what a crash on the way leaves

pub during_on : (Old New : ℕ → Content → Type 0) (start now later : ℕ) (m : Content) (xs : List Change) (done end : ℕ) → done ≤ end → ((t : ℕ) (n : Content) → t ≤ now → Old t n ↔ New t n) →
    ((t : ℕ) (n : Content) → start < t → t ≤ now → Old t n → (count : ℕ) × (n ≡ changed m (take count xs))) →
    ((t : ℕ) (n : Content) → now < t → t ≤ later → New t n → (n ≡ changed m (take done xs)) ⊎ (n ≡ changed (changed m (take done xs)) (slice_range xs done end))) →
    (t : ℕ) (n : Content) → start < t → t ≤ later → New t n → (count : ℕ) × (n ≡ changed m (take count xs))
during_on Old New start now later m xs done end le past before during t n after upto left =
    elim (nat_le t now) as (λ b. nat_le t now ≡ b → (count : ℕ) × (n ≡ changed m (take count xs))) [
      | true ↦ λ q. let early : t ≤ now = at_most t now q in before t n after early ((past t n early).1 left)
      | false ↦ λ q. by (during t n (beyond t now q) upto left)
    ] refl
  where
    by : (n ≡ changed m (take done xs)) ⊎ (n ≡ changed (changed m (take done xs)) (slice_range xs done end)) → (count : ℕ) × (n ≡ changed m (take count xs))
    by (inl e) = (done, e)
    by (inr e) = (end, e ∙ changed_range m done end xs le)

-- ---- taking away needs no room

none_new : (ks : Keys) (xs : List Change) → AreRemovals xs → new_keys ks xs ≡ 0
none_new ks [] h = refl
none_new ks (x ∷ xs) h = sum_by-cons _ x xs ∙ rw (h.0, none_new ks xs h.1) refl

no_less : (n : ℕ) → nat_lt n 0 ≡ false
no_less n = grind (arith, nat_tests)

pub not_refused : (v : VaultView) (xs : List Change) → AreRemovals xs → refusal v xs ≡ None
not_refused v xs h = rw (none_new v.keys xs h, no_less v.free) refl
