-- Which key is next: it is there, and the keys come one after another.
use Rattle.std.proofs.Common.{◌≡◌, ℕ, ◌≤◌, Bool, true, false, cond, List, [], ◌∷◌, map, zero, suc, refl, sym, ◌∙◌, ap, subst}
use lib.Dec.{T}
use Rattle.std.specs.Prelude.{◌||◌, IfSome, Option, Some, None, find, slice_get}
use Rattle.std.specs.Cmp.{tied_itself}
use Rattle.std.specs.FinMap.{contains_key, contains_key-keys, entries, entries_sorted, is_sorted, keys}
use Rattle.std.specs.FinMap.Entries.{below_all}
use Rattle.std.specs.List.{list_any}
use Rattle.std.specs.Option.{unwrap_or}
use Rattle.std.specs.Ordering.{eq_by_cmp, is_eq, is_lt, ordering_reverse}
use Rattle.std.specs.declared.cmp.Ordering.{Ordering}
use Rattle.std.specs.declared.cmp.Ordering.TheVariants.{Less, Equal, Greater}
use Rattle.s38_base.specs.declared.page.Key.{Key}
use Rattle.s38_vault.specs.Directory.{Keys, NameObjects, is_after, next_among, next_key}
use Rattle.s38_vault.specs.Keys.{key_cmp, key_cmp_total}
use Rattle.s38_vault.proofs.PlaceLaws.{both_first, both_second}

-- what is found is one of the list
found_any : (p : Key → Bool) (xs : List Key) (k : Key) → find p xs ≡ Some k → list_any (eq_by_cmp key_cmp k) xs ≡ true
found_any p [] k e = absurd (cc)
found_any p (x ∷ xs) k e =
    let rest = found_any p xs k in
    elim (p x) as (λ b. cond b (Some x) (find p xs) ≡ Some k → (eq_by_cmp key_cmp k x || list_any (eq_by_cmp key_cmp k) xs) ≡ true) [
      | true ↦ λ q. ap (λ b. b || list_any (eq_by_cmp key_cmp k) xs) (same x q)
      | false ↦ λ q. later (eq_by_cmp key_cmp k x) _ (rest q)
    ] e
  where
    same : (x : Key) → Some x ≡ Some k → eq_by_cmp key_cmp k x ≡ true
    same x q = ap (λ (o : Option Key). eq_by_cmp key_cmp k (given o)) q ∙ ap is_eq (tied_itself key_cmp_total k)
      where
        given : Option Key → Key
        given None = k
        given (Some y) = y

    later : (a b : Bool) → b ≡ true → (a || b) ≡ true
    later true b e = refl
    later false b e = e

pub next_there : (ks : Keys) (after : Option Key) (k : Key) → next_key ks after ≡ Some k → contains_key ks k ≡ true
next_there ks after k e = contains_key-keys ks k ∙ found_any (is_after after) (keys ks) k e

-- the next key is of an object
pub next_named : (ks : Keys) (after : Option Key) (next : Option Key) → NameObjects ks → next ≡ next_key ks after → IfSome next (λ key. 1 ≤ key.object)
next_named ks after None named e = tt
next_named ks after (Some key) named e = named key (next_there ks after key (sym e))

-- ---- the keys come one after another

some_same : {A : Type 0} (x y : A) → Some x ≡ Some y → x ≡ y
some_same x y e = ap (λ o. unwrap_or o x) e

below_at : (k : Key) (es : List (Key × Unit {0})) (i : ℕ) (q : Key) → below_all key_cmp k es ≡ true → slice_get (map (λ e. e.0) es) i ≡ Some q → key_cmp k q ≡ Less
below_at k [] i q h e = absurd (cc)
below_at k (e ∷ es) zero q h is = subst (λ (x : Key). key_cmp k x ≡ Less) (some_same e.0 q is) (below_first (key_cmp k e.0) (both_first _ _ h))
  where
    below_first : (r : Ordering) → is_lt r ≡ true → r ≡ Less
    below_first Less e = refl
    below_first Equal e = absurd (cc)
    below_first Greater e = absurd (cc)
below_at k (e ∷ es) (suc i) q h is = below_at k es i q (both_second _ _ h) is

first_after : (k : Key) (es : List (Key × Unit {0})) → below_all key_cmp k es ≡ true → find (is_after (Some k)) (map (λ e. e.0) es) ≡ slice_get (map (λ e. e.0) es) 0
first_after k [] h = refl
first_after k (e ∷ es) h = ap (λ b. cond b (Some e.0) (find (is_after (Some k)) (map (λ e. e.0) es))) (both_first _ _ h)

next_at : (es : List (Key × Unit {0})) (i : ℕ) (k : Key) → is_sorted key_cmp es ≡ true → slice_get (map (λ e. e.0) es) i ≡ Some k → find (is_after (Some k)) (map (λ e. e.0) es) ≡ slice_get (map (λ e. e.0) es) (suc i)
next_at [] i k h is = absurd (cc)
next_at (e ∷ es) zero k h is =
    let same = some_same e.0 k is in
    let itself : is_lt (key_cmp k e.0) ≡ false = ap is_lt (ap (λ (x : Key). key_cmp k x) same ∙ tied_itself key_cmp_total k) in
    ap (λ b. cond b (Some e.0) (find (is_after (Some k)) (map (λ e. e.0) es))) itself
    ∙ first_after k es (subst (λ (x : Key). below_all key_cmp x es ≡ true) same (both_first _ _ h))
next_at (e ∷ es) (suc i) k h is =
    let before = below_at e.0 es i k (both_first _ _ h) is in
    let passed : is_lt (key_cmp k e.0) ≡ false = ap is_lt (key_cmp_total.antisymm k e.0 ∙ ap ordering_reverse before) in
    ap (λ b. cond b (Some e.0) (find (is_after (Some k)) (map (λ e. e.0) es))) passed
    ∙ next_at es i k (both_second _ _ h) is

sorted_is : (b : Bool) → T b → b ≡ true
sorted_is true h = refl
sorted_is false h = absurd h

-- after no key the first one comes, and after each key the one that follows it
pub next-None : (ks : Keys) → next_key ks None ≡ slice_get (keys ks) 0
next-None ks = by (keys ks)
  where
    by : (xs : List Key) → next_among xs None ≡ slice_get xs 0
    by [] = refl
    by (x ∷ xs) = refl

pub next-Some : (ks : Keys) (i : ℕ) (k : Key) → slice_get (keys ks) i ≡ Some k → next_key ks (Some k) ≡ slice_get (keys ks) (suc i)
next-Some ks i k is = next_at (entries ks) i k (sorted_is _ (entries_sorted ks)) is
