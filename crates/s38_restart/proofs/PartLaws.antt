-- The parts of a store, one after another.
use Rattle.std.proofs.Common.{◌≡◌, ℕ, zero, suc, ◌<◌, ◌≤◌, Bool, true, false, cond, List, [], ◌∷◌, ◌++◌, length, map, take, refl, sym, ◌∙◌, ap, subst, arith}
use lib.Dec.{T}
use Rattle.std.specs.Prelude.{Option, Some, None, IfSome, option_map, slice_get}
use Rattle.std.specs.Cmp.{tied_itself}
use Rattle.std.specs.FinMap.{entries, entries_sorted, find, get, get-entries, is_sorted, keys}
use Rattle.std.specs.FinMap.Entries.{below_all}
use Rattle.std.specs.Option.{unwrap_or}
use Rattle.std.specs.Ordering.{eq_by_cmp, is_eq, is_lt, ordering_reverse}
use Rattle.std.specs.declared.cmp.Ordering.{Ordering}
use Rattle.std.specs.declared.cmp.Ordering.TheVariants.{Less, Equal, Greater}
use Rattle.std.proofs.lemmas.Option.{slice_get-map}
use Rattle.std.proofs.lemmas.List.{length-append, length-map, map-append, take_all}
use Rattle.s38_base.specs.declared.page.Change.{Change}
use Rattle.s38_base.specs.declared.page.Key.{Key}
use Rattle.s38_base.specs.declared.page.Page.{Page}
use Rattle.s38_restart.specs.Parts.{all_parts, key_before, part_of}
use Rattle.s38_vault.specs.Content.{Content, HaveObjects}
use Rattle.s38_vault.specs.Directory.{Keys, keys_of, next_key}
use Rattle.s38_vault.specs.Keys.{key_cmp, key_cmp_total}
use Rattle.s38_vault.specs.Vaults.{VaultView}
use Rattle.s38_vault.proofs.DirectoryLaws.{keys-keys_of}
use Rattle.s38_vault.proofs.NextLaws.{next-None, next-Some}
use Rattle.s38_vault.proofs.PlaceLaws.{both_first, both_second}

some_same : {A : Type 0} (x y : A) → Some x ≡ Some y → x ≡ y
some_same x y e = ap (λ o. unwrap_or o x) e

below_first : (r : Ordering) → is_lt r ≡ true → r ≡ Less
below_first Less e = refl
below_first Equal e = absurd (cc)
below_first Greater e = absurd (cc)

-- ---- the value at a place

module _ {V : Type 0} where
  below_at : (k : Key) (es : List (Key × V)) (i : ℕ) (q : Key) → below_all key_cmp k es ≡ true → slice_get (map (λ e. e.0) es) i ≡ Some q → key_cmp k q ≡ Less
  below_at k [] i q h e = absurd (cc)
  below_at k (e ∷ es) zero q h is = subst (λ (x : Key). key_cmp k x ≡ Less) (some_same e.0 q is) (below_first (key_cmp k e.0) (both_first _ _ h))
  below_at k (e ∷ es) (suc i) q h is = below_at k es i q (both_second _ _ h) is

  found_at : (es : List (Key × V)) (i : ℕ) (k : Key) → is_sorted key_cmp es ≡ true → slice_get (map (λ e. e.0) es) i ≡ Some k → slice_get es i ≡ option_map (λ v. (k, v)) (find key_cmp k es)
  found_at [] i k h is = absurd (cc)
  found_at (e ∷ es) zero k h is =
      let same = some_same e.0 k is in
      let itself : eq_by_cmp key_cmp k e.0 ≡ true = ap is_eq (ap (λ (x : Key). key_cmp k x) same ∙ tied_itself key_cmp_total k) in
      let here : find key_cmp k (e ∷ es) ≡ Some e.1 = ap (λ b. cond b (Some e.1) (find key_cmp k es)) itself in
      ap (λ (x : Key). Some (x, e.1)) same ∙ sym (ap (option_map (λ v. (k, v))) here)
  found_at (e ∷ es) (suc i) k h is =
      let before = below_at e.0 es i k (both_first _ _ h) is in
      let passed : eq_by_cmp key_cmp k e.0 ≡ false = ap is_eq (key_cmp_total.antisymm k e.0 ∙ ap ordering_reverse before) in
      let later : find key_cmp k (e ∷ es) ≡ find key_cmp k es = ap (λ b. cond b (Some e.1) (find key_cmp k es)) passed in
      found_at es i k (both_second _ _ h) is ∙ sym (ap (option_map (λ v. (k, v))) later)

sorted_is : (b : Bool) → T b → b ≡ true
sorted_is true h = refl
sorted_is false h = absurd h

entry_at : (m : Content) (i : ℕ) (k : Key) → slice_get (keys m) i ≡ Some k → slice_get (entries m) i ≡ option_map (λ v. (k, v)) (get m k)
entry_at m i k is =
    found_at (entries m) i k (sorted_is _ (entries_sorted m)) is ∙ ap (option_map (λ v. (k, v))) (sym (get-entries m k))

-- ---- the next part

by_page : (k : Key) (e : Option (Key × Page)) (page : Option Page) → e ≡ option_map (λ v. (k, v)) page → option_map (λ x. x.0) e ≡ Some k → option_map part_of e ≡ Some (record { key = k; page = page })
by_page k e None is there = absurd (not_there (sym (ap (option_map (λ x. x.0)) is) ∙ there))
  where
    not_there : None ≡ Some k → ⊥
    not_there h = cc
by_page k e (Some p) is there = ap (option_map part_of) is

pub part_next : (m : Content) (i : ℕ) (k : Key) → slice_get (keys m) i ≡ Some k → slice_get (all_parts m) i ≡ Some (record { key = k; page = get m k })
part_next m i k is =
    slice_get-map part_of (entries m) i
    ∙ by_page k (slice_get (entries m) i) (get m k) (entry_at m i k is) (sym (slice_get-map (λ (e : Key × Page). e.0) (entries m) i) ∙ is)

none_past : {A : Type 0} (xs : List A) (i : ℕ) → slice_get xs i ≡ None → length xs ≤ i
none_past [] i e = omega arith
none_past (x ∷ xs) zero e = absurd cc
none_past (x ∷ xs) (suc i) e = let h = none_past xs i e in omega arith

-- the key after the first ones
pub next_is : (ks : Keys) (n : ℕ) (before : Option Key) → before ≡ key_before (keys ks) n → n ≤ length (keys ks) → next_key ks before ≡ slice_get (keys ks) n
next_is ks zero before is few = ap (next_key ks) is ∙ next-None ks
next_is ks (suc i) before is few = ap (next_key ks) is ∙ by (slice_get (keys ks) i) refl
  where
    by : (found : Option Key) → slice_get (keys ks) i ≡ found → next_key ks (slice_get (keys ks) i) ≡ slice_get (keys ks) (suc i)
    by None e = absurd (omega (arith, none_past (keys ks) i e, few))
    by (Some k) e = ap (next_key ks) e ∙ next-Some ks i k e

pub take_on : {A : Type 0} (xs : List A) (n : ℕ) (x : A) → slice_get xs n ≡ Some x → take n xs ++ x ∷ [] ≡ take (suc n) xs
take_on [] n x e = absurd cc
take_on (y ∷ xs) zero x e = cc
take_on (y ∷ xs) (suc n) x e = ap (λ (t : List _). y ∷ t) (take_on xs n x e)

pub within : {A : Type 0} (xs : List A) (n : ℕ) (x : A) → slice_get xs n ≡ Some x → n < length xs
within [] n x e = absurd cc
within (y ∷ xs) zero x e = omega arith
within (y ∷ xs) (suc n) x e = let h = within xs n x e in omega arith

-- one part more
pub parts_on : (m : Content) (parts new : List Change) (k : Key) (part : Change) → parts ≡ take (length parts) (all_parts m) → slice_get (keys m) (length parts) ≡ Some k
    → part ≡ record { key = k; page = get m k } → new ≡ parts ++ part ∷ [] → new ≡ take (length new) (all_parts m)
parts_on m parts new k part so_far is one more =
    let n = length parts in
    let there : slice_get (all_parts m) n ≡ Some part = part_next m n k is ∙ ap (λ (x : Change). Some x) (sym one) in
    let count : length new ≡ suc n = ap length more ∙ length_on in
    more ∙ ap (λ (t : List Change). t ++ part ∷ []) so_far ∙ take_on (all_parts m) n part there ∙ ap (λ (k : ℕ). take k (all_parts m)) (sym count)
  where
    length_on : length (parts ++ part ∷ []) ≡ suc (length parts)
    length_on = omega (arith, length-append parts (part ∷ []))

-- no part is left
pub parts_all : (m : Content) (parts : List Change) → parts ≡ take (length parts) (all_parts m) → slice_get (keys m) (length parts) ≡ None → parts ≡ all_parts m
parts_all m parts so_far none =
    let enough = none_past (keys m) (length parts) none in
    let all : length (all_parts m) ≤ length parts = omega (arith, enough, length-map (entries m) part_of, length-map (entries m) (λ (e : Key × Page). e.0)) in
    so_far ∙ take_all (length parts) (all_parts m) all

-- ---- the keys

abbrev pub key_of : Change → Key
key_of c = c.key

-- one key more
pub keys_on : (ks : List Key) (parts new : List Change) (k : Key) (part : Change) → map key_of parts ≡ take (length parts) ks → slice_get ks (length parts) ≡ Some k → part.key ≡ k → new ≡ parts ++ part ∷ [] → map key_of new ≡ take (length new) ks
keys_on ks parts new k part so_far there is more =
    let count : length new ≡ suc (length parts) = omega (arith, ap length more, length-append parts (part ∷ [])) in
    ap (map key_of) more ∙ map-append key_of parts (part ∷ []) ∙ ap (λ (x : Key). map key_of parts ++ x ∷ []) is
    ∙ ap (λ (t : List Key). t ++ k ∷ []) so_far ∙ take_on ks (length parts) k there ∙ ap (λ (n : ℕ). take n ks) (sym count)

-- no key is left
pub keys_all : (ks : List Key) (parts : List Change) → map key_of parts ≡ take (length parts) ks → slice_get ks (length parts) ≡ None → map key_of parts ≡ ks
keys_all ks parts so_far none = so_far ∙ take_all (length parts) ks (none_past ks (length parts) none)

pub have_push : (xs : List Change) (c : Change) → HaveObjects xs → 1 ≤ c.key.object → HaveObjects (xs ++ c ∷ [])
have_push [] c h le = (le, tt)
have_push (x ∷ xs) c h le = (h.0, have_push xs c h.1 le)

pub object_of : (o : Option Key) (k : Key) → o ≡ Some k → IfSome o (λ key. 1 ≤ key.object) → 1 ≤ k.object
object_of o k is h = let at : IfSome (Some k) (λ key. 1 ≤ key.object) = subst (λ (r : Option Key). IfSome r (λ key. 1 ≤ key.object)) is h in at

-- a vault that failed no further time is as it was
pub same_view : (old new : VaultView) → new ≡ record old { faults = new.faults } → new.faults ≡ old.faults → new ≡ old
same_view old new stays count = stays ∙ ap (λ (n : ℕ). record old { faults = n }) count

pub same_keys : (m : Content) (ks : Keys) → ks ≡ keys_of m → keys ks ≡ keys m
same_keys m ks is = ap (λ (k : Keys). keys k) is ∙ keys-keys_of m
