-- Entries that rise by key, as the finite map that contracts see.
use Rattle.std.proofs.Common.{◌≡◌, ℕ, ◌+◌, ◌-◌, Bool, true, false, cond, not, List, [], ◌∷◌, length, map, set, refl, sym, ◌∙◌, ap, subst, arith}
use lib.Dec.{T}
use Rattle.std.proofs.lemmas.List.Folds.{find_at}
use Rattle.std.specs.Prelude.{Option, Some, None, insert, is_some, remove, slice_get}
use Rattle.std.specs.Cmp.{alike_right, eq_by_cmp_equiv}
use Rattle.std.specs.FinMap as finmap
use Rattle.std.specs.FinMap.{IsAntisymmetric, find, from_sorted, is_sorted, put, empty_of_len, entries-from_sorted, entries-insert, get-from_sorted, get-remove, len-entries, nat_cmp-IsAntisymmetric, same_entries_map, same_map}
use Rattle.std.specs.FinMap.Entries.{find-where_key, is_sorted-put, is_sorted-where_key, where_key}
use Rattle.std.specs.List.{position_or_len}
use Rattle.std.specs.Ordering.{eq_by_cmp, is_eq, nat_cmp, ordering_then}
use Rattle.std.specs.declared.cmp.Ordering.{Ordering}
use Rattle.std.specs.declared.cmp.Ordering.TheVariants.{Less, Equal, Greater}
use Rattle.s38_base.specs.declared.page.Key.{Key}
use Rattle.s38_vault.specs.Directory.{is_after, next_among}
use Rattle.s38_vault.specs.Keyed.{KeyedMap, is_of, place, value_of}
use Rattle.s38_vault.specs.Keys.{key_cmp, key_cmp_total}
use Rattle.s38_vault.proofs.PlaceLaws.{found_there, inserted, nothing_removed, removed, replaced}

-- ---- only one key ties with a key

then_equal : (r s : Ordering) → ordering_then r s ≡ Equal → (r ≡ Equal) × (s ≡ Equal)
then_equal Less s e = absurd (cc)
then_equal Equal s e = (refl, e)
then_equal Greater s e = absurd (cc)

pub key_cmp-IsAntisymmetric : IsAntisymmetric key_cmp
key_cmp-IsAntisymmetric a b e =
    let both = then_equal (nat_cmp a.object b.object) (nat_cmp a.part b.part) e in
    let objects = nat_cmp-IsAntisymmetric a.object b.object both.0 in
    let parts = nat_cmp-IsAntisymmetric a.part b.part both.1 in
    λ i. record { object = objects i; part = parts i }

-- ---- the map of entries that rise

holds : (b : Bool) → T b → b ≡ true
holds true h = refl
holds false h = absurd h

turned : {A : Type 0} (b : Bool) (x y : A) → cond (not b) x y ≡ cond b y x
turned true x y = refl
turned false x y = refl

first_of : (ks : List Key) → slice_get ks 0 ≡ next_among ks None
first_of [] = refl
first_of (k ∷ ks) = refl

module _ {V : Type 0} where
  abbrev pub Rise : List (Key × V) → Type 0
  Rise es = is_sorted key_cmp es ≡ true

  abbrev pub without : Key → List (Key × V) → List (Key × V)
  without key es = where_key key_cmp (λ k. not (eq_by_cmp key_cmp key k)) es

  abbrev pub map_of : List (Key × V) → finmap.FinMap key_cmp V
  map_of es = from_sorted es

  sorted : (es : List (Key × V)) → Rise es → T (is_sorted key_cmp es)
  sorted es h = subst T (sym h) tt

  pub get_is : (es : List (Key × V)) (key : Key) → Rise es → find key_cmp key es ≡ finmap.get (map_of es) key
  get_is es key h = sym (get-from_sorted key_cmp es key (sorted es h))

  pub keys_are : (es : List (Key × V)) → Rise es → finmap.keys (map_of es) ≡ map (λ e. e.0) es
  keys_are es h = ap (map (λ e. e.0)) (entries-from_sorted key_cmp es (sorted es h))

  pub len_is : (es : List (Key × V)) → Rise es → finmap.len (map_of es) ≡ length es
  len_is es h = len-entries (map_of es) ∙ ap length (entries-from_sorted key_cmp es (sorted es h))

  pub none_is : map_of [] ≡ finmap.empty
  none_is = empty_of_len _ (len_is [] refl)

  -- an empty list, for which no memory was taken
  pub none_kept : (es : List (Key × V)) (capacity len : ℕ) → es ≡ [] → capacity ≡ 0 → ◌≡◌ {A = KeyedMap V} (record { values = map_of es; spare = capacity - len }) (record { values = finmap.empty; spare = 0 })
  none_kept es capacity len none no_room =
      let nothing : capacity - len ≡ 0 = omega arith in
      λ i. record { values = (ap map_of none ∙ none_is) i; spare = nothing i }

  pub rise_put : (es : List (Key × V)) (key : Key) (value : V) → Rise es → Rise (put key_cmp key value es)
  rise_put es key value h = holds _ (is_sorted-put key_cmp key_cmp_total key value es (sorted es h))

  pub values_put : (es : List (Key × V)) (key : Key) (value : V) → Rise es → map_of (put key_cmp key value es) ≡ finmap.insert (map_of es) key value
  values_put es key value h =
      let rises = is_sorted-put key_cmp key_cmp_total key value es (sorted es h) in
      same_entries_map _ _ (entries-from_sorted key_cmp _ rises
      ∙ sym (entries-insert key_cmp_total (map_of es) key value ∙ ap (put key_cmp key value) (entries-from_sorted key_cmp es (sorted es h))))

  pub rise_without : (es : List (Key × V)) (key : Key) → Rise es → Rise (without key es)
  rise_without es key h = holds _ (is_sorted-where_key key_cmp (λ k. not (eq_by_cmp key_cmp key k)) es (sorted es h))

  pub values_without : (es : List (Key × V)) (key : Key) → Rise es → map_of (without key es) ≡ finmap.remove (map_of es) key
  values_without es key h =
      let rises = is_sorted-where_key key_cmp (λ k. not (eq_by_cmp key_cmp key k)) es (sorted es h) in
      same_map key_cmp_total key_cmp-IsAntisymmetric _ _ (λ q.
      get-from_sorted key_cmp (without key es) q rises
      ∙ find-where_key key_cmp (λ k. not (eq_by_cmp key_cmp key k)) q (λ x t. ap (λ r. not (is_eq r)) (sym (alike_right key_cmp_total q x key t))) es
      ∙ turned (eq_by_cmp key_cmp key q) (find key_cmp q es) None
      ∙ ap (λ b. cond b None (find key_cmp q es)) ((eq_by_cmp_equiv key_cmp_total).symm key q)
      ∙ ap (λ o. cond (eq_by_cmp key_cmp q key) None o) (get_is es q h)
      ∙ sym (get-remove key_cmp_total (map_of es) key q))

  -- ---- what is at the place of a key

  pub found_at : (es : List (Key × V)) (key : Key) (n : ℕ) → Rise es → n ≡ place key es → value_of key (slice_get es n) ≡ find key_cmp key es
  found_at es key n h e = ap (λ k. value_of key (slice_get es k)) e ∙ sym (found_there key_cmp_total key es h)

  some_there : (key : Key) (o : Option (Key × V)) → is_of key o ≡ is_some (value_of key o)
  some_there key None = refl
  some_there key (Some e) = elim (eq_by_cmp key_cmp e.0 key) as (λ b. b ≡ is_some (cond b (Some e.1) None)) [ true ↦ refl | false ↦ refl ]

  pub contained_at : (es : List (Key × V)) (key : Key) (n : ℕ) → Rise es → n ≡ place key es → is_of key (slice_get es n) ≡ finmap.contains_key (map_of es) key
  contained_at es key n h e = some_there key (slice_get es n) ∙ ap is_some (found_at es key n h e ∙ get_is es key h)

  pub inserted_at : (es : List (Key × V)) (key : Key) (value : V) (n : ℕ) (b : Bool) → n ≡ place key es → b ≡ is_of key (slice_get es n) → b ≡ false → insert es n (key, value) ≡ put key_cmp key value es
  inserted_at es key value n b e is new =
      ap (λ k. insert es k (key, value)) e ∙ inserted key_cmp_total key value es (ap (λ k. is_of key (slice_get es k)) (sym e) ∙ sym is ∙ new)

  pub replaced_at : (es : List (Key × V)) (key : Key) (value : V) (n : ℕ) (b : Bool) → n ≡ place key es → b ≡ is_of key (slice_get es n) → b ≡ true → set es n (key, value) ≡ put key_cmp key value es
  replaced_at es key value n b e is there =
      ap (λ k. set es k (key, value)) e ∙ replaced key_cmp_total key key_cmp-IsAntisymmetric value es (ap (λ k. is_of key (slice_get es k)) (sym e) ∙ sym is ∙ there)

  pub removed_at : (es : List (Key × V)) (key : Key) (n : ℕ) (b : Bool) → Rise es → n ≡ place key es → b ≡ is_of key (slice_get es n) → b ≡ true → remove es n ≡ without key es
  removed_at es key n b h e is there =
      ap (λ k. remove es k) e ∙ removed key_cmp_total key es h (ap (λ k. is_of key (slice_get es k)) (sym e) ∙ sym is ∙ there)

  missing : (key : Key) (o : Option (Key × V)) → is_of key o ≡ false → value_of key o ≡ None
  missing key None e = refl
  missing key (Some entry) e = ap (λ b. cond b (Some entry.1) None) e

  pub kept_at : (es : List (Key × V)) (key : Key) (n : ℕ) (b : Bool) → Rise es → n ≡ place key es → b ≡ is_of key (slice_get es n) → b ≡ false → es ≡ without key es
  kept_at es key n b h e is new =
      sym (nothing_removed key_cmp_total key es (sym (found_at es key n h e) ∙ missing key (slice_get es n) (sym is ∙ new)))

  -- ---- which key is next

  moved : (p : Key → Bool) (es : List (Key × V)) → position_or_len p (map (λ e. e.0) es) ≡ position_or_len (λ e. p e.0) es
  moved p [] = refl
  moved p (e ∷ es) = ap (λ n. cond (not (p e.0)) (1 + n) 0) (moved p es)

  pub next_of : (es : List (Key × V)) (after : Key) (n : ℕ) → n ≡ position_or_len (λ e. is_after (Some after) e.0) es → slice_get (map (λ e. e.0) es) n ≡ next_among (map (λ e. e.0) es) (Some after)
  next_of es after n e =
      let keys = map (λ (e : Key × V). e.0) es in
      ap (slice_get keys) (e ∙ sym (moved (is_after (Some after)) es)) ∙ sym (find_at (is_after (Some after)) keys)

  pub least_of : (es : List (Key × V)) → slice_get (map (λ e. e.0) es) 0 ≡ next_among (map (λ e. e.0) es) None
  least_of es = first_of (map (λ e. e.0) es)
