-- Homes in a tree as a finite map, and an index that is filled from them.
use Rattle.std.proofs.Common.{◌≡◌, ℕ, ◌+◌, false, cond, List, [], ◌∷◌, map, length, Option, Some, None, refl, sym, ◌∙◌, ap, arith, ⊎_elim}
use Rattle.std.specs.Prelude.{is_some}
use Rattle.std.proofs.lemmas.Bool.{both_ways}
use Rattle.std.specs.declared.cmp.Ordering.TheVariants.{Less}
use Rattle.std.specs.Ordering.{eq_by_cmp, is_eq}
use Rattle.std.specs.List.{AllByRecursion}
use Rattle.std.specs.List.Sorted.{IsStrictlySortedBy}
use Rattle.std.specs.Map.{lookup}
use Rattle.std.specs.BTreeMap as tree
use Rattle.std.specs.BTreeMap.{BTreeMap, IsOrdered, Updates, is_at}
use Rattle.std.specs.FinMap.{empty, find, from_entries, get, get-empty, insert, len, len-empty, len-insert, same_map}
use Rattle.s38_base.specs.declared.page.Key.{Key}
use Rattle.s38_vault.specs.Keys.{key_cmp, key_cmp_total}
use Rattle.s38_pages.specs.Index.{Homes}
use Rattle.s38_pages.specs.Scan.{homes_of}
use Rattle.s38_pages.proofs.Contents.{apart_keys, key_cases, key_itself, key_same, with_here, with_other}
use Rattle.s38_pages.proofs.Tallies.{get_inserted}

abbrev keys : List (Key × ℕ) → List Key
keys es = map (λ e. e.0) es

found_there : (es : List (Key × ℕ)) (q : Key) → lookup (is_at (key_cmp q)) es ≡ find key_cmp q es
found_there [] q = refl
found_there (e ∷ es) q = ap (λ r. cond (eq_by_cmp key_cmp q e.0) (Some e.1) r) (found_there es q)

in_list : (es : List (Key × ℕ)) (q : Key) → get (from_entries {R = key_cmp} es) q ≡ find key_cmp q es
in_list [] q = get-empty key_cmp q
in_list (e ∷ es) q =
    ap (λ (ix : Key → Option ℕ). ix q) (get_inserted (from_entries es) e.0 e.1) ∙ ap (λ o. cond (eq_by_cmp key_cmp q e.0) (Some e.1) o) (in_list es q)

-- ---- a tree as a finite map

pub in_tree : (t : BTreeMap Key ℕ) (q : Key) → get (homes_of t) q ≡ tree.get key_cmp t q
in_tree t q = in_list t.entries q ∙ sym (found_there t.entries q)

turned : (k q : Key) → is_at (key_cmp k) q ≡ eq_by_cmp key_cmp q k
turned k q = ⊎_elim
    (λ e. ap (λ x. eq_by_cmp key_cmp k x) e ∙ key_itself k ∙ sym (ap (λ x. eq_by_cmp key_cmp x k) e ∙ key_itself k))
    (λ other. apart_keys k q (λ e. both_ways _ other (ap (λ x. eq_by_cmp key_cmp x k) (sym e) ∙ key_itself k)) ∙ sym other)
    (key_cases q k)

pub in_more : (t u : BTreeMap Key ℕ) (k : Key) (h : ℕ) → Updates key_cmp t u k (Some h) → homes_of u ≡ insert (homes_of t) k h
in_more t u k h put = same_map key_cmp_total key_same _ _ (λ q.
    in_tree u q ∙ put.0 q ∙ ap (λ b. cond b (Some h) (tree.get key_cmp t q)) (turned k q)
    ∙ ap (λ o. cond (eq_by_cmp key_cmp q k) (Some h) o) (sym (in_tree t q)) ∙ sym (ap (λ (ix : Key → Option ℕ). ix q) (get_inserted (homes_of t) k h)))

-- ---- an index that is filled

abbrev pub either : Option ℕ → Option ℕ → Option ℕ
either None o = o
either (Some h) o = Some h

none_below : (k : Key) (es : List (Key × ℕ)) → AllByRecursion (λ y. key_cmp k y ≡ Less) (keys es) → find key_cmp k es ≡ None
none_below k [] all = refl
none_below k (e ∷ es) all = ap (λ o. cond (is_eq o) (Some e.1) (find key_cmp k es)) all.0 ∙ none_below k es all.1

pub rising_rest : (e : Key × ℕ) (rest : List (Key × ℕ)) → IsStrictlySortedBy key_cmp (keys (e ∷ rest)) → IsStrictlySortedBy key_cmp (keys rest)
unfolding IsStrictlySortedBy
rising_rest e rest is = is.1

-- one home more
pub filled_more : (homes : Homes) (e : Key × ℕ) (rest : List (Key × ℕ)) → IsStrictlySortedBy key_cmp (keys (e ∷ rest)) → (q : Key)
    → either (find key_cmp q rest) (get (insert homes e.0 e.1) q) ≡ either (find key_cmp q (e ∷ rest)) (get homes q)
unfolding IsStrictlySortedBy
filled_more homes e rest is q = ⊎_elim (λ same. after same ∙ sym (before same)) apart (key_cases q e.0)
  where
    before : q ≡ e.0 → either (find key_cmp q (e ∷ rest)) (get homes q) ≡ Some e.1
    before same = ap (λ b. either (cond b (Some e.1) (find key_cmp q rest)) (get homes q)) (ap (λ x. eq_by_cmp key_cmp x e.0) same ∙ key_itself e.0)

    after : q ≡ e.0 → either (find key_cmp q rest) (get (insert homes e.0 e.1) q) ≡ Some e.1
    after same =
        ap (λ o. either o (get (insert homes e.0 e.1) q)) (ap (λ x. find key_cmp x rest) same ∙ none_below e.0 rest is.0)
        ∙ ap (λ (ix : Key → Option ℕ). ix q) (get_inserted homes e.0 e.1) ∙ with_here (get homes) e.0 (Some e.1) q same

    apart : eq_by_cmp key_cmp q e.0 ≡ false → either (find key_cmp q rest) (get (insert homes e.0 e.1) q) ≡ either (find key_cmp q (e ∷ rest)) (get homes q)
    apart other =
        ap (either (find key_cmp q rest)) (ap (λ (ix : Key → Option ℕ). ix q) (get_inserted homes e.0 e.1) ∙ with_other (get homes) e.0 (Some e.1) q other)
        ∙ sym (ap (λ b. either (cond b (Some e.1) (find key_cmp q rest)) (get homes q)) other)

alone : (o : Option ℕ) → either o None ≡ o
alone None = refl
alone (Some h) = refl

pub filled_start : (homes : Homes) → homes ≡ empty → (es : List (Key × ℕ)) (q : Key) → either (find key_cmp q es) (get homes q) ≡ find key_cmp q es
filled_start homes none es q = ap (λ m. either (find key_cmp q es) (get m q)) none ∙ ap (either (find key_cmp q es)) (get-empty key_cmp q) ∙ alone (find key_cmp q es)

pub filled_end : (homes : Homes) (t : BTreeMap Key ℕ) → ((q : Key) → get homes q ≡ find key_cmp q t.entries) → homes ≡ homes_of t
filled_end homes t told = same_map key_cmp_total key_same _ _ (λ q. told q ∙ sym (in_list t.entries q))

length_list : (es : List (Key × ℕ)) → IsStrictlySortedBy key_cmp (keys es) → len (from_entries {R = key_cmp} es) ≡ length es
unfolding IsStrictlySortedBy
length_list [] is = len-empty key_cmp ℕ
length_list (e ∷ es) is =
    let rest : Homes = from_entries es in
    let before = length_list es is.1 in
    let more : len (insert rest e.0 e.1) ≡ len rest + 1 =
    len-insert key_cmp_total rest e.0 e.1 ∙ ap (λ o. cond (is_some o) (len rest) (len rest + 1)) (in_list es e.0 ∙ none_below e.0 es is.0) in
    omega (arith, before, more)

pub length_tree : (t : BTreeMap Key ℕ) → IsOrdered key_cmp t → len (homes_of t) ≡ length t.entries
length_tree t is = length_list t.entries is
