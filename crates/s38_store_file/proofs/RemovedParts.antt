-- What a content holds once some of its parts are taken away.
use Rattle.std.proofs.Common.{◌≡◌, Bool, true, false, cond, not, List, [], ◌∷◌, map, filter, Option, Some, None, refl, sym, ap, ◌∙◌}
use Rattle.std.specs.Prelude.{◌||◌}
use Rattle.std.specs.FinMap.{entries, entries-from_sorted, entries_sorted, from_sorted, get, get-entries, get-from_sorted, get-remove, same_map}
use Rattle.std.specs.FinMap.Entries.{find-where_key, is_sorted-where_key, where_key}
use Rattle.std.specs.List.{list_any}
use Rattle.std.specs.Ordering.{eq_by_cmp}
use Rattle.s38_base.specs.declared.page.Change.{Change}
use Rattle.s38_base.specs.declared.page.Key.{Key}
use Rattle.s38_base.specs.declared.page.Page.{Page}
use Rattle.s38_restart.specs.catalog.Groups.{part_taken}
use Rattle.s38_restart.specs.Parts.{all_parts, part_of}
use Rattle.s38_restart.specs.Removing.{AreRemovals}
use Rattle.s38_vault.proofs.KeyedLaws.{key_cmp-IsAntisymmetric}
use Rattle.s38_vault.specs.Content.{Content, changed, with_value}
use Rattle.s38_vault.specs.Keys.{key_cmp, key_cmp_total}

abbrev pub stays : List Change → Key → Bool
stays cs q = not (list_any (λ c. eq_by_cmp key_cmp q c.key) cs)

merged : (a b : Bool) (x : Option Page) → cond (not b) (cond a None x) None ≡ cond (not (a || b)) x None
merged true true x = refl
merged true false x = refl
merged false true x = refl
merged false false x = refl

gone_value : (m : Content) (k : Key) (page : Option Page) (q : Key) → page ≡ None → get (with_value m k page) q ≡ cond (eq_by_cmp key_cmp q k) None (get m q)
gone_value m k None q e = get-remove key_cmp_total m k q
gone_value m k (Some p) q e = absurd (cc)

get_kept : (m : Content) (cs : List Change) → AreRemovals cs → (q : Key) → get (changed m cs) q ≡ cond (stays cs q) (get m q) None
get_kept m [] h q = refl
get_kept m (c ∷ cs) h q =
    get_kept (with_value m c.key c.page) cs h.1 q
    ∙ ap (λ (o : Option Page). cond (stays cs q) o None) (gone_value m c.key c.page q h.0)
    ∙ merged (eq_by_cmp key_cmp q c.key) (list_any (λ d. eq_by_cmp key_cmp q d.key) cs) (get m q)

entries_kept : (m : Content) (cs : List Change) → AreRemovals cs → entries (changed m cs) ≡ where_key key_cmp (stays cs) (entries m)
entries_kept m cs h =
    let es = where_key key_cmp (stays cs) (entries m) in
    let sorted = is_sorted-where_key key_cmp (stays cs) (entries m) (entries_sorted m) in
    let same : changed m cs ≡ from_sorted es = same_map key_cmp_total key_cmp-IsAntisymmetric (changed m cs) (from_sorted es) (λ q.
    get_kept m cs h q
    ∙ ap (λ (o : Option Page). cond (stays cs q) o None) (get-entries m q)
    ∙ sym (find-where_key key_cmp (stays cs) q (λ x tie. ap (stays cs) (sym (key_cmp-IsAntisymmetric q x tie))) (entries m))
    ∙ sym (get-from_sorted key_cmp es q sorted)) in
    ap entries same ∙ entries-from_sorted key_cmp es sorted

parts_where : (p : Key → Bool) (es : List (Key × Page)) → map part_of (where_key key_cmp p es) ≡ filter (λ c. p c.key) (map part_of es)
parts_where p [] = refl
parts_where p (e ∷ es) =
    elim (p e.0) as (λ b. map part_of (cond b (e ∷ where_key key_cmp p es) (where_key key_cmp p es)) ≡ cond b (part_of e ∷ filter (λ c. p c.key) (map part_of es)) (filter (λ c. p c.key) (map part_of es))) [
      | true ↦ ap (λ (l : List Change). part_of e ∷ l) (parts_where p es)
      | false ↦ parts_where p es
    ]

pub parts_kept : (m : Content) (cs : List Change) → AreRemovals cs → all_parts (changed m cs) ≡ filter (λ c. stays cs c.key) (all_parts m)
parts_kept m cs h = ap (map part_of) (entries_kept m cs h) ∙ parts_where (stays cs) (entries m)

pub taken_away : (test : Change → Bool) (xs : List Change) → AreRemovals (map part_taken (filter test xs))
taken_away test [] = tt
taken_away test (x ∷ xs) = elim (test x) as (λ b. AreRemovals (map part_taken (cond b (x ∷ filter test xs) (filter test xs)))) [ true ↦ (refl, taken_away test xs) | false ↦ taken_away test xs ]
