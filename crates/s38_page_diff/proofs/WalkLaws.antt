-- Which key is the next, and what lies before it.
use Rattle.std.proofs.Common.{◌≡◌, ℕ, ◌<◌, ◌≤◌, Bool, true, false, cond, List, [], ◌∷◌, map, refl, sym, ◌∙◌, ap, subst, arith, inl, inr}
use lib.Dec.{T}
use Rattle.std.proofs.lemmas.Bool.{cases_lt}
use Rattle.std.proofs.lemmas.Bool.Decides.{Decides-eqb, nat_tests}
use Rattle.std.specs.Prelude.{◌==◌, ◌&&◌, ◌||◌, Option, Some, None, find}
use Rattle.std.specs.Cmp.{tied_itself}
use Rattle.std.specs.FinMap.{contains_key, contains_key-keys, entries, entries_sorted, is_sorted, keys}
use Rattle.std.specs.FinMap.Entries.{below_all}
use Rattle.std.specs.List.{list_any}
use Rattle.std.specs.Ordering.{eq_by_cmp, is_eq, is_lt, ordering_reverse}
use Rattle.std.specs.declared.cmp.Ordering.{Ordering}
use Rattle.std.specs.declared.cmp.Ordering.TheVariants.{Less, Equal, Greater}
use Rattle.s38_base.specs.declared.page.Key.{Key}
use Rattle.s38_vault.specs.Directory.{Keys, is_after, next_key}
use Rattle.s38_vault.specs.Keys.{key_cmp, key_cmp_total}
use Rattle.s38_vault.proofs.KeyedLaws.{key_cmp-IsAntisymmetric}
use Rattle.s38_vault.proofs.NextLaws.{next_there}
use Rattle.s38_vault.proofs.PlaceLaws.{both_first, both_second}

-- ---- the order of keys

abbrev pub key_at : ℕ → ℕ → Key
key_at object part = record { object = object; part = part }

pub part_below : (a b : Key) → a.object ≡ b.object → a.part < b.part → key_cmp a b ≡ Less
part_below a b same low = grind (arith, nat_tests)

pub object_below : (a b : Key) → a.object < b.object → key_cmp a b ≡ Less
object_below a b low = grind (arith, nat_tests)

pub below_part : (a b : Key) → a.object ≡ b.object → key_cmp a b ≡ Less → a.part < b.part
below_part a b same less = grind (arith, nat_tests)

is_eq-Equal : (r : Ordering) → is_eq r ≡ true → r ≡ Equal
is_eq-Equal Less e = absurd (cc)
is_eq-Equal Equal e = refl
is_eq-Equal Greater e = absurd (cc)

is_lt-Less : (r : Ordering) → is_lt r ≡ true → r ≡ Less
is_lt-Less Less e = refl
is_lt-Less Equal e = absurd (cc)
is_lt-Less Greater e = absurd (cc)

pub one_key : (a b : Key) → eq_by_cmp key_cmp a b ≡ true → a ≡ b
one_key a b e = key_cmp-IsAntisymmetric a b (is_eq-Equal (key_cmp a b) e)

pub key_itself : (a : Key) → eq_by_cmp key_cmp a a ≡ true
key_itself a = ap is_eq (tied_itself key_cmp_total a)

pub not_above : (a b : Key) → key_cmp a b ≡ Less → eq_by_cmp key_cmp b a ≡ false
not_above a b less = ap is_eq (key_cmp_total.antisymm b a ∙ ap ordering_reverse less)

pub not_below : (a b : Key) → key_cmp a b ≡ Less → eq_by_cmp key_cmp a b ≡ false
not_below a b less = ap is_eq less

one_way : (a b : Key) → key_cmp a b ≡ Less → key_cmp b a ≡ Less → ⊥
one_way a b less more = cc (key_cmp_total.antisymm a b, ap ordering_reverse more)

-- ---- the least key that passes

abbrev among : Key → List Key → Bool
among q xs = list_any (eq_by_cmp key_cmp q) xs

one_passes : (p : Key → Bool) (xs : List Key) (q : Key) → among q xs ≡ true → p q ≡ true → find p xs ≡ None → ⊥
one_passes p [] q there passes none = cc
one_passes p (x ∷ xs) q there passes none =
    let rest = one_passes p xs q in
    elim (p x) as (λ b. p x ≡ b → cond b (Some x) (find p xs) ≡ None → ⊥) [
      | true ↦ λ here e. cc
      | false ↦ λ here e.
          elim (eq_by_cmp key_cmp q x) as (λ b. eq_by_cmp key_cmp q x ≡ b → (b || among q xs) ≡ true → ⊥) [
            | true ↦ λ same h. cc (ap p (one_key q x same))
            | false ↦ λ same h. rest h passes e
          ] refl there
    ] refl none

below_among : (k : Key) (es : List (Key × Unit {0})) (q : Key) → below_all key_cmp k es ≡ true → among q (map (λ e. e.0) es) ≡ true → key_cmp k q ≡ Less
below_among k [] q below there = absurd (cc)
below_among k (e ∷ es) q below there =
    let rest = below_among k es q (both_second _ _ below) in
    let first = is_lt-Less (key_cmp k e.0) (both_first _ _ below) in
    elim (eq_by_cmp key_cmp q e.0) as (λ b. eq_by_cmp key_cmp q e.0 ≡ b → (b || among q (map (λ x. x.0) es)) ≡ true → key_cmp k q ≡ Less) [
      | true ↦ λ same h. subst (λ (x : Key). key_cmp k x ≡ Less) (sym (one_key q e.0 same)) first
      | false ↦ λ same h. rest h
    ] refl there

some_same : (x y : Key) → Some x ≡ Some y → x ≡ y
some_same x y e = cc

first_least : (p : Key → Bool) (es : List (Key × Unit {0})) (k q : Key) → is_sorted key_cmp es ≡ true → find p (map (λ e. e.0) es) ≡ Some k → among q (map (λ e. e.0) es) ≡ true → p q ≡ true → key_cmp q k ≡ Less → ⊥
first_least p [] k q sorted found there passes less = cc
first_least p (e ∷ es) k q sorted found there passes less =
    let rest : find p (map (λ x. x.0) es) ≡ Some k → among q (map (λ x. x.0) es) ≡ true → p q ≡ true → key_cmp q k ≡ Less → ⊥ = first_least p es k q (both_second (below_all key_cmp e.0 es) (is_sorted key_cmp es) sorted) in
    let below : among q (map (λ x. x.0) es) ≡ true → key_cmp e.0 q ≡ Less = below_among e.0 es q (both_first (below_all key_cmp e.0 es) (is_sorted key_cmp es) sorted) in
    elim (eq_by_cmp key_cmp q e.0) as (λ b. eq_by_cmp key_cmp q e.0 ≡ b → (b || among q (map (λ x. x.0) es)) ≡ true → ⊥) [
      | true ↦ λ same h.
          let one = one_key q e.0 same in
          let passed : p e.0 ≡ true = subst (λ (x : Key). p x ≡ true) one passes in
          let first : e.0 ≡ k = some_same e.0 k (sym (ap (λ b. cond b (Some e.0) (find p (map (λ x. x.0) es))) passed) ∙ found) in
          let itself : key_cmp q k ≡ Equal = ap (key_cmp q) (sym (one ∙ first)) ∙ tied_itself key_cmp_total q in
          cc
      | false ↦ λ same h.
          elim (p e.0) as (λ b. cond b (Some e.0) (find p (map (λ x. x.0) es)) ≡ Some k → ⊥) [
            | true ↦ λ f. one_way q e.0 (subst (λ (x : Key). key_cmp q x ≡ Less) (sym (some_same e.0 k f)) less) (below h)
            | false ↦ λ f. rest f h passes less
          ] found
    ] refl there

sorted_is : (b : Bool) → T b → b ≡ true
sorted_is true h = refl
sorted_is false h = absurd h

pub next_none : (ks : Keys) (after : Option Key) (q : Key) → next_key ks after ≡ None → is_after after q ≡ true → contains_key ks q ≡ true → ⊥
next_none ks after q none passes there = one_passes (is_after after) (keys ks) q (sym (contains_key-keys ks q) ∙ there) passes none

pub next_least : (ks : Keys) (after : Option Key) (k q : Key) → next_key ks after ≡ Some k → is_after after q ≡ true → contains_key ks q ≡ true → key_cmp q k ≡ Less → ⊥
next_least ks after k q found passes there less =
    first_least (is_after after) (entries ks) k q (sorted_is _ (entries_sorted ks)) found (sym (contains_key-keys ks q) ∙ there) passes less

found_passes : (p : Key → Bool) (xs : List Key) (k : Key) → find p xs ≡ Some k → p k ≡ true
found_passes p [] k found = absurd (cc)
found_passes p (x ∷ xs) k found =
    let rest = found_passes p xs k in
    elim (p x) as (λ b. p x ≡ b → cond b (Some x) (find p xs) ≡ Some k → p k ≡ true) [
      | true ↦ λ here e. subst (λ (y : Key). p y ≡ true) (some_same x k e) here
      | false ↦ λ here e. rest e
    ] refl found

pub next_after : (ks : Keys) (after : Option Key) (k : Key) → next_key ks after ≡ Some k → is_after after k ≡ true
next_after ks after k found = found_passes (is_after after) (keys ks) k found

-- ---- no page before the first one

is_false : (b : Bool) → (b ≡ true → ⊥) → b ≡ false
is_false true h = absurd (h refl)
is_false false h = refl

pub none_past : (ks : Keys) (after : Option Key) (q : Key) → next_key ks after ≡ None → is_after after q ≡ true → contains_key ks q ≡ false
none_past ks after q none passes = is_false _ (next_none ks after q none passes)

-- a key after which the first one is, on the same object or a later one
pub none_before : (ks : Keys) (after : Option Key) (k q : Key) → next_key ks after ≡ Some k → is_after after q ≡ true → q.object ≤ k.object → (k.object ≡ q.object → q.part < k.part) → contains_key ks q ≡ false
none_before ks after k q found passes low part =
    is_false _ (λ there. next_least ks after k q found passes there (by refl))
  where
    by : q.object ≡ q.object → key_cmp q k ≡ Less
    by e = grind (arith, nat_tests, part)

pub same_contains : (ks : Keys) (k : Key) (object : ℕ) → k.object ≡ object → contains_key ks k ≡ true → contains_key ks (key_at object k.part) ≡ true
same_contains ks k object same there = subst (λ (n : ℕ). contains_key ks (key_at n k.part) ≡ true) same there

-- ---- a key that is there is the next one after the keys before it

no_yes : {b : Bool} → b ≡ true → b ≡ false → ⊥
no_yes t f = cc

both : (a b : Bool) → a ≡ true → b ≡ true → (a && b) ≡ true
both a b x y = λ i. x i && y i

pub there_is : (ks : Keys) (after : Option Key) (k q : Key) → next_key ks after ≡ Some k → is_after after q ≡ true → q.object ≤ k.object → (k.object ≡ q.object → q.part ≤ k.part)
    → ((k.object == q.object) && (k.part == q.part)) ≡ contains_key ks q
there_is ks after k q found passes low part = by (contains_key ks q) refl
  where
    same_object : contains_key ks q ≡ true → k.object ≡ q.object
    same_object there = elim (cases_lt q.object k.object) [
      | inl above ↦ absurd (next_least ks after k q found passes there (object_below q k above))
      | inr same ↦ omega arith
    ]

    same_part : contains_key ks q ≡ true → k.part ≡ q.part
    same_part there =
        let object = same_object there in
        let above = part object in
        elim (cases_lt q.part k.part) [
          | inl higher ↦ absurd (next_least ks after k q found passes there (part_below q k (sym object) higher))
          | inr same ↦ omega arith
        ]

    by : (b : Bool) → contains_key ks q ≡ b → ((k.object == q.object) && (k.part == q.part)) ≡ b
    by true there = both (k.object == q.object) (k.part == q.part) ((Decides-eqb k.object q.object).1 (same_object there)) ((Decides-eqb k.part q.part).1 (same_part there))
    by false not_there = is_false ((k.object == q.object) && (k.part == q.part)) (λ e.
        let object : k.object ≡ q.object = (Decides-eqb k.object q.object).0 (both_first (k.object == q.object) (k.part == q.part) e) in
        let one : k.part ≡ q.part = (Decides-eqb k.part q.part).0 (both_second (k.object == q.object) (k.part == q.part) e) in
        let same : k ≡ q = λ i. record { object = object i; part = one i } in
        no_yes (sym (ap (contains_key ks) same) ∙ next_there ks after k found) not_there)
