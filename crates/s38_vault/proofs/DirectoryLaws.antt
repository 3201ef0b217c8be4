-- The keys of a content, and how changes bring and take keys.
use Rattle.std.proofs.Common.{◌≡◌, ℕ, ◌+◌, ◌-◌, ◌<◌, ◌≤◌, Bool, true, false, cond, not, List, [], ◌∷◌, get_or, length, map, take, zero, suc, refl, sym, ◌∙◌, ap, subst, arith}
use lib.Dec.{T}
use Rattle.std.proofs.lemmas.List.Sums.{sum_by-cons, sum_by_more}
use Rattle.std.specs.Prelude.{◌&&◌, ◌||◌, Option, Some, None, is_none, is_some}
use Rattle.std.specs.FinMap.{FinMap, contains_key, empty, empty_of_len, entries, entries-from_sorted, entries_sorted, get, get-empty, get-entries, get-from_sorted, get-insert, get-remove, insert, is_sorted, keys, len, len-entries, len-insert, len-remove, remove, same_map}
use Rattle.std.specs.FinMap as map_of
use Rattle.std.specs.FinMap.Entries.{below_all}
use Rattle.std.specs.List.{AllByRecursion}
use Rattle.std.specs.Option.{option_map}
use Rattle.std.specs.Ordering.{eq_by_cmp, is_eq, is_lt, ordering_reverse}
use Rattle.std.specs.declared.cmp.Ordering.TheVariants.{Less, Equal, Greater}
use Rattle.s38_base.specs.declared.page.Change.{Change}
use Rattle.s38_base.specs.declared.page.Key.{Key}
use Rattle.s38_base.specs.declared.page.Page.{Page}
use Rattle.s38_vault.specs.Content.{AreRising, Content, HaveObjects, changed, with_value}
use Rattle.s38_vault.specs.Directory.{Keys, NameObjects, changed_keys, gone_keys, is_gone, is_new, keys_of, new_keys, with_key}
use Rattle.s38_vault.specs.Keys.{IsBefore, key_cmp, key_cmp_total}
use Rattle.s38_vault.proofs.KeyedLaws.{key_cmp-IsAntisymmetric}

-- ---- the keys of a map

module _ {V : Type 0} where
  abbrev blank : List (Key × V) → List (Key × Unit {0})
  blank es = map (λ e. (e.0, tt)) es

  below_blank : (k : Key) (es : List (Key × V)) → below_all key_cmp k (blank es) ≡ below_all key_cmp k es
  below_blank k [] = refl
  below_blank k (e ∷ es) = ap (λ b. is_lt (key_cmp k e.0) && b) (below_blank k es)

  sorted_blank : (es : List (Key × V)) → is_sorted key_cmp (blank es) ≡ is_sorted key_cmp es
  sorted_blank [] = refl
  sorted_blank (e ∷ es) = λ i. below_blank e.0 es i && sorted_blank es i

  sorted_keys : (m : FinMap key_cmp V) → T (is_sorted key_cmp (blank (entries m)))
  sorted_keys m = subst T (sym (sorted_blank (entries m))) (entries_sorted m)

  found_blank : (q : Key) (es : List (Key × V)) → map_of.find key_cmp q (blank es) ≡ option_map (λ _. tt) (map_of.find key_cmp q es)
  found_blank q [] = refl
  found_blank q (e ∷ es) =
      let rest = found_blank q es in
      elim (eq_by_cmp key_cmp q e.0) as (λ b. cond b (Some tt) (map_of.find key_cmp q (blank es)) ≡ option_map (λ _. tt) (cond b (Some e.1) (map_of.find key_cmp q es))) [
        | true ↦ refl
        | false ↦ rest
      ]

  -- a key of the map is one of its keys
  pub get-keys_of : (m : FinMap key_cmp V) (q : Key) → get (keys_of m) q ≡ option_map (λ _. tt) (get m q)
  unfolding keys_of
  get-keys_of m q =
      get-from_sorted key_cmp (blank (entries m)) q (sorted_keys m) ∙ found_blank q (entries m)
      ∙ ap (option_map (λ _. tt)) (sym (get-entries m q))

  some_blank : (o : Option V) → is_some (option_map (λ (v : V). tt {0}) o) ≡ is_some o
  some_blank None = refl
  some_blank (Some v) = refl

  pub contains-keys_of : (m : FinMap key_cmp V) (q : Key) → contains_key (keys_of m) q ≡ contains_key m q
  contains-keys_of m q = ap is_some (get-keys_of m q) ∙ some_blank (get m q)

  length-blank : (es : List (Key × V)) → length (blank es) ≡ length es
  length-blank [] = refl
  length-blank (e ∷ es) = ap suc (length-blank es)

  pub len-keys_of : (m : FinMap key_cmp V) → len (keys_of m) ≡ len m
  unfolding keys_of
  len-keys_of m =
      len-entries (keys_of m) ∙ ap length (entries-from_sorted key_cmp (blank (entries m)) (sorted_keys m))
      ∙ length-blank (entries m) ∙ sym (len-entries m)

  keys-blank : (es : List (Key × V)) → map (λ e. e.0) (blank es) ≡ map (λ e. e.0) es
  keys-blank [] = refl
  keys-blank (e ∷ es) = ap (λ (ks : List Key). e.0 ∷ ks) (keys-blank es)

  pub keys-keys_of : (m : FinMap key_cmp V) → keys (keys_of m) ≡ keys m
  unfolding keys_of
  keys-keys_of m =
      ap (map (λ e. e.0)) (entries-from_sorted key_cmp (blank (entries m)) (sorted_keys m)) ∙ keys-blank (entries m)

-- ---- the keys after changes

blank_either : {V W : Type 0} (b : Bool) (x y : Option V) (f : V → W) → option_map f (cond b x y) ≡ cond b (option_map f x) (option_map f y)
blank_either true x y f = refl
blank_either false x y f = refl

pub keys_of-with_value : (m : Content) (k : Key) (o : Option Page) → keys_of (with_value m k o) ≡ with_key (keys_of m) k o
keys_of-with_value m k (Some page) =
    same_map key_cmp_total key_cmp-IsAntisymmetric _ _ (λ q.
    get-keys_of (insert m k page) q ∙ ap (option_map (λ _. tt)) (get-insert key_cmp_total m k page q)
    ∙ blank_either (eq_by_cmp key_cmp q k) (Some page) (get m q) (λ _. tt)
    ∙ ap (cond (eq_by_cmp key_cmp q k) (Some tt)) (sym (get-keys_of m q))
    ∙ sym (get-insert key_cmp_total (keys_of m) k tt q))
keys_of-with_value m k None =
    same_map key_cmp_total key_cmp-IsAntisymmetric _ _ (λ q.
    get-keys_of (remove m k) q ∙ ap (option_map (λ _. tt)) (get-remove key_cmp_total m k q)
    ∙ blank_either (eq_by_cmp key_cmp q k) None (get m q) (λ _. tt)
    ∙ ap (cond (eq_by_cmp key_cmp q k) None) (sym (get-keys_of m q))
    ∙ sym (get-remove key_cmp_total (keys_of m) k q))

pub keys_of-changed : (m : Content) (cs : List Change) → keys_of (changed m cs) ≡ changed_keys (keys_of m) cs
keys_of-changed m [] = refl
keys_of-changed m (c ∷ cs) =
    keys_of-changed (with_value m c.key c.page) cs ∙ ap (λ (ks : Keys). changed_keys ks cs) (keys_of-with_value m c.key c.page)

-- ---- a change of one key leaves the others

pub contains-other : (ks : Keys) (k q : Key) (o : Option Page) → eq_by_cmp key_cmp q k ≡ false → contains_key (with_key ks k o) q ≡ contains_key ks q
contains-other ks k q (Some page) apart = ap is_some (get-insert key_cmp_total ks k tt q ∙ ap (λ b. cond b (Some tt) (get ks q)) apart)
contains-other ks k q None apart = ap is_some (get-remove key_cmp_total ks k q ∙ ap (λ b. cond b None (get ks q)) apart)

before_apart : (k q : Key) → IsBefore k q → eq_by_cmp key_cmp q k ≡ false
before_apart k q less = ap is_eq (key_cmp_total.antisymm q k ∙ ap ordering_reverse less)

pub rising_all : (c : Change) (cs : List Change) → AreRising (c ∷ cs) → AllByRecursion (λ d. IsBefore c.key d.key) cs
rising_all c [] h = tt
rising_all c (d ∷ cs) h = (h.0, farther cs (rising_all d cs h.1))
  where
    farther : (es : List Change) → AllByRecursion (λ e. IsBefore d.key e.key) es → AllByRecursion (λ e. IsBefore c.key e.key) es
    farther [] g = tt
    farther (e ∷ es) g = (key_cmp_total.trans c.key d.key e.key h.0 g.0, farther es g.1)

pub rising_rest : (c : Change) (cs : List Change) → AreRising (c ∷ cs) → AreRising cs
rising_rest c [] h = tt
rising_rest c (d ∷ cs) h = h.1

new_later : (ks : Keys) (k : Key) (o : Option Page) (cs : List Change) → AllByRecursion (λ d. IsBefore k d.key) cs → new_keys (with_key ks k o) cs ≡ new_keys ks cs
new_later ks k o [] h = refl
new_later ks k o (d ∷ cs) h =
    let same = contains-other ks k d.key o (before_apart k d.key h.0) in
    sum_by-cons (λ c. cond (is_new (with_key ks k o) c) 1 0) d cs
    ∙ (λ i. cond (is_some d.page && not (same i)) 1 0 + new_later ks k o cs h.1 i)
    ∙ sym (sum_by-cons (λ c. cond (is_new ks c) 1 0) d cs)

gone_later : (ks : Keys) (k : Key) (o : Option Page) (cs : List Change) → AllByRecursion (λ d. IsBefore k d.key) cs → gone_keys (with_key ks k o) cs ≡ gone_keys ks cs
gone_later ks k o [] h = refl
gone_later ks k o (d ∷ cs) h =
    let same = contains-other ks k d.key o (before_apart k d.key h.0) in
    sum_by-cons (λ c. cond (is_gone (with_key ks k o) c) 1 0) d cs
    ∙ (λ i. cond (is_none d.page && same i) 1 0 + gone_later ks k o cs h.1 i)
    ∙ sym (sum_by-cons (λ c. cond (is_gone ks c) 1 0) d cs)

-- ---- how many keys there are after changes

some_key : (ks : Keys) (k : Key) → contains_key ks k ≡ true → 1 ≤ len ks
some_key ks k there = elim (len ks) as (λ n. len ks ≡ n → 1 ≤ n) [
  | zero ↦ λ e. absurd (none (sym there ∙ ap (λ (s : Keys). contains_key s k) (empty_of_len ks e) ∙ ap is_some (get-empty key_cmp k)))
  | suc n ↦ λ e. omega arith
] refl
  where
    none : true ≡ false → ⊥
    none e = cc

len_one : (ks : Keys) (c : Change) → len (with_key ks c.key c.page) + cond (is_gone ks c) 1 0 ≡ len ks + cond (is_new ks c) 1 0
len_one ks c = by c.page
  where
    by : (o : Option Page) → len (with_key ks c.key o) + cond (is_none o && contains_key ks c.key) 1 0 ≡ len ks + cond (is_some o && not (contains_key ks c.key)) 1 0
    by (Some page) = rw (len-insert key_cmp_total ks c.key tt) (elim (contains_key ks c.key) as (λ b. cond b (len ks) (len ks + 1) + 0 ≡ len ks + cond (not b) 1 0) [ true ↦ omega arith | false ↦ omega arith ])
    by None = rw (len-remove key_cmp_total ks c.key) (elim (contains_key ks c.key) as (λ b. contains_key ks c.key ≡ b → cond b (len ks - 1) (len ks) + cond b 1 0 ≡ len ks + 0) [
      | true ↦ λ e. let some = some_key ks c.key e in omega arith
      | false ↦ λ e. omega arith
    ] refl)

-- keys and free parts have one sum
pub len-changed_keys : (ks : Keys) (cs : List Change) → AreRising cs → len (changed_keys ks cs) + gone_keys ks cs ≡ len ks + new_keys ks cs
len-changed_keys ks [] rising = refl
len-changed_keys ks (c ∷ cs) rising =
    let behind = rising_all c cs rising in
    let after = with_key ks c.key c.page in
    let rest = len-changed_keys after cs (rising_rest c cs rising) in
    let one = len_one ks c in
    let gone = sum_by-cons (λ d. cond (is_gone ks d) 1 0) c cs in
    let new = sum_by-cons (λ d. cond (is_new ks d) 1 0) c cs in
    let gone_rest = gone_later ks c.key c.page cs behind in
    let new_rest = new_later ks c.key c.page cs behind in
    omega arith

-- ---- objects

either : (a b : Bool) → (a || b) ≡ true → (a ≡ false → b ≡ true)
either true b e f = absurd (cc)
either false b e f = e

named : (ks : Keys) (k : Key) (o : Option Page) → NameObjects ks → 1 ≤ k.object → NameObjects (with_key ks k o)
named ks k o h object q there =
    elim (key_cmp q k) as (λ r. key_cmp q k ≡ r → 1 ≤ q.object) [
      | Less ↦ λ e. h q (sym (contains-other ks k q o (ap is_eq e)) ∙ there)
      | Equal ↦ λ e. subst (λ (x : Key). 1 ≤ x.object) (sym (key_cmp-IsAntisymmetric q k e)) object
      | Greater ↦ λ e. h q (sym (contains-other ks k q o (ap is_eq e)) ∙ there)
    ] refl

pub named_after : (ks : Keys) (cs : List Change) → NameObjects ks → HaveObjects cs → NameObjects (changed_keys ks cs)
named_after ks [] h objects = h
named_after ks (c ∷ cs) h objects = named_after (with_key ks c.key c.page) cs (named ks c.key c.page h objects.0) objects.1

pub none_named : NameObjects (keys_of {V = Page} empty)
none_named k there = absurd (nothing (sym there ∙ contains-keys_of empty k ∙ ap is_some (get-empty key_cmp k)))
  where
    nothing : true ≡ false → ⊥
    nothing e = cc

-- ---- one change more

pub changed_more : (m : Content) (cs : List Change) (i : ℕ) (d : Change) → i < length cs → changed m (take (suc i) cs) ≡ with_value (changed m (take i cs)) (get_or cs i d).key (get_or cs i d).page
changed_more m [] i d low = absurd (omega arith)
changed_more m (c ∷ cs) zero d low = refl
changed_more m (c ∷ cs) (suc i) d low = changed_more (with_value m c.key c.page) cs i d (omega arith)

pub changed_on : (m now new : Content) (cs : List Change) (i : ℕ) (d : Change) → i < length cs → now ≡ changed m (take i cs) → new ≡ with_value now (get_or cs i d).key (get_or cs i d).page → new ≡ changed m (take (i + 1) cs)
changed_on m now new cs i d low so_far one =
    let next : suc i ≡ i + 1 = omega arith in
    one ∙ ap (λ (c : Content). with_value c (get_or cs i d).key (get_or cs i d).page) so_far
    ∙ sym (changed_more m cs i d low) ∙ ap (λ n. changed m (take n cs)) next

pub count_on : (ks : Keys) (cs : List Change) (i : ℕ) (d : Change) (so_far count : ℕ) (b : Bool) → i < length cs → so_far ≡ new_keys ks (take i cs) → b ≡ is_new ks (get_or cs i d) → count ≡ so_far + cond b 1 0 → count ≡ new_keys ks (take (i + 1) cs)
count_on ks cs i d so_far count b low is new one =
    one ∙ (λ j. is j + cond (new j) 1 0) ∙ sym (sum_by_more (λ c. cond (is_new ks c) 1 0) cs i d low)

pub new_by : (m : Content) (c : Change) (b : Bool) → is_some c.page ≡ true → b ≡ contains_key m c.key → not b ≡ is_new (keys_of m) c
new_by m c b some there = λ i. sym some i && not ((there ∙ sym (contains-keys_of m c.key)) i)

-- ---- free parts

-- how many parts a changed content has
len-changed : (m : Content) (cs : List Change) → AreRising cs → len (changed m cs) + gone_keys (keys_of m) cs ≡ len m + new_keys (keys_of m) cs
len-changed m cs rising =
    let sum = len-changed_keys (keys_of m) cs rising in
    let same = sym (len-keys_of (changed m cs)) ∙ ap len (keys_of-changed m cs) in
    let before = len-keys_of m in
    omega arith

pub fits_after : (m new : Content) (cs : List Change) (parts needed free : ℕ) → AreRising cs → len m ≤ parts → free ≡ parts - len m → needed ≡ new_keys (keys_of m) cs → needed ≤ free → new ≡ changed m cs → len new ≤ parts
fits_after m new cs parts needed free rising fits is count room e =
    let sum = len-changed m cs rising in
    let same = ap len e in
    omega arith

pub free_after : (m new : Content) (cs : List Change) (parts needed free : ℕ) → AreRising cs → len m ≤ parts → free ≡ parts - len m → needed ≡ new_keys (keys_of m) cs → needed ≤ free → new ≡ changed m cs → (parts - len new) + new_keys (keys_of m) cs ≡ (parts - len m) + gone_keys (keys_of m) cs
free_after m new cs parts needed free rising fits is count room e =
    let sum = len-changed m cs rising in
    let same = ap len e in
    omega arith

pub named_by : (m new : Content) (cs : List Change) → NameObjects (keys_of m) → HaveObjects cs → new ≡ changed m cs → NameObjects (keys_of new)
named_by m new cs named objects e =
    subst NameObjects (sym (ap keys_of e ∙ keys_of-changed m cs)) (named_after (keys_of m) cs named objects)
