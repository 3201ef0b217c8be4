-- What differences make of a content, key by key.
use Rattle.std.proofs.Common.{◌≡◌, ◌⊎◌, ℕ, zero, suc, ◌+◌, ◌*◌, ◌-◌, ◌<◌, ◌≤◌, Bool, true, false, cond, not, List, [], ◌∷◌, ◌++◌, inl, inr, length, take, refl, sym, ◌∙◌, ap, subst, arith}
use Rattle.std.proofs.Math.Nat.{suc-mul}
use Rattle.std.proofs.lemmas.Bool.{cases_lt}
use Rattle.std.proofs.lemmas.Bool.Decides.{Decides-eqb}
use Rattle.std.proofs.lemmas.List.{take_all}
use Rattle.std.proofs.lemmas.List.Sums.{sum_by-append, sum_by-cons}
use Rattle.std.proofs.lemmas.Slice.Eq.{slice_eq-Decides}
use Rattle.std.specs.Prelude.{◌==◌, ◌≢◌, ◌&&◌, Option, Some, None, is_some, nat_eq}
use Rattle.std.specs.Cmp.Lexicographic.{pointwise}
use Rattle.std.specs.FinMap.{contains_key, get, get-insert, get-remove}
use Rattle.std.specs.List.{AllByRecursion}
use Rattle.std.specs.Ordering.{eq_by_cmp}
use Rattle.s38_base.specs.declared.page.Change.{Change}
use Rattle.s38_base.specs.declared.page.Key.{Key}
use Rattle.s38_base.specs.declared.page.Page.{Page}
use Rattle.s38_page_diff.specs.Differences.{HavePages, IsDifference, IsWanted, change_between, difference_at, differences, differences_from, is_part_in_range, same_page, wanted_at}
use Rattle.s38_page_diff.specs.Puts.{IsAfterPuts}
use Rattle.s38_page_diff.specs.declared.range.PartRange.{PartRange}
use Rattle.s38_vault.specs.Content.{AreRising, Content, HaveObjects, changed, with_value}
use Rattle.s38_vault.specs.Directory.{Keys, is_new, new_keys}
use Rattle.s38_vault.specs.Keys.{IsBefore, key_cmp, key_cmp_total}
use Rattle.s38_page_diff.proofs.WalkLaws.{key_at, key_itself, not_above, not_below, one_key, part_below}
use Rattle.s38_page_diff.proofs.WantedLaws.{in_range, inside, next_wanted, wanted_rest}

-- ---- pages

page_same : (a b : Page) → pointwise nat_eq a.bytes b.bytes && (a.tags == b.tags) ≡ true → a ≡ b
page_same a b e = by (pointwise nat_eq a.bytes b.bytes) (a.tags == b.tags) refl refl e
  where
    by : (x y : Bool) → pointwise nat_eq a.bytes b.bytes ≡ x → (a.tags == b.tags) ≡ y → x && y ≡ true → a ≡ b
    by true true bytes tags h =
        let same : a.bytes ≡ b.bytes = (slice_eq-Decides Decides-eqb a.bytes b.bytes true (sym bytes)).0 refl in
        let alike : a.tags ≡ b.tags = (Decides-eqb a.tags b.tags).0 tags in
        λ i. record { bytes = same i; tags = alike i }
    by true false bytes tags h = absurd (cc)
    by false y bytes tags h = absurd (cc)

page_itself : (a : Page) → pointwise nat_eq a.bytes a.bytes && (a.tags == a.tags) ≡ true
page_itself a =
    let bytes : pointwise nat_eq a.bytes a.bytes ≡ true = (slice_eq-Decides Decides-eqb a.bytes a.bytes (pointwise nat_eq a.bytes a.bytes) refl).1 refl in
    let tags : (a.tags == a.tags) ≡ true = (Decides-eqb a.tags a.tags).1 refl in
    λ i. bytes i && tags i

pub pages_same : (a b : Option Page) → same_page a b ≡ true → a ≡ b
pages_same None None e = refl
pages_same None (Some b) e = absurd (cc)
pages_same (Some a) None e = absurd (cc)
pages_same (Some a) (Some b) e = ap (λ (p : Page). Some p) (page_same a b e)

same_itself : (a : Option Page) → same_page a a ≡ true
same_itself None = refl
same_itself (Some a) = page_itself a

not_itself : (a b : Option Page) → same_page a b ≡ false → b ≢ a
not_itself a b other e = cc (ap (same_page a) e, same_itself a)

-- ---- a key after changes

unfoldable pub changed_at : List Change → Key → Option Page → Option Page
changed_at [] q old = old
changed_at (c ∷ cs) q old = changed_at cs q (cond (eq_by_cmp key_cmp q c.key) c.page old)

get-with_value : (m : Content) (k : Key) (o : Option Page) (q : Key) → get (with_value m k o) q ≡ cond (eq_by_cmp key_cmp q k) o (get m q)
get-with_value m k (Some page) q = get-insert key_cmp_total m k page q
get-with_value m k None q = get-remove key_cmp_total m k q

pub get-changed : (m : Content) (cs : List Change) (q : Key) → get (changed m cs) q ≡ changed_at cs q (get m q)
unfolding changed_at
get-changed m [] q = refl
get-changed m (c ∷ cs) q = get-changed (with_value m c.key c.page) cs q ∙ ap (changed_at cs q) (get-with_value m c.key c.page q)

pub changed_at-append : (cs ds : List Change) (q : Key) (old : Option Page) → changed_at (cs ++ ds) q old ≡ changed_at ds q (changed_at cs q old)
unfolding changed_at
changed_at-append [] ds q old = refl
changed_at-append (c ∷ cs) ds q old = changed_at-append cs ds q (cond (eq_by_cmp key_cmp q c.key) c.page old)

-- no change is of this key
abbrev pub AreOthers : Key → List Change → Type 0
AreOthers q cs = AllByRecursion (λ c. eq_by_cmp key_cmp q c.key ≡ false) cs

pub changed_at-others : (cs : List Change) (q : Key) (old : Option Page) → AreOthers q cs → changed_at cs q old ≡ old
unfolding changed_at
changed_at-others [] q old h = refl
changed_at-others (c ∷ cs) q old h = ap (λ b. changed_at cs q (cond b c.page old)) h.0 ∙ changed_at-others cs q old h.1

-- ---- each difference

-- it is a difference at a part from one on, before another
pub record IsPart (pages : Key → Option Page) (wanted : List Change) (number part until : ℕ) (change : Change) : Type 0 where
  pub object : change.key.object ≡ number
  pub from : part ≤ change.key.part
  pub before : change.key.part < until
  pub page : change.page ≡ wanted_at wanted change.key
  pub other : change.page ≢ pages change.key

abbrev pub AreParts : (Key → Option Page) → List Change → ℕ → ℕ → ℕ → List Change → Type 0
AreParts pages wanted object part until cs = AllByRecursion (IsPart pages wanted object part until) cs

lower : (pages : Key → Option Page) (wanted : List Change) (object part until : ℕ) (cs : List Change) → AreParts pages wanted object (part + 1) until cs → AreParts pages wanted object part until cs
lower pages wanted object part until [] h = tt
lower pages wanted object part until (c ∷ cs) h =
    (record { object = h.0.object; from = omega (arith, h.0.from); before = h.0.before; page = h.0.page; other = h.0.other }, lower pages wanted object part until cs h.1)

-- a difference at the part itself, before others
one_part : (pages : Key → Option Page) (wanted : List Change) (object part until : ℕ) (cs : List Change) → part < until → AreParts pages wanted object part until cs
    → AreParts pages wanted object part until (difference_at pages wanted (key_at object part) ++ cs)
one_part pages wanted object part until cs low h = by (same_page (pages (key_at object part)) (wanted_at wanted (key_at object part))) refl
  where
    by : (b : Bool) → same_page (pages (key_at object part)) (wanted_at wanted (key_at object part)) ≡ b
        → AreParts pages wanted object part until (cond b [] (record { key = key_at object part; page = wanted_at wanted (key_at object part) } ∷ []) ++ cs)
    by true same = h
    by false same = (record { object = refl; from = omega arith; before = low; page = refl; other = not_itself _ _ same }, h)

all_parts : (pages : Key → Option Page) (wanted : List Change) (object n part until : ℕ) → until ≡ part + n → AreParts pages wanted object part until (differences_from pages wanted object part n)
unfolding differences_from
all_parts pages wanted object zero part until sum = tt
all_parts pages wanted object (suc n) part until sum =
    one_part pages wanted object part until _ (omega arith)
    (lower pages wanted object part until _ (all_parts pages wanted object n (part + 1) until (omega arith)))

pub all_of : (P Q : Change → Type 0) (cs : List Change) → ((c : Change) → P c → Q c) → AllByRecursion P cs → AllByRecursion Q cs
all_of P Q [] f h = tt
all_of P Q (c ∷ cs) f h = (f c h.0, all_of P Q cs f h.1)

pub parts_of : (pages : Key → Option Page) (range : PartRange) (wanted : List Change) → AreParts pages wanted range.object range.first (range.first + (range.end - range.first)) (differences pages range wanted)
parts_of pages range wanted = all_parts pages wanted range.object (range.end - range.first) range.first (range.first + (range.end - range.first)) refl

pub each_difference : (pages : Key → Option Page) (range : PartRange) (wanted : List Change) → AllByRecursion (IsDifference pages range wanted) (differences pages range wanted)
each_difference pages range wanted =
    all_of _ _ (differences pages range wanted)
    (λ c h. record { in_range = in_range range c.key h.object h.from (let low = h.from in let high = h.before in omega arith); wanted_there = h.page; other = h.other })
    (parts_of pages range wanted)

-- ---- they rise

pub rising_on : (c : Change) (cs : List Change) → AllByRecursion (λ d. IsBefore c.key d.key) cs → AreRising cs → AreRising (c ∷ cs)
rising_on c [] h rising = tt
rising_on c (d ∷ cs) h rising = (h.0, rising)

all_rising : (pages : Key → Option Page) (wanted : List Change) (object n part : ℕ) → AreRising (differences_from pages wanted object part n)
unfolding differences_from
all_rising pages wanted object zero part = tt
all_rising pages wanted object (suc n) part =
    let rest = all_rising pages wanted object n (part + 1) in
    let later = all_parts pages wanted object n (part + 1) (part + 1 + n) refl in
    by (same_page (pages (key_at object part)) (wanted_at wanted (key_at object part))) (differences_from pages wanted object (part + 1) n) rest
    (all_of _ _ _ (λ c h. part_below (key_at object part) c.key (sym h.object) (let low = h.from in omega arith)) later)
  where
    by : (b : Bool) (cs : List Change) → AreRising cs → AllByRecursion (λ d. IsBefore (key_at object part) d.key) cs
        → AreRising (cond b [] (record { key = key_at object part; page = wanted_at wanted (key_at object part) } ∷ []) ++ cs)
    by true cs rising later = rising
    by false cs rising later = rising_on (record { key = key_at object part; page = wanted_at wanted (key_at object part) }) cs later rising

pub differences_rising : (pages : Key → Option Page) (range : PartRange) (wanted : List Change) → AreRising (differences pages range wanted)
differences_rising pages range wanted = all_rising pages wanted range.object (range.end - range.first) range.first

pub differences_objects : (pages : Key → Option Page) (range : PartRange) (wanted : List Change) → 1 ≤ range.object → HaveObjects (differences pages range wanted)
differences_objects pages range wanted named =
    all_of _ _ (differences pages range wanted) (λ c h. let of_it = h.object in omega arith) (parts_of pages range wanted)

-- ---- there is at most one a part

one_each : (pages : Key → Option Page) (wanted : List Change) (object n part : ℕ) → length (differences_from pages wanted object part n) ≤ n
unfolding differences_from
one_each pages wanted object zero part = omega arith
one_each pages wanted object (suc n) part =
    by (same_page (pages (key_at object part)) (wanted_at wanted (key_at object part))) (differences_from pages wanted object (part + 1) n) (one_each pages wanted object n (part + 1))
  where
    by : (b : Bool) (cs : List Change) → length cs ≤ n → length (cond b [] (record { key = key_at object part; page = wanted_at wanted (key_at object part) } ∷ []) ++ cs) ≤ suc n
    by true cs few = omega arith
    by false cs few = omega arith

pub differences_few : (pages : Key → Option Page) (range : PartRange) (wanted : List Change) → length (differences pages range wanted) ≤ range.end - range.first
differences_few pages range wanted = one_each pages wanted range.object (range.end - range.first) range.first

-- ---- they make the wanted pages

one_at : (key : Key) (page want : Option Page) → changed_at (change_between key page want) key page ≡ want
unfolding changed_at
one_at key page want = by (same_page page want) refl
  where
    by : (b : Bool) → same_page page want ≡ b → changed_at (cond b [] (record { key = key; page = want } ∷ [])) key page ≡ want
    by true same = pages_same page want same
    by false same = ap (λ b. cond b want page) (key_itself key)

one_other : (key q : Key) (page want old : Option Page) → eq_by_cmp key_cmp q key ≡ false → changed_at (change_between key page want) q old ≡ old
unfolding changed_at
one_other key q page want old apart = by (same_page page want)
  where
    by : (b : Bool) → changed_at (cond b [] (record { key = key; page = want } ∷ [])) q old ≡ old
    by true = refl
    by false = ap (λ b. cond b want old) apart

wanted_in : (pages : Key → Option Page) (wanted : List Change) (object n part p : ℕ) → part ≤ p → p < part + n
    → changed_at (differences_from pages wanted object part n) (key_at object p) (pages (key_at object p)) ≡ wanted_at wanted (key_at object p)
unfolding differences_from
wanted_in pages wanted object zero part p low high = absurd (omega arith)
wanted_in pages wanted object (suc n) part p low high =
    let q = key_at object p in
    let this = difference_at pages wanted (key_at object part) in
    let rest = differences_from pages wanted object (part + 1) n in
    changed_at-append this rest q (pages q)
    ∙ elim (cases_lt part p) [
      | inl behind ↦
          ap (changed_at rest q) (one_other (key_at object part) q (pages (key_at object part)) (wanted_at wanted (key_at object part)) (pages q) (not_above (key_at object part) q (part_below (key_at object part) q refl behind)))
          ∙ wanted_in pages wanted object n (part + 1) p (omega arith) (omega arith)
      | inr here ↦
          let same : p ≡ part = omega arith in
          let one : changed_at this q (pages q) ≡ wanted_at wanted q =
          subst (λ (k : Key). changed_at (difference_at pages wanted k) q (pages q) ≡ wanted_at wanted q) (ap (key_at object) same) (one_at q (pages q) (wanted_at wanted q)) in
          ap (changed_at rest q) one
          ∙ changed_at-others rest q (wanted_at wanted q)
          (all_of _ _ rest (λ c h. not_below q c.key (part_below q c.key (sym h.object) (let low = h.from in omega arith))) (all_parts pages wanted object n (part + 1) (part + 1 + n) refl))
    ]

no_yes : {b : Bool} → b ≡ true → b ≡ false → ⊥
no_yes t f = cc

is_false : (b : Bool) → (b ≡ true → ⊥) → b ≡ false
is_false true h = absurd (h refl)
is_false false h = refl

-- the key is in the range or it is not
pub differences_at : (pages : Key → Option Page) (range : PartRange) (wanted : List Change) (q : Key)
    → changed_at (differences pages range wanted) q (pages q) ≡ cond (is_part_in_range range q) (wanted_at wanted q) (pages q)
differences_at pages range wanted q = by (is_part_in_range range q) refl
  where
    by : (b : Bool) → is_part_in_range range q ≡ b → changed_at (differences pages range wanted) q (pages q) ≡ cond b (wanted_at wanted q) (pages q)
    by true within =
        let here = inside range q within in
        let same : key_at range.object q.part ≡ q = ap (λ (number : ℕ). key_at number q.part) (sym here.object) in
        subst (λ (k : Key). changed_at (differences pages range wanted) k (pages k) ≡ wanted_at wanted k) same
        (wanted_in pages wanted range.object (range.end - range.first) range.first q.part here.from (let low = here.from in let high = here.before in omega arith))
    by false out =
        changed_at-others (differences pages range wanted) q (pages q)
        (all_of _ _ (differences pages range wanted)
        (λ c h. is_false (eq_by_cmp key_cmp q c.key) (λ e. no_yes (subst (λ (k : Key). is_part_in_range range k ≡ true) (sym (one_key q c.key e)) h.in_range) out))
        (each_difference pages range wanted))

pub differences_made : (m : Content) (range : PartRange) (wanted : List Change) (q : Key) → get (changed m (differences (get m) range wanted)) q ≡ cond (is_part_in_range range q) (wanted_at wanted q) (get m q)
differences_made m range wanted q = get-changed m (differences (get m) range wanted) q ∙ differences_at (get m) range wanted q

pub nothing_differs : (pages : Key → Option Page) (range : PartRange) (wanted : List Change) → ((key : Key) → is_part_in_range range key ≡ true → pages key ≡ wanted_at wanted key) → differences pages range wanted ≡ []
nothing_differs pages range wanted stands = by (differences pages range wanted) (each_difference pages range wanted)
  where
    by : (cs : List Change) → AllByRecursion (IsDifference pages range wanted) cs → cs ≡ []
    by [] h = refl
    by (c ∷ cs) h = absurd (h.0.other (h.0.wanted_there ∙ sym (stands c.key h.0.in_range)))

-- ---- which keys they bring

none_new : (keys : Keys) (cs : List Change) → AllByRecursion (λ c. c.page ≡ None) cs → new_keys keys cs ≡ 0
none_new keys [] h = refl
none_new keys (c ∷ cs) h =
    sum_by-cons (λ c. cond (is_new keys c) 1 0) c cs
    ∙ (λ i. cond (is_some (h.0 i) && not (contains_key keys c.key)) 1 0 + none_new keys cs h.1 i)

one_new : (keys : Keys) (w : Change) (page : Option Page) → is_some page ≡ contains_key keys w.key → new_keys keys (change_between w.key page w.page) ≡ cond (is_new keys w) 1 0
one_new keys w page there = by page w.page there
  where
    there_or_not : (b : Bool) (k : Key) (want : Option Page) → is_some want && not (contains_key keys k) ≡ false → new_keys keys (cond b [] (record { key = k; page = want } ∷ [])) ≡ 0
    there_or_not true k want none = refl
    there_or_not false k want none = sum_by-cons (λ c. cond (is_new keys c) 1 0) (record { key = k; page = want }) [] ∙ ap (λ b. cond b 1 0 + 0) none

    by : (page want : Option Page) → is_some page ≡ contains_key keys w.key → new_keys keys (change_between w.key page want) ≡ cond (is_some want && not (contains_key keys w.key)) 1 0
    by page None there = there_or_not (same_page page None) w.key None refl
    by None (Some x) there = sum_by-cons (λ c. cond (is_new keys c) 1 0) (record { key = w.key; page = Some x }) [] ∙ more (cond (not (contains_key keys w.key)) 1 0)
      where
        more : (n : ℕ) → n + 0 ≡ n
        more n = omega arith
    by (Some y) (Some x) there =
        let none : is_some (Some x) && not (contains_key keys w.key) ≡ false = ap not (sym there) in
        there_or_not (same_page (Some y) (Some x)) w.key (Some x) none ∙ sym (ap (λ b. cond b 1 0) none)

pub new-append : (keys : Keys) (cs ds : List Change) → new_keys keys (cs ++ ds) ≡ new_keys keys cs + new_keys keys ds
new-append keys cs ds = sum_by-append (λ c. cond (is_new keys c) 1 0) cs ds

removals_new : (keys : Keys) (pages : Key → Option Page) (range : PartRange) → new_keys keys (differences pages range []) ≡ 0
removals_new keys pages range = none_new keys (differences pages range []) (all_of _ _ (differences pages range []) (λ c h. h.wanted_there) (each_difference pages range []))

pub differences_new : (keys : Keys) (pages : Key → Option Page) (range : PartRange) (wanted : List Change) → HavePages keys pages → IsWanted range wanted → new_keys keys (differences pages range wanted) ≡ new_keys keys wanted
differences_new keys pages range [] have is = removals_new keys pages range
differences_new keys pages range (w ∷ ws) have is =
    let before = record range { end = w.key.part } in
    let behind = record range { first = w.key.part + 1 } in
    let pieces = ap (new_keys keys) (next_wanted pages range w ws is) in
    let first = removals_new keys pages before in
    let here = one_new keys w (pages w.key) (have w.key) in
    let rest = differences_new keys pages behind ws have (wanted_rest range w ws is) in
    let sum = sum_by-cons (λ c. cond (is_new keys c) 1 0) w ws in
    omega (arith, pieces, first, here, rest, sum, new-append keys (differences pages before []) (change_between w.key (pages w.key) w.page ++ differences pages behind ws), new-append keys (change_between w.key (pages w.key) w.page) (differences pages behind ws))

-- ---- puts

pub one_put : (most : ℕ) (m : Content) (changes : List Change) (n : Content) → length changes ≤ most → IsAfterPuts most m changes n → (n ≡ m) ⊎ (n ≡ changed m changes)
one_put most m changes n few after = by after.0 after.1
  where
    by : (puts : ℕ) → n ≡ changed m (take (puts * most) changes) → (n ≡ m) ⊎ (n ≡ changed m changes)
    by zero is =
        let none : zero * most ≡ 0 = omega arith in
        inl (is ∙ ap (λ (k : ℕ). changed m (take k changes)) none)
    by (suc puts) is =
        let enough : length changes ≤ suc puts * most = omega (arith, suc-mul puts most) in
        inr (is ∙ ap (changed m) (take_all (suc puts * most) changes enough))
