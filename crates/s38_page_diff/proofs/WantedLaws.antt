-- The changes of a range up to a wanted page, and after it.
use Rattle.std.proofs.Common.{◌≡◌, ℕ, suc, ◌+◌, ◌-◌, ◌<◌, ◌≤◌, Bool, true, false, cond, List, [], ◌∷◌, ◌++◌, refl, sym, ◌∙◌, ap, arith, append_assoc, length, length-append}
use Rattle.std.proofs.lemmas.Bool.Decides.{nat_tests}
use Rattle.std.specs.Prelude.{◌==◌, ◌&&◌, Option, Some, None, is_some, nat_le, nat_lt}
use Rattle.std.specs.FinMap.{contains_key, get}
use Rattle.std.specs.List.{AllByRecursion}
use Rattle.std.specs.Ordering.{eq_by_cmp}
use Rattle.std.specs.declared.cmp.Ordering.TheVariants.{Less}
use Rattle.s38_base.specs.declared.page.Change.{Change}
use Rattle.s38_base.specs.declared.page.Key.{Key}
use Rattle.s38_base.specs.declared.page.Page.{Page}
use Rattle.s38_page_diff.specs.Differences.{HavePages, IsWanted, change_between, difference_at, differences, differences_from, is_part_in_range, same_page, wanted_at}
use Rattle.s38_page_diff.specs.declared.range.PartRange.{PartRange}
use Rattle.s38_vault.specs.Content.{Content}
use Rattle.s38_vault.specs.Directory.{Keys, keys_of}
use Rattle.s38_vault.specs.Vaults.{VaultView}
use Rattle.s38_vault.specs.Keys.{IsBefore, key_cmp, key_cmp_total}
use Rattle.s38_vault.proofs.DirectoryLaws.{contains-keys_of, rising_all, rising_rest}
use Rattle.s38_vault.proofs.PlaceLaws.{both_first, both_second}
use Rattle.s38_page_diff.proofs.DifferenceLaws.{same_differences, split}
use Rattle.s38_page_diff.proofs.WalkLaws.{below_part, key_at, key_itself, not_above, not_below, one_key, part_below}

-- ---- keys of a range

pub record IsInside (range : PartRange) (key : Key) : Type 0 where
  pub object : key.object ≡ range.object
  pub from : range.first ≤ key.part
  pub before : key.part < range.end

pub inside : (range : PartRange) (key : Key) → is_part_in_range range key ≡ true → IsInside range key
inside range key e =
    let object : (key.object == range.object) ≡ true = both_first (key.object == range.object) (nat_le range.first key.part && nat_lt key.part range.end) e in
    let parts : (nat_le range.first key.part && nat_lt key.part range.end) ≡ true = both_second (key.object == range.object) (nat_le range.first key.part && nat_lt key.part range.end) e in
    let from : nat_le range.first key.part ≡ true = both_first (nat_le range.first key.part) (nat_lt key.part range.end) parts in
    let before : nat_lt key.part range.end ≡ true = both_second (nat_le range.first key.part) (nat_lt key.part range.end) parts in
    record { object = grind (arith, nat_tests); from = grind (arith, nat_tests); before = grind (arith, nat_tests) }

pub in_range : (range : PartRange) (key : Key) → key.object ≡ range.object → range.first ≤ key.part → key.part < range.end → is_part_in_range range key ≡ true
in_range range key object from before = grind (arith, nat_tests)

-- ---- what a list wants

farther : (k : Key) (w : Change) (ws : List Change) → key_cmp k w.key ≡ Less → AllByRecursion (λ d. IsBefore w.key d.key) ws → AllByRecursion (λ d. key_cmp k d.key ≡ Less) ws
farther k w [] less h = tt
farther k w (d ∷ ws) less h = (key_cmp_total.trans k w.key d.key less h.0, farther k w ws less h.1)

-- nothing is wanted before the first key
unwanted : (k : Key) (ws : List Change) → AllByRecursion (λ w. key_cmp k w.key ≡ Less) ws → wanted_at ws k ≡ None
unwanted k [] h = refl
unwanted k (w ∷ ws) h = ap (λ b. cond b w.page (wanted_at ws k)) (not_below k w.key h.0) ∙ unwanted k ws h.1

-- after the first key the others are wanted, from the next part on
wanted_behind : (left : PartRange) (w : Change) (ws : List Change) → w.key.object ≡ left.object → AllByRecursion (λ d. IsBefore w.key d.key) ws
    → AllByRecursion (λ d. is_part_in_range left d.key ≡ true) ws → AllByRecursion (λ d. is_part_in_range (record left { first = w.key.part + 1 }) d.key ≡ true) ws
wanted_behind left w [] object later within = tt
wanted_behind left w (d ∷ ws) object later within =
    let here = inside left d.key within.0 in
    let low : w.key.part < d.key.part = below_part w.key d.key (object ∙ sym here.object) later.0 in
    (in_range (record left { first = w.key.part + 1 }) d.key here.object (omega arith) here.before, wanted_behind left w ws object later.1 within.1)

pub wanted_rest : (left : PartRange) (w : Change) (ws : List Change) → IsWanted left (w ∷ ws) → IsWanted (record left { first = w.key.part + 1 }) ws
wanted_rest left w ws wanted = record {
  rising = rising_rest w ws wanted.rising;
  in_range = wanted_behind left w ws (inside left w.key wanted.in_range.0).object (rising_all w ws wanted.rising) wanted.in_range.1;
}

-- ---- up to the first wanted page nothing is wanted, and after it the others are

pub next_wanted : (pages : Key → Option Page) (left : PartRange) (w : Change) (ws : List Change) → IsWanted left (w ∷ ws)
    → differences pages left (w ∷ ws) ≡ differences pages (record left { end = w.key.part }) [] ++ (change_between w.key (pages w.key) w.page ++ differences pages (record left { first = w.key.part + 1 }) ws)
unfolding differences_from
next_wanted pages left w ws wanted =
    let here = inside left w.key wanted.in_range.0 in
    let object = left.object in
    let part = w.key.part in
    let later = rising_all w ws wanted.rising in
    let n = part - left.first in
    let m = left.end - (part + 1) in
    let pieces = split pages (w ∷ ws) object n (suc m) left.first (left.end - left.first) part (let h1 = here.from in let h2 = here.before in omega arith) (let h1 = here.from in omega arith) in
    let removals : differences_from pages (w ∷ ws) object left.first n ≡ differences_from pages [] object left.first n =
    same_differences pages pages (w ∷ ws) [] object n left.first (λ p low high. refl)
    (λ p low high.
    let before : key_cmp (key_at object p) w.key ≡ Less = part_below (key_at object p) w.key (sym here.object) (let h1 = here.from in omega arith) in
    unwanted (key_at object p) (w ∷ ws) (before, farther (key_at object p) w ws before later)) in
    let this : difference_at pages (w ∷ ws) (key_at object part) ≡ change_between w.key (pages w.key) w.page =
    ap (λ (number : ℕ). difference_at pages (w ∷ ws) (key_at number part)) (sym here.object)
    ∙ ap (λ b. change_between w.key (pages w.key) (cond b w.page (wanted_at ws w.key))) (key_itself w.key) in
    let behind : differences_from pages (w ∷ ws) object (part + 1) m ≡ differences_from pages ws object (part + 1) m =
    same_differences pages pages (w ∷ ws) ws object m (part + 1) (λ p low high. refl)
    (λ p low high.
    ap (λ b. cond b w.page (wanted_at ws (key_at object p)))
    (not_above w.key (key_at object p) (part_below w.key (key_at object p) here.object (omega arith)))) in
    pieces ∙ (λ i. removals i ++ (this i ++ behind i))

pub wanted_added : (items between new removals change rest behind total : List Change) → between ≡ items ++ removals → new ≡ between ++ change
    → behind ≡ removals ++ (change ++ rest) → items ++ behind ≡ total → new ++ rest ≡ total
wanted_added items between new removals change rest behind total first second is all =
    ap (λ (cs : List Change). cs ++ rest) (second ∙ ap (λ (cs : List Change). cs ++ change) first)
    ∙ append_assoc (items ++ removals) change rest ∙ append_assoc items removals (change ++ rest)
    ∙ ap (λ (cs : List Change). items ++ cs) (sym is) ∙ all

-- ---- the pages that were read

-- others are read like these before a part
abbrev pub AgreesBelow : PartRange → (Key → Option Page) → (Key → Option Page) → Type 0
AgreesBelow left pages others = (p : ℕ) → p < left.first → others (key_at left.object p) ≡ pages (key_at left.object p)

-- with all pages that are read like these so far, what was added and what is left are all differences
pub record ReadSoFar (keys : Keys) (left range : PartRange) (rest wanted items before : List Change) : Type 0 where
  pub pages : Key → Option Page
  pub have : HavePages keys pages
  pub so_far : (others : Key → Option Page) → HavePages keys others → AgreesBelow left pages others → items ++ differences others left rest ≡ before ++ differences others range wanted

-- at first any pages at the keys serve
pub read_begun : (keys : Keys) (range : PartRange) (wanted before : List Change) → ReadSoFar keys range range wanted wanted before before
read_begun keys range wanted before = record {
  pages = λ key. cond (contains_key keys key) (Some blank) None;
  have = λ key. some_where (contains_key keys key);
  so_far = λ others have agree. refl;
}
  where
    blank : Page
    blank = record { bytes = []; tags = 0 }

    some_where : (b : Bool) → is_some (cond b (Some blank) None) ≡ b
    some_where true = refl
    some_where false = refl

pub read_on : (keys : Keys) (left range : PartRange) (w : Change) (ws wanted items between new before : List Change) (page : Option Page)
    → ReadSoFar keys left range (w ∷ ws) wanted items before → IsWanted left (w ∷ ws) → is_some page ≡ contains_key keys w.key
    → ((pages : Key → Option Page) → HavePages keys pages → between ≡ items ++ differences pages (record left { end = w.key.part }) [])
    → new ≡ between ++ change_between w.key page w.page
    → ReadSoFar keys (record left { first = w.key.part + 1 }) range ws wanted new before
read_on keys left range w ws wanted items between new before page was is there first second =
    let here = inside left w.key is.in_range.0 in
    let part = w.key.part in
    let at_key : key_at left.object part ≡ w.key = ap (λ (number : ℕ). key_at number part) (sym here.object) in
    let apart : (p : ℕ) → p < left.first → eq_by_cmp key_cmp (key_at left.object p) w.key ≡ false =
    λ p low. not_below (key_at left.object p) w.key (part_below (key_at left.object p) w.key (sym here.object) (let h1 = here.from in omega arith)) in
    record {
      pages = pages;
      have = λ key. by key (eq_by_cmp key_cmp key w.key) refl;
      so_far = λ others have agree.
          let found : others w.key ≡ page =
          ap others (sym at_key) ∙ agree part (omega arith) ∙ ap pages at_key ∙ ap (λ b. cond b page (was.pages w.key)) (key_itself w.key) in
          wanted_added items between new _ _ _ _ _ (first others have) second
          (next_wanted others left w ws is ∙ ap (λ (o : Option Page). differences others (record left { end = part }) [] ++ (change_between w.key o w.page ++ differences others (record left { first = part + 1 }) ws)) found)
          (was.so_far others have (λ p low. agree p (let h1 = here.from in omega arith) ∙ ap (λ b. cond b page (was.pages (key_at left.object p))) (apart p low)));
    }
  where
    pages : Key → Option Page
    pages key = cond (eq_by_cmp key_cmp key w.key) page (was.pages key)

    by : (key : Key) (b : Bool) → eq_by_cmp key_cmp key w.key ≡ b → is_some (cond b page (was.pages key)) ≡ contains_key keys key
    by key true same = there ∙ ap (contains_key keys) (sym (one_key key w.key same))
    by key false other = was.have key

pub read_ended : (keys : Keys) (left range : PartRange) (wanted items new before : List Change) → ReadSoFar keys left range [] wanted items before
    → ((pages : Key → Option Page) → HavePages keys pages → new ≡ items ++ differences pages left [])
    → (pages : Key → Option Page) × (HavePages keys pages × (new ≡ before ++ differences pages range wanted))
read_ended keys left range wanted items new before was last =
    (was.pages, (was.have, last was.pages was.have ∙ was.so_far was.pages was.have (λ p low. refl)))

-- a vault that failed no further time is as it was
pub same_view : (old new : VaultView) → new ≡ record old { faults = new.faults } → new.faults ≡ old.faults → new ≡ old
same_view old new stays count = stays ∙ ap (λ (n : ℕ). record old { faults = n }) count

-- the pages of a content are at its keys
pub pages_held : (keys : Keys) (m : Content) → keys ≡ keys_of m → HavePages keys (get m)
pages_held keys m same key = sym (ap (λ (ks : Keys). contains_key ks key) same ∙ contains-keys_of m key)

-- the removals that are left do not use up the room for all changes
pub removals_left : (items removals change rest behind before all : List Change) → behind ≡ removals ++ (change ++ rest) → items ++ behind ≡ before ++ all → length items + length removals ≤ length before + length all
removals_left items removals change rest behind before all is so_far =
    omega (arith, ap length so_far, ap length is, length-append items behind, length-append removals (change ++ rest), length-append before all)

-- nor does one more change
pub change_left : (between rest before all : List Change) (key : Key) (page want : Option Page) → same_page page want ≡ false → (between ++ change_between key page want) ++ rest ≡ before ++ all → suc (length between) ≤ length before + length all
change_left between rest before all key page want other so_far =
    let one : length (change_between key page want) ≡ 1 = ap (λ b. length {A = Change} (cond b [] (record { key = key; page = want } ∷ []))) other in
    omega (arith, ap length so_far, one, length-append (between ++ change_between key page want) rest, length-append between (change_between key page want), length-append before all)

-- nor does what is left
pub all_left : (items behind before all : List Change) → items ++ behind ≡ before ++ all → length items + length behind ≤ length before + length all
all_left items behind before all so_far = omega (arith, ap length so_far, length-append items behind, length-append before all)
