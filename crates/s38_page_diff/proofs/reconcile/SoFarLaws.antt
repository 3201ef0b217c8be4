-- All changes up to a number, and those of a number more.
use Rattle.std.proofs.Common.{◌≡◌, ℕ, zero, suc, ◌+◌, ◌-◌, ◌<◌, ◌≤◌, ◌^◌, true, false, cond, List, [], ◌∷◌, ◌++◌, inl, inr, refl, sym, ◌∙◌, ap, subst, arith, append-nil, append_assoc}
use Rattle.std.proofs.lemmas.Bool.{cases_lt}
use Rattle.std.proofs.lemmas.List.Sums.{sum_by-append}
use Rattle.std.specs.Prelude.{Option, Some, None, is_some}
use Rattle.std.specs.FinMap.{contains_key, get}
use Rattle.std.specs.List.{AllByRecursion}
use Rattle.std.specs.Ordering.{eq_by_cmp}
use Rattle.s38_base.specs.declared.page.Change.{Change}
use Rattle.s38_base.specs.declared.page.Key.{Key}
use Rattle.s38_base.specs.declared.page.Page.{Page}
use Rattle.s38_page_diff.specs.Differences.{HavePages, IsWanted, change_between, difference_at, differences, differences_from, is_part_in_range, wanted_at}
use Rattle.s38_page_diff.proofs.DifferenceLaws.{none_left, split}
use Rattle.s38_page_diff.proofs.LookLaws.{differences_objects, differences_rising, each_difference}
use Rattle.s38_page_diff.proofs.WalkLaws.{key_at, not_above, object_below, part_below}
use Rattle.s38_page_diff.proofs.WantedLaws.{in_range, inside, pages_held, read_begun}
use Rattle.s38_page_diff.specs.reconcile.Replacing.{changes_at, last_part, range_of, short_range}
use Rattle.s38_page_diff.specs.reconcile.Walking.{AreAt, AreSoFar, Stays}
use Rattle.s38_page_diff.proofs.reconcile.PieceLaws.{each_empty, each_next, each_none}
use Rattle.s38_vault.specs.Content.{AreRising, Content, HaveObjects}
use Rattle.s38_vault.specs.Directory.{Keys, is_new, keys_of, new_keys}
use Rattle.s38_vault.specs.Keys.{IsBefore, key_cmp}
use Rattle.s38_vault.specs.Vaults.{VaultView}

-- ---- lists of changes

pub all_of : (P Q : Change → Type 0) (cs : List Change) → ((c : Change) → P c → Q c) → AllByRecursion P cs → AllByRecursion Q cs
all_of P Q [] f h = tt
all_of P Q (c ∷ cs) f h = (f c h.0, all_of P Q cs f h.1)

pub all_on : (P : Change → Type 0) (cs ds : List Change) → AllByRecursion P cs → AllByRecursion P ds → AllByRecursion P (cs ++ ds)
all_on P [] ds g h = h
all_on P (c ∷ cs) ds g h = (g.0, all_on P cs ds g.1 h)

rising_on : (c : Change) (cs : List Change) → AllByRecursion (λ d. IsBefore c.key d.key) cs → AreRising cs → AreRising (c ∷ cs)
rising_on c [] h rising = tt
rising_on c (d ∷ cs) h rising = (h.0, rising)

-- changes up to a number, and changes after it
pub rising_join : (done : ℕ) (cs ds : List Change) → AllByRecursion (λ c. c.key.object ≤ done) cs → AllByRecursion (λ d. done < d.key.object) ds → AreRising cs → AreRising ds → AreRising (cs ++ ds)
rising_join done [] ds low high first last = last
rising_join done (c ∷ []) ds low high first last = rising_on c ds (all_of _ _ ds (λ d above. object_below c.key d.key (omega (arith, low.0, above))) high) last
rising_join done (c ∷ d ∷ cs) ds low high first last = (first.0, rising_join done (d ∷ cs) ds low.1 high first.1 last)

pub new-append : (keys : Keys) (cs ds : List Change) → new_keys keys (cs ++ ds) ≡ new_keys keys cs + new_keys keys ds
new-append keys cs ds = sum_by-append (λ c. cond (is_new keys c) 1 0) cs ds

-- the changes of a number are of that number
pub of_number : (pages : Key → Option Page) (n : ℕ) (wanted : List Change) → AllByRecursion (λ c. c.key.object ≡ n) (differences pages (range_of n) wanted)
of_number pages n wanted = all_of _ _ (differences pages (range_of n) wanted) (λ c h. (inside (range_of n) c.key h.in_range).object) (each_difference pages (range_of n) wanted)

-- ---- the last part

-- all parts before one, and that one
front_and_one : (pages : Key → Option Page) (wanted : List Change) (object n total : ℕ) → total ≡ n + 1
    → differences_from pages wanted object 0 total ≡ differences_from pages wanted object 0 n ++ difference_at pages wanted (key_at object n)
unfolding differences_from
front_and_one pages wanted object n total sum =
    split pages wanted object n (suc zero) 0 total n (omega arith) (omega arith)
    ∙ ap (λ (cs : List Change). differences_from pages wanted object 0 n ++ cs) (append-nil (difference_at pages wanted (key_at object n)))

pub short_and_last : (pages : Key → Option Page) (n : ℕ) (wanted : List Change)
    → differences pages (range_of n) wanted ≡ differences pages (short_range n) wanted ++ change_between (key_at n last_part) (pages (key_at n last_part)) (wanted_at wanted (key_at n last_part))
short_and_last pages n wanted = front_and_one pages wanted n last_part (2 ^ 32) refl

-- the last part is not wanted
pub last_unwanted : (n : ℕ) (wanted : List Change) → AllByRecursion (λ want. is_part_in_range (short_range n) want.key ≡ true) wanted → wanted_at wanted (key_at n last_part) ≡ None
last_unwanted n [] h = refl
last_unwanted n (w ∷ wanted) h =
    let here = inside (short_range n) w.key h.0 in
    let off : eq_by_cmp key_cmp (key_at n last_part) w.key ≡ false = not_above w.key (key_at n last_part) (part_below w.key (key_at n last_part) here.object here.before) in
    ap (λ b. cond b w.page (wanted_at wanted (key_at n last_part))) off ∙ last_unwanted n wanted h.1

longer : (n : ℕ) (key : Key) → is_part_in_range (short_range n) key ≡ true → is_part_in_range (range_of n) key ≡ true
longer n key h =
    let here = inside (short_range n) key h in
    in_range (range_of n) key here.object (omega arith) (omega (arith, here.before))

pub wanted_whole : (n : ℕ) (wanted : List Change) → IsWanted (short_range n) wanted → IsWanted (range_of n) wanted
wanted_whole n wanted is = record { rising = is.rising; in_range = all_of _ _ wanted (λ w h. longer n w.key h) is.in_range }

-- all parts but the last, and then the last
pub with_last : (pages : Key → Option Page) (n : ℕ) (wanted old between new : List Change) → AllByRecursion (λ want. is_part_in_range (short_range n) want.key ≡ true) wanted
    → between ≡ old ++ differences pages (short_range n) wanted → new ≡ between ++ change_between (key_at n last_part) (pages (key_at n last_part)) None
    → new ≡ old ++ differences pages (range_of n) wanted
with_last pages n wanted old between new within first last =
    let tail = change_between (key_at n last_part) (pages (key_at n last_part)) None in
    let front = differences pages (short_range n) wanted in
    let whole : differences pages (range_of n) wanted ≡ front ++ tail =
    short_and_last pages n wanted ∙ ap (λ (o : Option Page). front ++ change_between (key_at n last_part) (pages (key_at n last_part)) o) (last_unwanted n wanted within) in
    last ∙ ap (λ (cs : List Change). cs ++ tail) first ∙ append_assoc old front tail ∙ ap (λ (cs : List Change). old ++ cs) (sym whole)

-- where the last part is there, its removal is what differs, and else nothing
pub last_there : (key : Key) (page : Option Page) (old new : List Change) → is_some page ≡ true → new ≡ old ++ record { key = key; page = None } ∷ [] → new ≡ old ++ change_between key page None
last_there key None old new there is = absurd (cc)
last_there key (Some page) old new there is = is

-- ---- one number more

module _ (keys : Keys) (holds : Content → Type 0) (wants : ℕ → List Change) where
  none_wanted : (n : ℕ) → IsWanted (range_of n) []
  none_wanted n = record { rising = tt; in_range = tt }

  wanted_on : (done : ℕ) → ((n : ℕ) → 1 ≤ n → n ≤ done → IsWanted (range_of n) (wants n)) → IsWanted (range_of (suc done)) (wants (suc done)) → (n : ℕ) → 1 ≤ n → n ≤ suc done → IsWanted (range_of n) (wants n)
  wanted_on done was here n low high = elim (cases_lt done n) [
    | inl above ↦
        let same : suc done ≡ n = omega arith in
        subst (λ (k : ℕ). IsWanted (range_of k) (wants k)) same here
    | inr below ↦ was n low below
  ]

  -- a number at which changes were found
  pub so_far_on : (done : ℕ) (changes new : List Change) → AreSoFar keys holds wants done changes → IsWanted (range_of (suc done)) (wants (suc done)) → AreAt keys holds (suc done) (wants (suc done)) changes new
      → AreSoFar keys holds wants (suc done) new
  so_far_on done changes new was is at =
      let n = suc done in
      let found = differences at.pages (range_of n) (wants n) in
      let own = of_number at.pages n (wants n) in
      record {
        keys_held = was.keys_held;
        wanted = wanted_on done was.wanted is;
        told = λ m h.
            at.told m h ∙ ap (λ (cs : List Change). cs ++ differences (get m) (range_of n) (wants n)) (was.told m h)
            ∙ sym (each_next (changes_at (get m) wants) done);
        rising = subst AreRising (sym at.read)
            (rising_join done changes found was.upto (all_of _ _ found (λ c here. omega (arith, here)) own) was.rising (differences_rising at.pages (range_of n) (wants n)));
        objects = subst HaveObjects (sym at.read)
            (all_on (λ c. 1 ≤ c.key.object) changes found was.objects (differences_objects at.pages (range_of n) (wants n) (omega arith)));
        upto = subst (λ (cs : List Change). AllByRecursion (λ c. c.key.object ≤ n) cs) (sym at.read)
            (all_on (λ c. c.key.object ≤ n) changes found (all_of _ _ changes (λ c low. omega (arith, low)) was.upto) (all_of _ _ found (λ c here. omega (arith, here)) own));
      }

  -- a number without a part, where none is wanted
  so_far_empty : (done : ℕ) (changes : List Change) → wants (suc done) ≡ [] → ((key : Key) → key.object ≡ suc done → contains_key keys key ≡ false) → AreSoFar keys holds wants done changes → AreSoFar keys holds wants (suc done) changes
  so_far_empty done changes none gone was = record {
    keys_held = was.keys_held;
    wanted = wanted_on done was.wanted (subst (λ (ws : List Change). IsWanted (range_of (suc done)) ws) (sym none) (none_wanted (suc done)));
    told = λ m h. was.told m h ∙ sym (each_empty (changes_at (get m) wants) done (nothing m h));
    rising = was.rising;
    objects = was.objects;
    upto = all_of _ _ changes (λ c low. omega (arith, low)) was.upto;
  }
    where
      nothing : (m : Content) → holds m → changes_at (get m) wants (suc done) ≡ []
      nothing m h =
          ap (λ (ws : List Change). differences (get m) (range_of (suc done)) ws) none
          ∙ none_left keys (get m) (range_of (suc done)) (pages_held keys m (was.keys_held m h)) (λ p low high. gone (key_at (suc done) p) refl)

  skip_by : (done gap : ℕ) (changes : List Change) → ((n : ℕ) → done < n → n ≤ gap + done → wants n ≡ []) → ((key : Key) → done < key.object → key.object ≤ gap + done → contains_key keys key ≡ false)
      → AreSoFar keys holds wants done changes → AreSoFar keys holds wants (gap + done) changes
  skip_by done zero changes none gone was =
      let same : done ≡ zero + done = omega arith in
      subst (λ (n : ℕ). AreSoFar keys holds wants n changes) same was
  skip_by done (suc gap) changes none gone was =
      let next : suc (gap + done) ≡ suc gap + done = omega arith in
      let before = skip_by done gap changes (λ n low high. none n low (omega arith)) (λ key low high. gone key low (omega arith)) was in
      subst (λ (n : ℕ). AreSoFar keys holds wants n changes) next
      (so_far_empty (gap + done) changes (none (suc (gap + done)) (omega arith) (omega arith)) (λ key at. gone key (omega (arith, at)) (omega (arith, at))) before)

  -- numbers without a part, where none is wanted
  pub so_far_skip : (done upto : ℕ) (changes : List Change) → done ≤ upto → ((n : ℕ) → done < n → n ≤ upto → wants n ≡ []) → ((key : Key) → done < key.object → key.object ≤ upto → contains_key keys key ≡ false)
      → AreSoFar keys holds wants done changes → AreSoFar keys holds wants upto changes
  so_far_skip done upto changes low none gone was =
      let sum : (upto - done) + done ≡ upto = omega arith in
      subst (λ (n : ℕ). AreSoFar keys holds wants n changes) sum
      (skip_by done (upto - done) changes (λ n above below. none n above (omega (arith, sum))) (λ key above below. gone key above (omega (arith, sum))) was)

  -- a number after such, at which changes were found
  pub so_far_at : (done n : ℕ) (changes new : List Change) → done < n → ((k : ℕ) → done < k → k < n → wants k ≡ []) → ((key : Key) → done < key.object → key.object < n → contains_key keys key ≡ false)
      → IsWanted (range_of n) (wants n) → AreAt keys holds n (wants n) changes new → AreSoFar keys holds wants done changes → AreSoFar keys holds wants n new
  so_far_at done zero changes new low none gone is at was = absurd (omega arith)
  so_far_at done (suc n) changes new low none gone is at was =
      so_far_on n changes new (so_far_skip done n changes (omega arith) (λ k above below. none k above (omega arith)) (λ key above below. gone key above (omega arith)) was) is at

  -- the removals of all parts of a number, whatever pages are there
  pub removals_at : (n : ℕ) (old new : List Change) → ((m : Content) → holds m → keys ≡ keys_of m)
      → ((pages : Key → Option Page) → HavePages keys pages → new ≡ old ++ differences pages (range_of n) []) → AreAt keys holds n [] old new
  removals_at n old new held all =
      let some = read_begun keys (range_of n) [] [] in
      record {
        told = λ m h. all (get m) (pages_held keys m (held m h));
        pages = some.pages;
        have = some.have;
        read = all some.pages some.have;
      }

  -- a number after such, whose parts are all removed
  pub so_far_stranger : (done n : ℕ) (changes new : List Change) → done < n → ((k : ℕ) → done < k → k ≤ n → wants k ≡ []) → ((key : Key) → done < key.object → key.object < n → contains_key keys key ≡ false)
      → ((pages : Key → Option Page) → HavePages keys pages → new ≡ changes ++ differences pages (range_of n) []) → AreSoFar keys holds wants done changes → AreSoFar keys holds wants n new
  so_far_stranger done n changes new low none gone all was =
      let here = sym (none n low (omega arith)) in
      so_far_at done n changes new low (λ k above below. none k above (omega arith)) gone
      (subst (λ (ws : List Change). IsWanted (range_of n) ws) here (none_wanted n))
      (subst (λ (ws : List Change). AreAt keys holds n ws changes new) here (removals_at n changes new was.keys_held all)) was

  -- nothing is done
  pub so_far_begun : (changes : List Change) → changes ≡ [] → ((m : Content) → holds m → keys ≡ keys_of m) → AreSoFar keys holds wants 0 changes
  so_far_begun changes none held = record {
    keys_held = held;
    wanted = λ n low high. absurd (omega (arith, low, high));
    told = λ m h. none ∙ sym (each_none (changes_at (get m) wants));
    rising = subst AreRising (sym none) tt;
    objects = subst HaveObjects (sym none) tt;
    upto = subst (λ (cs : List Change). AllByRecursion (λ c. c.key.object ≤ 0) cs) (sym none) tt;
  }

-- what is added at a number, and the removal of its last part
pub at_by : (keys more : Keys) (holds : Content → Type 0) (n : ℕ) (wanted old between new : List Change) → more ≡ keys → ((m : Content) → holds m → keys ≡ keys_of m) → IsWanted (short_range n) wanted
    → ((m : Content) → holds m → between ≡ old ++ differences (get m) (short_range n) wanted)
    → (pages : Key → Option Page) × (HavePages keys pages × (between ≡ old ++ differences pages (short_range n) wanted))
    → ((pages : Key → Option Page) → HavePages more pages → new ≡ between ++ change_between (key_at n last_part) (pages (key_at n last_part)) None) → AreAt keys holds n wanted old new
at_by keys more holds n wanted old between new same held is told read last = record {
  told = λ m h. with_last (get m) n wanted old between new is.in_range (told m h) (last (get m) (have (get m) (pages_held keys m (held m h))));
  pages = read.0;
  have = read.1.0;
  read = with_last read.0 n wanted old between new is.in_range read.1.1 (last read.0 (have read.0 read.1.0));
}
  where
    have : (pages : Key → Option Page) → HavePages keys pages → HavePages more pages
    have pages h = subst (λ (ks : Keys). HavePages ks pages) (sym same) h

-- ---- a vault that is as it was

-- the same of a vault that has the same keys and holds nothing else
pub so_far_moved : (keys more : Keys) (holds now : Content → Type 0) (wants : ℕ → List Change) (done : ℕ) (changes : List Change) → more ≡ keys → ((m : Content) → now m → holds m)
    → AreSoFar keys holds wants done changes → AreSoFar more now wants done changes
so_far_moved keys more holds now wants done changes same back was = record {
  keys_held = λ m h. same ∙ was.keys_held m (back m h);
  wanted = was.wanted;
  told = λ m h. was.told m (back m h);
  rising = was.rising;
  objects = was.objects;
  upto = was.upto;
}

-- numbers where no part is wanted, and then a number at which changes were found, of a vault that is as it was
pub passed : (keys more : Keys) (holds now : Content → Type 0) (wants : ℕ → List Change) (done upto n : ℕ) (before between changes : List Change) → more ≡ keys → ((m : Content) → holds m → now m) → ((m : Content) → now m → holds m)
    → n ≡ suc upto → (AreSoFar more now wants done before → AreSoFar more now wants upto between) → IsWanted (range_of n) (wants n) → AreAt more now n (wants n) between changes
    → AreSoFar keys holds wants done before → AreSoFar keys holds wants n changes
passed keys more holds now wants done upto n before between changes same to back next strangers is at was =
    so_far_moved more keys now holds wants n changes (sym same) to
    (so_far_at more now wants upto n between changes (omega (arith, next)) (λ k above below. absurd (omega (arith, above, below, next))) (λ key above below. absurd (omega (arith, above, below, next))) is at
    (strangers (so_far_moved keys more holds now wants done before same back was)))

module _ {V : Type 0} {view : V → VaultView} {holds : V → Content → Type 0} {leaves : V → ℕ → Content → Type 0} where
  pub stays_begun : (old : V) → Stays view holds leaves old old
  stays_begun old = record { same = refl; held = λ m. ((λ h. h), (λ h. h)); past = λ t m low. ((λ h. h), (λ h. h)) }

  pub stays_on : (old now new : V) → Stays view holds leaves old now → Stays view holds leaves now new → Stays view holds leaves old new
  stays_on old now new first last = record {
    same = last.same ∙ ap (λ (v : VaultView). record v { faults = (view new).faults }) first.same;
    held = λ m. ((λ h. (last.held m).0 ((first.held m).0 h)), (λ h. (first.held m).1 ((last.held m).1 h)));
    past = λ t m low.
        let early : t ≤ (view now).moment = subst (λ (v : VaultView). t ≤ v.moment) (sym first.same) low in
        ((λ h. (last.past t m early).0 ((first.past t m low).0 h)), (λ h. (first.past t m low).1 ((last.past t m early).1 h)));
  }

  pub stays_keys : (old new : V) → Stays view holds leaves old new → (view new).keys ≡ (view old).keys
  stays_keys old new stays = ap (λ (v : VaultView). v.keys) stays.same
