-- The room that follows a step in what must persist is the room after the step.
use Rattle.std.proofs.Common.{◌≡◌, ℕ, ◌<◌, ◌==◌, Bool, true, false, cond, List, [], ◌∷◌, ◌++◌, map, refl, sym, ◌∙◌, ap, subst, arith}
use Rattle.std.proofs.lemmas.Bool.Decides.{nat_tests}
use Rattle.std.proofs.lemmas.List.Elements.{All-head, All-tail}
use Rattle.std.proofs.lemmas.Map.Keys.{sorted_from_strictly_increasing, sorted_head, sorted_tail}
use Rattle.std.specs.Prelude.{◌||◌, All, Option, Some, None}
use Rattle.std.specs.List.{AllByRecursion, flat_map, list_any}
use Rattle.std.specs.List.Sorted.{IsStrictlyIncreasing, IsStrictlySortedBy}
use Rattle.std.specs.Option.{option_map}
use Rattle.std.specs.Ordering.{nat_cmp}
use Rattle.std.specs.declared.cmp.Ordering.TheVariants.{Less}
use Rattle.s38_laws_objects.specs.Outline.{is_forced, speaks_of}
use Rattle.s38_rules.proofs.ChargeLaws.{found_number}
use Rattle.s38_rules.specs.declared.object.Object.{Object}
use Rattle.s38_rules.specs.store.Forcing.{Ceiling, Forced, Header, Removed, Whole, extent_after, extent_with_rows, is_whole}
use Rattle.s38_rules.specs.state.Held.{Held, has_number, object_in}
use Rattle.s38_rules.specs.store.Room.{Extent, extent_at, extent_of, rows_pages}
use Rattle.s38_rules.specs.store.Storing.{extents_of}
use Rattle.s38_objects.specs.Lawful.{number_of}
use Rattle.s38_space_map.proofs.ExtentLaws.{at_with, at_without, found_alike, number_found, number_same, rising_with, rising_without}
use Rattle.s38_space_map.specs.Extents.{AreRising, IsBelowAll, with_extent}
use Rattle.s38_space_rules.specs.Following.{FitsBut, followed_by, followed_one, kept_extent, rows_in, rows_kept, with_anew, with_kept}

-- what is true of each object is true of one that is found
pub found_all : (P : Object → Type 0) (os : List Object) (n : ℕ) (o : Object) → All P os → object_in os n ≡ Some o → P o
found_all P [] n o all h = cc
found_all P (x ∷ os) n o all h = by (found_all P os n o (All-tail P x os all)) (has_number n x) h
  where
    same : Some x ≡ Some o → x ≡ o
    same e = cc

    by : (object_in os n ≡ Some o → P o) → (b : Bool) → cond b (Some x) (object_in os n) ≡ Some o → P o
    by rest true e = subst P (same e) (All-head P x os all)
    by rest false e = rest e

-- ---- the extent of one object

some_same : (x y : Extent) → Some x ≡ Some y → x ≡ y
some_same x y h = cc

-- it has the object's number
after_number : (all : List Forced) (old : Option Extent) (o : Object) → (extent_after all old o).number ≡ o.number.0
after_number all old o = by (list_any (is_whole o.number.0) all) old
  where
    by : (b : Bool) (x : Option Extent) → (cond b (extent_of o) (extent_with_rows o x)).number ≡ o.number.0
    by true x = refl
    by false None = refl
    by false (Some x) = refl

kept_number : (all : List Forced) (old : Option Extent) (os : List Object) (n : ℕ) (x : Extent) → kept_extent all old (object_in os n) ≡ Some x → x.number ≡ n
kept_number all old os n x is = by (object_in os n) refl is
  where
    disk : (o : Object) → object_in os n ≡ Some o → (b : Bool) → cond b (Some (extent_after all old o)) None ≡ Some x → x.number ≡ n
    disk o found true e = subst (λ (y : Extent). y.number ≡ n) (some_same (extent_after all old o) x e) (after_number all old o ∙ found_number n o os found)
    disk o found false e = cc

    by : (y : Option Object) → object_in os n ≡ y → kept_extent all old y ≡ Some x → x.number ≡ n
    by None found e = cc
    by (Some o) found e = disk o found o.on_disk e

-- what follows twice is as what follows once
kept_twice : (all : List Forced) (old : Option Extent) (y : Option Object) → kept_extent all (kept_extent all old y) y ≡ kept_extent all old y
kept_twice all old None = refl
kept_twice all old (Some o) = by o.on_disk
  where
    after : (b : Bool) (x : Option Extent) → cond b (extent_of o) (extent_with_rows o (Some (cond b (extent_of o) (extent_with_rows o x)))) ≡ cond b (extent_of o) (extent_with_rows o x)
    after true x = refl
    after false None = refl
    after false (Some x) = refl

    by : (b : Bool) → cond b (Some (extent_after all (cond b (Some (extent_after all old o)) None) o)) None ≡ cond b (Some (extent_after all old o)) None
    by true = ap (λ (x : Extent). Some x) (after (list_any (is_whole o.number.0) all) old)
    by false = refl

-- ---- what is put at one number

at_kept : (n : ℕ) (k : Option Extent) (xs : List Extent) (m : ℕ) → ((x : Extent) → k ≡ Some x → x.number ≡ n) → extent_at (with_kept n k xs) m ≡ cond (n == m) k (extent_at xs m)
at_kept n None xs m number = at_without n xs m
at_kept n (Some x) xs m number = subst (λ (i : ℕ). extent_at (with_extent x xs) m ≡ cond (i == m) (Some x) (extent_at xs m)) (number x refl) (at_with x xs m)

rising_kept : (n : ℕ) (k : Option Extent) (xs : List Extent) → AreRising xs → AreRising (with_kept n k xs)
rising_kept n None xs rising = rising_without n xs rising
rising_kept n (Some x) xs rising = rising_with x xs rising

anew_at : (all : List Forced) (os : List Object) (n : ℕ) (xs : List Extent) (m : ℕ)
    → extent_at (with_anew all os n xs) m ≡ cond (n == m) (kept_extent all (extent_at xs m) (object_in os m)) (extent_at xs m)
anew_at all os n xs m =
    at_kept n (kept_extent all (extent_at xs n) (object_in os n)) xs m (λ x is. kept_number all (extent_at xs n) os n x is) ∙ by (n == m) refl
  where
    by : (b : Bool) → (n == m) ≡ b → cond b (kept_extent all (extent_at xs n) (object_in os n)) (extent_at xs m) ≡ cond b (kept_extent all (extent_at xs m) (object_in os m)) (extent_at xs m)
    by true is = ap (λ (i : ℕ). kept_extent all (extent_at xs i) (object_in os i)) (number_same n m is)
    by false is = refl

one_at : (all : List Forced) (os : List Object) (one : Forced) (xs : List Extent) (m : ℕ)
    → extent_at (followed_one all os one xs) m ≡ cond (speaks_of m one) (kept_extent all (extent_at xs m) (object_in os m)) (extent_at xs m)
one_at all os Ceiling xs m = refl
one_at all os (Header n) xs m = anew_at all os n xs m
one_at all os (Whole n) xs m = anew_at all os n xs m
one_at all os (Removed n) xs m = anew_at all os n xs m

one_rising : (all : List Forced) (os : List Object) (one : Forced) (xs : List Extent) → AreRising xs → AreRising (followed_one all os one xs)
one_rising all os Ceiling xs rising = rising
one_rising all os (Header n) xs rising = rising_kept n (kept_extent all (extent_at xs n) (object_in os n)) xs rising
one_rising all os (Whole n) xs rising = rising_kept n (kept_extent all (extent_at xs n) (object_in os n)) xs rising
one_rising all os (Removed n) xs rising = rising_kept n (kept_extent all (extent_at xs n) (object_in os n)) xs rising

-- ---- what is put at all numbers

pub all_at : (all : List Forced) (os : List Object) (some : List Forced) (xs : List Extent) (m : ℕ)
    → extent_at (followed_by all os some xs) m ≡ cond (is_forced m some) (kept_extent all (extent_at xs m) (object_in os m)) (extent_at xs m)
all_at all os [] xs m = refl
all_at all os (one ∷ more) xs m =
    all_at all os more (followed_one all os one xs) m
    ∙ ap (λ (x : Option Extent). cond (is_forced m more) (kept_extent all x (object_in os m)) x) (one_at all os one xs m)
    ∙ by (speaks_of m one) (is_forced m more)
  where
    old : Option Extent
    old = extent_at xs m

    new : Option Extent
    new = kept_extent all (extent_at xs m) (object_in os m)

    by : (a b : Bool) → cond b (kept_extent all (cond a new old) (object_in os m)) (cond a new old) ≡ cond (a || b) new old
    by true true = kept_twice all old (object_in os m)
    by true false = refl
    by false true = refl
    by false false = refl

pub all_rising : (all : List Forced) (os : List Object) (some : List Forced) (xs : List Extent) → AreRising xs → AreRising (followed_by all os some xs)
all_rising all os [] xs rising = rising
all_rising all os (one ∷ more) xs rising = all_rising all os more (followed_one all os one xs) (one_rising all os one xs rising)

-- ---- the room after the step

-- a number below all is that of none
none_under : (n : ℕ) (os : List Object) → AllByRecursion (λ k. nat_cmp n k ≡ Less) (map number_of os) → object_in os n ≡ None
none_under n [] above = refl
none_under n (o ∷ os) above =
    let here : nat_cmp n o.number.0 ≡ Less = above.0 in
    let off : (o.number.0 == n) ≡ false = grind (arith, nat_tests) in
    rw off (none_under n os above.1)

first_extent : (all : List Forced) (old : List Extent) (o : Object) (os : List Object) (m : ℕ) → (has_number m o ≡ true → object_in os m ≡ None)
    → extent_at (flat_map (extents_of all old) os) m ≡ kept_extent all (extent_at old m) (object_in os m)
    → extent_at (extents_of all old o ++ flat_map (extents_of all old) os) m ≡ kept_extent all (extent_at old m) (object_in (o ∷ os) m)
first_extent all old o os m none rest = by o.on_disk refl (has_number m o) refl
  where
    x : Extent
    x = extent_after all (extent_at old o.number.0) o

    same : (x.number == m) ≡ has_number m o
    same = ap (λ (k : ℕ). k == m) (after_number all (extent_at old o.number.0) o)

    by : (disk : Bool) → o.on_disk ≡ disk → (b : Bool) → has_number m o ≡ b → extent_at (cond disk (x ∷ []) [] ++ flat_map (extents_of all old) os) m ≡ kept_extent all (extent_at old m) (cond b (Some o) (object_in os m))
    by true on true is = rw (same, is, on) (ap (λ (k : ℕ). Some (extent_after all (extent_at old k) o)) (number_same o.number.0 m is))
    by true on false is = rw (same, is) rest
    by false off true is = rest ∙ ap (kept_extent all (extent_at old m)) (none is) ∙ rw off refl
    by false off false is = rest

pub flat_at : (all : List Forced) (old : List Extent) (os : List Object) (m : ℕ) → IsStrictlySortedBy nat_cmp (map number_of os)
    → extent_at (flat_map (extents_of all old) os) m ≡ kept_extent all (extent_at old m) (object_in os m)
flat_at all old [] m rising = refl
flat_at all old (o ∷ os) m rising =
    let above = sorted_head nat_cmp o.number.0 (map number_of os) rising in
    let rest = flat_at all old os m (sorted_tail nat_cmp o.number.0 (map number_of os) rising) in
    first_extent all old o os m (λ is. let here : o.number.0 ≡ m = grind (arith, nat_tests) in subst (λ (k : ℕ). object_in os k ≡ None) here (none_under o.number.0 os above)) rest

-- the extents of objects above a number are above it
flat_below : (n : ℕ) (all : List Forced) (old : List Extent) (os : List Object) → AllByRecursion (λ k. nat_cmp n k ≡ Less) (map number_of os) → IsBelowAll n (flat_map (extents_of all old) os)
flat_below n all old [] above = tt
flat_below n all old (o ∷ os) above = by (flat_below n all old os above.1) o.on_disk
  where
    x : Extent
    x = extent_after all (extent_at old o.number.0) o

    less : n < x.number
    less = let here : nat_cmp n o.number.0 ≡ Less = above.0 in let under : n < o.number.0 = grind (arith, nat_tests) in subst (λ (k : ℕ). n < k) (sym (after_number all (extent_at old o.number.0) o)) under

    by : IsBelowAll n (flat_map (extents_of all old) os) → (b : Bool) → IsBelowAll n (cond b (x ∷ []) [] ++ flat_map (extents_of all old) os)
    by rest true = (less, rest)
    by rest false = rest

flat_rising : (all : List Forced) (old : List Extent) (os : List Object) → IsStrictlySortedBy nat_cmp (map number_of os) → AreRising (flat_map (extents_of all old) os)
flat_rising all old [] rising = tt
flat_rising all old (o ∷ os) rising = by (flat_rising all old os (sorted_tail nat_cmp o.number.0 (map number_of os) rising)) o.on_disk
  where
    x : Extent
    x = extent_after all (extent_at old o.number.0) o

    below : IsBelowAll x.number (flat_map (extents_of all old) os)
    below = subst (λ (k : ℕ). IsBelowAll k (flat_map (extents_of all old) os)) (sym (after_number all (extent_at old o.number.0) o))
        (flat_below o.number.0 all old os (sorted_head nat_cmp o.number.0 (map number_of os) rising))

    by : AreRising (flat_map (extents_of all old) os) → (b : Bool) → AreRising (cond b (x ∷ []) [] ++ flat_map (extents_of all old) os)
    by rest true = (below, rest)
    by rest false = rest

-- ---- what need not persist stays

pub unforced_whole : (n : ℕ) (all : List Forced) → is_forced n all ≡ false → list_any (is_whole n) all ≡ false
unforced_whole n [] unforced = refl
unforced_whole n (Ceiling ∷ all) unforced = unforced_whole n all unforced
unforced_whole n (Header m ∷ all) unforced = unforced_whole n all (later (m == n) unforced)
  where
    later : (b : Bool) → (b || is_forced n all) ≡ false → is_forced n all ≡ false
    later true h = cc
    later false h = h
unforced_whole n (Whole m ∷ all) unforced = by (unforced_whole n all) (m == n) unforced
  where
    by : (is_forced n all ≡ false → list_any (is_whole n) all ≡ false) → (b : Bool) → (b || is_forced n all) ≡ false → (b || list_any (is_whole n) all) ≡ false
    by rest true h = cc
    by rest false h = rest h
unforced_whole n (Removed m ∷ all) unforced = unforced_whole n all (later (m == n) unforced)
  where
    later : (b : Bool) → (b || is_forced n all) ≡ false → is_forced n all ≡ false
    later true h = cc
    later false h = h

nothing_mapped : (x : Option Extent) → option_map rows_in x ≡ None → x ≡ None
nothing_mapped None h = refl
nothing_mapped (Some x) h = cc

-- the extent of an object of which nothing must persist
pub unforced_kept : (all : List Forced) (old : List Extent) (os : List Object) (m : ℕ) → is_forced m all ≡ false → option_map rows_in (extent_at old m) ≡ rows_kept (object_in os m)
    → kept_extent all (extent_at old m) (object_in os m) ≡ extent_at old m
unforced_kept all old os m unforced fits = by (object_in os m) refl fits
  where
    number_of_same : (a b : ℕ) → Some a ≡ Some b → a ≡ b
    number_of_same a b h = cc

    same : (o : Object) → object_in os m ≡ Some o → (x : Option Extent) → extent_at old m ≡ x → option_map rows_in x ≡ Some (rows_pages o) → Some (extent_with_rows o x) ≡ x
    same o found None at rows = cc
    same o found (Some x) at rows = λ i. Some (record {
      number = (found_number m o os found ∙ sym (number_found m x old at)) i;
      rows = sym (number_of_same x.rows (rows_pages o) rows) i;
      body = x.body;
    })

    disk : (o : Object) → object_in os m ≡ Some o → (b : Bool) → option_map rows_in (extent_at old m) ≡ cond b (Some (rows_pages o)) None → cond b (Some (extent_after all (extent_at old m) o)) None ≡ extent_at old m
    disk o found true rows =
        let whole : list_any (is_whole o.number.0) all ≡ false = subst (λ (k : ℕ). list_any (is_whole k) all ≡ false) (sym (found_number m o os found)) (unforced_whole m all unforced) in
        rw whole (same o found (extent_at old m) refl rows)
    disk o found false rows = sym (nothing_mapped (extent_at old m) rows)

    by : (y : Option Object) → object_in os m ≡ y → option_map rows_in (extent_at old m) ≡ rows_kept y → kept_extent all (extent_at old m) y ≡ extent_at old m
    by None found rows = sym (nothing_mapped (extent_at old m) rows)
    by (Some o) found rows = disk o found o.on_disk rows

-- the extents that follow are those after the step
pub follows : (all : List Forced) (xs : List Extent) (h : Held) → AreRising xs → IsStrictlyIncreasing (map number_of h.objects) → FitsBut all xs h
    → followed_by all h.objects all xs ≡ flat_map (extents_of all xs) h.objects
follows all xs h rising numbers fits =
    let sorted = sorted_from_strictly_increasing (map number_of h.objects) numbers in
    found_alike (followed_by all h.objects all xs) (flat_map (extents_of all xs) h.objects)
    (all_rising all h.objects all xs rising) (flat_rising all xs h.objects sorted)
    (λ m. all_at all h.objects all xs m ∙ by m (is_forced m all) refl ∙ sym (flat_at all xs h.objects m sorted))
  where
    by : (m : ℕ) (b : Bool) → is_forced m all ≡ b → cond b (kept_extent all (extent_at xs m) (object_in h.objects m)) (extent_at xs m) ≡ kept_extent all (extent_at xs m) (object_in h.objects m)
    by m true is = refl
    by m false is = sym (unforced_kept all xs h.objects m is (fits.rows m is))
