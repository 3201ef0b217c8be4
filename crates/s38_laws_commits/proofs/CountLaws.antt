-- Entries of a journal space done again: one more, and by another count.
use Rattle.std.proofs.Common.{◌≡◌, ◌∙◌, ℕ, ◌+◌, ◌≤◌, ◌==◌, Bool, true, false, cond, List, [], ◌∷◌, ◌++◌, length, refl, sym, ap, arith}
use Rattle.std.proofs.lemmas.Bool.Decides.{nat_tests}
use Rattle.std.specs.List.{list_any}
use Rattle.std.specs.Prelude.{◌&&◌, ◌||◌, nat_lt}
use Rattle.s38_base.specs.declared.attr.Attr.{Attr}
use Rattle.s38_dataspaces.specs.Entries as spaces
use Rattle.s38_journals.specs.Entries.{JournalRecord, is_end}
use Rattle.s38_journals.specs.declared.entry.EntryKind.TheVariants.{Insert, Update, Delete, Commit, Decommit}
use Rattle.s38_journals.specs.declared.entry.EntryKind.{EntryKind}
use Rattle.s38_restart.specs.Redo.{commits, counts, is_commit, is_committed}
use Rattle.s38_laws_commits.specs.Counting.{also, ends_unit, has_commit, has_entry, has_unit, is_of_unit, is_of_unit_for, only_of_unit}
use Rattle.s38_laws_commits.specs.Ordinals.{EntryFilter, change_redone_at, entry_redone_at, is_for, redone_at_from}

-- ---- tests

pub or_nothing : (b : Bool) → (b || false) ≡ b
or_nothing true = refl
or_nothing false = refl

pub or_left : (a b : Bool) → (a || b) ≡ false → a ≡ false
or_left true b h = cc
or_left false b h = refl

pub or_right : (a b : Bool) → (a || b) ≡ false → b ≡ false
or_right true b h = cc
or_right false b h = h

or_assoc : (a b c : Bool) → ((a || b) || c) ≡ (a || (b || c))
or_assoc true b c = refl
or_assoc false b c = refl

pub and_nothing : (b : Bool) → (b && false) ≡ false
and_nothing true = refl
and_nothing false = refl

pub any_more : {A : Type 0} (test : A → Bool) (xs : List A) (x : A) → list_any test (xs ++ x ∷ []) ≡ (list_any test xs || test x)
any_more test [] x = or_nothing (test x)
any_more test (y ∷ ys) x = ap (λ (b : Bool). test y || b) (any_more test ys x) ∙ sym (or_assoc (test y) (list_any test ys) (test x))

none_more : {A : Type 0} (test : A → Bool) (xs : List A) (x : A) → list_any test xs ≡ false → test x ≡ false → list_any test (xs ++ x ∷ []) ≡ false
none_more test xs x none off = any_more test xs x ∙ ap (λ (b : Bool). b || test x) none ∙ off

pub unit_more : (u : ℕ) (es : List JournalRecord) (e : JournalRecord) → has_unit u es ≡ false → (e.unit == u) ≡ false → has_unit u (es ++ e ∷ []) ≡ false
unit_more u es e none off = none_more (is_of_unit u) es e none off

pub commit_more : (u : ℕ) (es : List JournalRecord) (e : JournalRecord) → has_commit u es ≡ false → ends_unit u e ≡ false → has_commit u (es ++ e ∷ []) ≡ false
commit_more u es e none off = none_more (ends_unit u) es e none off

pub entry_more : (u number at : ℕ) (es : List JournalRecord) (e : JournalRecord) → has_entry u number at es ≡ false → is_of_unit_for u number at e ≡ false → has_entry u number at (es ++ e ∷ []) ≡ false
entry_more u number at es e none off = none_more (is_of_unit_for u number at) es e none off

-- without an entry of a unit there is none that commits it, and none for an ordinal
none_then : {A : Type 0} (test less : A → Bool) (xs : List A) → ((x : A) → test x ≡ false → less x ≡ false) → list_any test xs ≡ false → list_any less xs ≡ false
none_then test less [] then none = refl
none_then test less (x ∷ xs) then none =
    ap (λ (b : Bool). b || list_any less xs) (then x (or_left (test x) (list_any test xs) none)) ∙ none_then test less xs then (or_right (test x) (list_any test xs) none)

pub unit_commits : (u : ℕ) (es : List JournalRecord) → has_unit u es ≡ false → has_commit u es ≡ false
unit_commits u es none = none_then (is_of_unit u) (ends_unit u) es (λ e off. ap (λ (b : Bool). is_commit e.kind && b) off ∙ and_nothing (is_commit e.kind)) none

pub unit_entries : (u number at : ℕ) (es : List JournalRecord) → has_unit u es ≡ false → has_entry u number at es ≡ false
unit_entries u number at es none = none_then (is_of_unit u) (is_of_unit_for u number at) es (λ e off. ap (λ (b : Bool). b && is_for number at e) off) none

-- ---- which units are committed

pub committed_more : (image u sequence : ℕ) (es : List JournalRecord) (e : JournalRecord) → is_committed image u sequence (es ++ e ∷ []) ≡ (is_committed image u sequence es || commits image u (sequence + length es) e)
unfolding is_committed
committed_more image u sequence [] e = or_nothing (commits image u sequence e) ∙ ap (λ (n : ℕ). commits image u n e) (omega arith)
committed_more image u sequence (d ∷ es) e =
    ap (λ (b : Bool). commits image u sequence d || b) (committed_more image u (sequence + 1) es e)
    ∙ sym (or_assoc (commits image u sequence d) (is_committed image u (sequence + 1) es) _)
    ∙ ap (λ (n : ℕ). (commits image u sequence d || is_committed image u (sequence + 1) es) || commits image u n e) (omega arith)

-- an entry that does not commit a unit does not commit it after an image either
pub not_after_image : (a b c : Bool) → (b && c) ≡ false → ((a && b) && c) ≡ false
not_after_image true b c off = off
not_after_image false b c off = refl

pub committed_never : (image u sequence : ℕ) (es : List JournalRecord) → has_commit u es ≡ false → is_committed image u sequence es ≡ false
unfolding is_committed
committed_never image u sequence [] none = refl
committed_never image u sequence (e ∷ es) none =
    ap (λ (b : Bool). b || is_committed image u (sequence + 1) es) (not_after_image (nat_lt image sequence) (is_commit e.kind) (e.unit == u) (or_left (ends_unit u e) (has_commit u es) none))
    ∙ committed_never image u (sequence + 1) es (or_right (ends_unit u e) (has_commit u es) none)

pub committed_same : (image u sequence : ℕ) (es : List JournalRecord) (e : JournalRecord) → ends_unit u e ≡ false → is_committed image u sequence (es ++ e ∷ []) ≡ is_committed image u sequence es
committed_same image u sequence es e off =
    committed_more image u sequence es e
    ∙ ap (λ (b : Bool). is_committed image u sequence es || b) (not_after_image (nat_lt image (sequence + length es)) (is_commit e.kind) (e.unit == u) off) ∙ or_nothing _

-- no entry comes after an image that counts all entries in
pub none_after_image : (image u sequence : ℕ) (es : List JournalRecord) → sequence + length es ≤ image + 1 → is_committed image u sequence es ≡ false
unfolding is_committed
none_after_image image u sequence [] le = refl
none_after_image image u sequence (e ∷ es) le =
    let test : nat_lt image sequence ≡ false = grind (arith, nat_tests, le) in
    rw test (none_after_image image u (sequence + 1) es (omega (arith, le)))

-- ---- one entry

module _ (which : EntryFilter) (fields : List Attr) (number at sequence : ℕ) (e : JournalRecord) (x : spaces.DataEntry) where
  pub elsewhere : is_for number at e ≡ false → entry_redone_at which fields number at sequence e x ≡ x
  elsewhere off = rw off refl

  pub uncounted : which sequence e.unit ≡ false → entry_redone_at which fields number at sequence e x ≡ x
  uncounted off = by (is_for number at e)
    where
      by : (b : Bool) → cond (b && which sequence e.unit) (change_redone_at e.kind fields at e.after x) x ≡ x
      by true = ap (λ (c : Bool). cond c (change_redone_at e.kind fields at e.after x) x) off
      by false = refl

  pub counted : is_for number at e ≡ true → which sequence e.unit ≡ true → entry_redone_at which fields number at sequence e x ≡ change_redone_at e.kind fields at e.after x
  counted is on = ap (λ (c : Bool). cond (c && which sequence e.unit) (change_redone_at e.kind fields at e.after x) x) is ∙ ap (λ (c : Bool). cond c (change_redone_at e.kind fields at e.after x) x) on

  -- the end of a unit changes nothing
  pub end_redone : is_end e.kind ≡ true → entry_redone_at which fields number at sequence e x ≡ x
  end_redone is = by e.kind is (is_for number at e && which sequence e.unit)
    where
      by : (kind : EntryKind) → is_end kind ≡ true → (b : Bool) → cond b (change_redone_at kind fields at e.after x) x ≡ x
      by Commit is true = refl
      by Decommit is true = refl
      by Insert is b = cc
      by Update is b = cc
      by Delete is b = cc
      by Commit is false = refl
      by Decommit is false = refl

-- ---- one entry more

pub redone_more : (which : EntryFilter) (fields : List Attr) (number at sequence : ℕ) (es : List JournalRecord) (e : JournalRecord) (x : spaces.DataEntry)
    → redone_at_from which fields number at sequence (es ++ e ∷ []) x ≡ entry_redone_at which fields number at (sequence + length es) e (redone_at_from which fields number at sequence es x)
unfolding redone_at_from
redone_more which fields number at sequence [] e x = ap (λ (n : ℕ). entry_redone_at which fields number at n e x) (omega arith)
redone_more which fields number at sequence (d ∷ es) e x =
    let y = entry_redone_at which fields number at sequence d x in
    redone_more which fields number at (sequence + 1) es e y
    ∙ ap (λ (n : ℕ). entry_redone_at which fields number at n e (redone_at_from which fields number at (sequence + 1) es y)) (omega arith)

-- ---- by another count

-- two counts agree at each entry for the ordinal
pub AllAlike : EntryFilter → EntryFilter → ℕ → ℕ → ℕ → List JournalRecord → Type 0
AllAlike f g number at sequence [] = Unit {0}
AllAlike f g number at sequence (e ∷ es) = (is_for number at e ≡ true → f sequence e.unit ≡ g sequence e.unit) × AllAlike f g number at (sequence + 1) es

one_alike : (f g : EntryFilter) (fields : List Attr) (number at sequence : ℕ) (e : JournalRecord) (x : spaces.DataEntry) → (is_for number at e ≡ true → f sequence e.unit ≡ g sequence e.unit)
    → entry_redone_at f fields number at sequence e x ≡ entry_redone_at g fields number at sequence e x
one_alike f g fields number at sequence e x same = by (is_for number at e) refl
  where
    by : (b : Bool) → is_for number at e ≡ b → cond (b && f sequence e.unit) (change_redone_at e.kind fields at e.after x) x ≡ cond (b && g sequence e.unit) (change_redone_at e.kind fields at e.after x) x
    by true is = ap (λ (c : Bool). cond c (change_redone_at e.kind fields at e.after x) x) (same is)
    by false is = refl

redone_alike : (f g : EntryFilter) (fields : List Attr) (number at sequence : ℕ) (es : List JournalRecord) (x : spaces.DataEntry) → AllAlike f g number at sequence es
    → redone_at_from f fields number at sequence es x ≡ redone_at_from g fields number at sequence es x
unfolding redone_at_from AllAlike
redone_alike f g fields number at sequence [] x same = refl
redone_alike f g fields number at sequence (e ∷ es) x same =
    ap (redone_at_from f fields number at (sequence + 1) es) (one_alike f g fields number at sequence e x same.0)
    ∙ redone_alike f g fields number at (sequence + 1) es (entry_redone_at g fields number at sequence e x) same.1

all_alike : (f g : EntryFilter) (number at sequence : ℕ) (es : List JournalRecord) → ((m u : ℕ) → f m u ≡ g m u) → AllAlike f g number at sequence es
unfolding AllAlike
all_alike f g number at sequence [] same = tt
all_alike f g number at sequence (e ∷ es) same = (λ is. same sequence e.unit, all_alike f g number at (sequence + 1) es same)

pub redone_same : (f g : EntryFilter) (fields : List Attr) (number at : ℕ) (es : List JournalRecord) (x : spaces.DataEntry) → ((m u : ℕ) → f m u ≡ g m u) → redone_at_from f fields number at 1 es x ≡ redone_at_from g fields number at 1 es x
redone_same f g fields number at es x same = redone_alike f g fields number at 1 es x (all_alike f g number at 1 es same)

-- a unit that has no entry for the ordinal may count or not
not_both : (a b : Bool) → (a && b) ≡ false → b ≡ true → a ≡ false
not_both true b off is = sym is ∙ off
not_both false b off is = refl

also_alike : (f : EntryFilter) (u number at sequence : ℕ) (es : List JournalRecord) → has_entry u number at es ≡ false → AllAlike (also f u) f number at sequence es
unfolding AllAlike
also_alike f u number at sequence [] none = tt
also_alike f u number at sequence (e ∷ es) none = (
  λ is. ap (λ (b : Bool). f sequence e.unit || b) (not_both (e.unit == u) (is_for number at e) (or_left (is_of_unit_for u number at e) (has_entry u number at es) none) is) ∙ or_nothing (f sequence e.unit),
  also_alike f u number at (sequence + 1) es (or_right (is_of_unit_for u number at e) (has_entry u number at es) none),
)

pub redone_beside : (f : EntryFilter) (fields : List Attr) (u number at : ℕ) (es : List JournalRecord) (x : spaces.DataEntry) → has_entry u number at es ≡ false
    → redone_at_from (also f u) fields number at 1 es x ≡ redone_at_from f fields number at 1 es x
redone_beside f fields u number at es x none = redone_alike (also f u) f fields number at 1 es x (also_alike f u number at 1 es none)

-- ---- where none counts

abbrev nothing : EntryFilter
nothing sequence unit = false

none_redone : (fields : List Attr) (number at sequence : ℕ) (es : List JournalRecord) (x : spaces.DataEntry) → redone_at_from nothing fields number at sequence es x ≡ x
unfolding redone_at_from
none_redone fields number at sequence [] x = refl
none_redone fields number at sequence (e ∷ es) x =
    ap (redone_at_from nothing fields number at (sequence + 1) es) (uncounted nothing fields number at sequence e x refl) ∙ none_redone fields number at (sequence + 1) es x

only_alike : (u number at sequence : ℕ) (es : List JournalRecord) → has_entry u number at es ≡ false → AllAlike (only_of_unit u) nothing number at sequence es
unfolding AllAlike
only_alike u number at sequence [] none = tt
only_alike u number at sequence (e ∷ es) none = (
  λ is. not_both (e.unit == u) (is_for number at e) (or_left (is_of_unit_for u number at e) (has_entry u number at es) none) is,
  only_alike u number at (sequence + 1) es (or_right (is_of_unit_for u number at e) (has_entry u number at es) none),
)

-- a unit without an entry for the ordinal makes nothing of it
pub only_none : (fields : List Attr) (u number at : ℕ) (es : List JournalRecord) (x : spaces.DataEntry) → has_entry u number at es ≡ false → redone_at_from (only_of_unit u) fields number at 1 es x ≡ x
only_none fields u number at es x none = redone_alike (only_of_unit u) nothing fields number at 1 es x (only_alike u number at 1 es none) ∙ none_redone fields number at 1 es x

-- ---- an image that counts all entries in

-- at each entry that is counted in
counted_alike : (f g : EntryFilter) (number at image sequence : ℕ) (es : List JournalRecord) → sequence + length es ≤ image + 1 → ((m u : ℕ) → m ≤ image → f m u ≡ g m u) → AllAlike f g number at sequence es
unfolding AllAlike
counted_alike f g number at image sequence [] le same = tt
counted_alike f g number at image sequence (e ∷ es) le same = (λ is. same sequence e.unit (omega (arith, le)), counted_alike f g number at image (sequence + 1) es (omega (arith, le)) same)

counts_nothing : (image : ℕ) (es : List JournalRecord) (m u : ℕ) → length es ≤ image → m ≤ image → counts image es m u ≡ false
counts_nothing image es m u all le = by (u == 0)
  where
    by : (b : Bool) → cond b (nat_lt image m) (is_committed image u 1 es) ≡ false
    by true = grind (arith, nat_tests, le)
    by false = none_after_image image u 1 es (omega (arith, all))

pub settled_redone : (image : ℕ) (fields : List Attr) (number at : ℕ) (es : List JournalRecord) (x : spaces.DataEntry) → length es ≤ image → redone_at_from (counts image es) fields number at 1 es x ≡ x
settled_redone image fields number at es x all =
    redone_alike (counts image es) nothing fields number at 1 es x (counted_alike (counts image es) nothing number at image 1 es (omega (arith, all)) (λ m u le. counts_nothing image es m u all le))
    ∙ none_redone fields number at 1 es x

pub settled_also : (image u : ℕ) (fields : List Attr) (number at : ℕ) (es : List JournalRecord) (x : spaces.DataEntry) → length es ≤ image
    → redone_at_from (also (counts image es) u) fields number at 1 es x ≡ redone_at_from (only_of_unit u) fields number at 1 es x
settled_also image u fields number at es x all =
    redone_alike (also (counts image es) u) (only_of_unit u) fields number at 1 es x
    (counted_alike (also (counts image es) u) (only_of_unit u) number at image 1 es (omega (arith, all)) (λ m v le. ap (λ (b : Bool). b || (v == u)) (counts_nothing image es m v all le)))

-- ---- one entry more, by those that count then

-- an entry that commits no unit leaves which units count
pub counts_same : (image : ℕ) (es : List JournalRecord) (e : JournalRecord) → is_commit e.kind ≡ false → (m u : ℕ) → counts image (es ++ e ∷ []) m u ≡ counts image es m u
counts_same image es e none m u = ap (λ (b : Bool). cond (u == 0) (nat_lt image m) b) (committed_same image u 1 es e (ap (λ (b : Bool). b && (e.unit == u)) none))

pub counted_more : (image : ℕ) (fields : List Attr) (number at : ℕ) (es : List JournalRecord) (e : JournalRecord) (x : spaces.DataEntry) → is_commit e.kind ≡ false
    → redone_at_from (counts image (es ++ e ∷ [])) fields number at 1 (es ++ e ∷ []) x ≡ entry_redone_at (counts image es) fields number at (1 + length es) e (redone_at_from (counts image es) fields number at 1 es x)
counted_more image fields number at es e x none =
    redone_same (counts image (es ++ e ∷ [])) (counts image es) fields number at (es ++ e ∷ []) x (counts_same image es e none) ∙ redone_more (counts image es) fields number at 1 es e x

pub also_more : (image u : ℕ) (fields : List Attr) (number at : ℕ) (es : List JournalRecord) (e : JournalRecord) (x : spaces.DataEntry) → is_commit e.kind ≡ false
    → redone_at_from (also (counts image (es ++ e ∷ [])) u) fields number at 1 (es ++ e ∷ []) x
    ≡ entry_redone_at (also (counts image es) u) fields number at (1 + length es) e (redone_at_from (also (counts image es) u) fields number at 1 es x)
also_more image u fields number at es e x none =
    redone_same (also (counts image (es ++ e ∷ [])) u) (also (counts image es) u) fields number at (es ++ e ∷ []) x (λ m v. ap (λ (b : Bool). b || (v == u)) (counts_same image es e none m v))
    ∙ redone_more (also (counts image es) u) fields number at 1 es e x

-- ---- a unit is committed

-- after an image its entries count too
pub counts_committed : (image : ℕ) (es : List JournalRecord) (e : JournalRecord) → image ≤ length es → is_commit e.kind ≡ true → (e.unit == 0) ≡ false → (m u : ℕ) → counts image (es ++ e ∷ []) m u ≡ also (counts image es) e.unit m u
counts_committed image es e within is some m u = by (u == 0) refl
  where
    behind : nat_lt image (1 + length es) ≡ true
    behind = grind (arith, nat_tests, within)

    turned : (e.unit == u) ≡ (u == e.unit)
    turned = swap e.unit u
      where
        swap : (a b : ℕ) → (a == b) ≡ (b == a)
        swap a b = grind (arith, nat_tests)

    other : (a b : ℕ) → (b == 0) ≡ true → (a == 0) ≡ false → (b == a) ≡ false
    other a b p q = grind (arith, nat_tests)

    by : (b : Bool) → (u == 0) ≡ b → cond b (nat_lt image m) (is_committed image u 1 (es ++ e ∷ [])) ≡ (cond b (nat_lt image m) (is_committed image u 1 es) || (u == e.unit))
    by true zero_is = sym (ap (λ (c : Bool). nat_lt image m || c) (other e.unit u zero_is some) ∙ or_nothing (nat_lt image m))
    by false is_some =
        committed_more image u 1 es e ∙ ap (λ (c : Bool). is_committed image u 1 es || ((c && is_commit e.kind) && (e.unit == u))) behind
        ∙ ap (λ (c : Bool). is_committed image u 1 es || (c && (e.unit == u))) is ∙ ap (λ (c : Bool). is_committed image u 1 es || c) turned

pub commit_redone : (image : ℕ) (fields : List Attr) (number at : ℕ) (es : List JournalRecord) (e : JournalRecord) (x : spaces.DataEntry) → image ≤ length es → is_commit e.kind ≡ true → is_end e.kind ≡ true → (e.unit == 0) ≡ false
    → redone_at_from (counts image (es ++ e ∷ [])) fields number at 1 (es ++ e ∷ []) x ≡ redone_at_from (also (counts image es) e.unit) fields number at 1 es x
commit_redone image fields number at es e x within is ends some =
    redone_same (counts image (es ++ e ∷ [])) (also (counts image es) e.unit) fields number at (es ++ e ∷ []) x (counts_committed image es e within is some)
    ∙ redone_more (also (counts image es) e.unit) fields number at 1 es e x
    ∙ end_redone (also (counts image es) e.unit) fields number at (1 + length es) e _ ends

or_swap : (a b c : Bool) → ((a || b) || c) ≡ ((a || c) || b)
or_swap true b c = refl
or_swap false true true = refl
or_swap false true false = refl
or_swap false false true = refl
or_swap false false false = refl

pub commit_also : (image u : ℕ) (fields : List Attr) (number at : ℕ) (es : List JournalRecord) (e : JournalRecord) (x : spaces.DataEntry) → image ≤ length es → is_commit e.kind ≡ true → is_end e.kind ≡ true → (e.unit == 0) ≡ false
    → redone_at_from (also (counts image (es ++ e ∷ [])) u) fields number at 1 (es ++ e ∷ []) x ≡ redone_at_from (also (also (counts image es) u) e.unit) fields number at 1 es x
commit_also image u fields number at es e x within is ends some =
    let f = counts image es in
    redone_same (also (counts image (es ++ e ∷ [])) u) (also (also f u) e.unit) fields number at (es ++ e ∷ []) x
    (λ m v. ap (λ (b : Bool). b || (v == u)) (counts_committed image es e within is some m v) ∙ or_swap (f m v) (v == e.unit) (v == u))
    ∙ redone_more (also (also f u) e.unit) fields number at 1 es e x
    ∙ end_redone (also (also f u) e.unit) fields number at (1 + length es) e _ ends
