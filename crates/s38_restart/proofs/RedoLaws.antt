-- Entries one after another, and the marks of the units that they commit.
use Rattle.std.proofs.Common.{◌≡◌, ℕ, zero, suc, ◌+◌, ◌-◌, ◌<◌, ◌≤◌, ◌==◌, ◌&&◌, ◌||◌, Bool, true, false, List, [], ◌∷◌, length, drop, set, get_or, arith, refl, sym, ap, subst, ◌∙◌}
use Rattle.std.specs.Prelude.{Option, Some, None, option_map, slice_get}
use Rattle.std.proofs.lemmas.List.{get_or-set_same, get_or-set_other, at_drop_all, length-append}
use Rattle.std.proofs.lemmas.Bool.{eqb-true}
use Rattle.std.proofs.lemmas.Bool.Decides.{nat_tests}
use Rattle.s38_dataspaces.specs.Table.{DataTable, inserted_deleted}
use Rattle.s38_journals.specs.Entries.{JournalRecord, fits_head, logged_entry, may_be_at}
use Rattle.s38_journals.specs.declared.entry.JournalEntry.{JournalEntry}
use Rattle.s38_journals.specs.Journals.{journal_entry_at, may_all_be_from}
use Rattle.s38_restart.specs.Redo.{commits, entry_redone, is_committed, redone_from, with_deleted}

next_place : (n : ℕ) → suc (n + 1) ≡ suc n + 1
next_place n = omega arith

-- the entry at a place comes before those after it
pub found_first : {A : Type 0} (xs : List A) (at : ℕ) (x : A) → slice_get xs at ≡ Some x → drop at xs ≡ x ∷ drop (at + 1) xs
found_first [] at x e = absurd cc
found_first (y ∷ xs) zero x e = cc
found_first (y ∷ xs) (suc n) x e = found_first xs n x e ∙ ap (λ (k : ℕ). x ∷ drop k (y ∷ xs)) (next_place n)

pub found_none : {A : Type 0} (xs : List A) (at : ℕ) → slice_get xs at ≡ None → length xs ≤ at
found_none [] at e = omega arith
found_none (y ∷ xs) zero e = absurd cc
found_none (y ∷ xs) (suc n) e = let h = found_none xs n e in omega arith

-- the entry of the sequence after a place
entry_next : (es : List JournalRecord) (at : ℕ) → journal_entry_at es (at + 1) ≡ slice_get es at
entry_next es at =
    let next : at + 1 ≡ suc at = omega arith in
    ap (journal_entry_at es) next

pub found_entry : (es : List JournalRecord) (at : ℕ) (r : Option JournalEntry) (e : JournalEntry) → option_map logged_entry r ≡ journal_entry_at es (at + 1) → r ≡ Some e → slice_get es at ≡ Some (logged_entry e)
found_entry es at r e got is = sym (entry_next es at) ∙ sym got ∙ ap (option_map logged_entry) is

pub no_entry : (es : List JournalRecord) (at : ℕ) (r : Option JournalEntry) → option_map logged_entry r ≡ journal_entry_at es (at + 1) → r ≡ None → length es ≤ at
no_entry es at r got is = found_none es at (sym (entry_next es at) ∙ sym got ∙ ap (option_map logged_entry) is)

-- one ordinal more, and then the others
pub deleted_next : (t : DataTable) (at : ℕ) → length t.entries < at → with_deleted (inserted_deleted t) (at - length (inserted_deleted t).entries) ≡ with_deleted t (at - length t.entries)
unfolding with_deleted
deleted_next t at h =
    let left : at - length t.entries ≡ suc (at - length (inserted_deleted t).entries) = omega (arith, h, length-append t.entries (None ∷ [])) in
    sym (ap (with_deleted t) left)

pub deleted_all : (t : DataTable) (at : ℕ) → at ≤ length t.entries → with_deleted t (at - length t.entries) ≡ t
unfolding with_deleted
deleted_all t at h =
    let none : at - length t.entries ≡ 0 = omega (arith, h) in
    ap (with_deleted t) none

-- no entry is left
pub redone_all : (number image at : ℕ) (all : List JournalRecord) (t : DataTable) → length all ≤ at → redone_from number image all (at + 1) (drop at all) t ≡ t
unfolding redone_from
redone_all number image at all t h = at_drop_all (λ (es : List JournalRecord). redone_from number image all (at + 1) es t) all at h

-- one entry, and then the others
pub redone_next : (number image at : ℕ) (all : List JournalRecord) (e : JournalRecord) (t : DataTable) → slice_get all at ≡ Some e
    → redone_from number image all (at + 1 + 1) (drop (at + 1) all) (entry_redone number image all (at + 1) e t) ≡ redone_from number image all (at + 1) (drop at all) t
unfolding redone_from
redone_next number image at all e t h = rw (found_first all at e h) refl

pub committed_next : (image unit at : ℕ) (all : List JournalRecord) (e : JournalRecord) → slice_get all at ≡ Some e
    → is_committed image unit (at + 1) (drop at all) ≡ (commits image unit (at + 1) e || is_committed image unit (at + 1 + 1) (drop (at + 1) all))
unfolding is_committed
committed_next image unit at all e h = rw (found_first all at e h) refl

-- ---- marks

turned : (a b c : Bool) → ((a || b) || c) ≡ (b || (a || c))
turned true true c = refl
turned true false c = refl
turned false b c = refl

pub marked_next : (image unit at : ℕ) (all : List JournalRecord) (e : JournalRecord) (new old : Bool) → slice_get all at ≡ Some e → new ≡ (commits image unit (at + 1) e || old)
    → (new || is_committed image unit (at + 1 + 1) (drop (at + 1) all)) ≡ (old || is_committed image unit (at + 1) (drop at all))
marked_next image unit at all e new old h m =
    let rest = is_committed image unit (at + 1 + 1) (drop (at + 1) all) in
    ap (λ (b : Bool). b || rest) m ∙ turned (commits image unit (at + 1) e) old rest ∙ ap (λ (b : Bool). old || b) (sym (committed_next image unit at all e h))

or_false : (b : Bool) → (b || false) ≡ b
or_false true = refl
or_false false = refl

pub marked_all : (image unit at : ℕ) (all : List JournalRecord) (b c : Bool) → length all ≤ at → (b || is_committed image unit (at + 1) (drop at all)) ≡ c → b ≡ c
unfolding is_committed
marked_all image unit at all b c h m =
    let none : is_committed image unit (at + 1) (drop at all) ≡ false = at_drop_all (is_committed image unit (at + 1)) all at h in
    sym (or_false b) ∙ sym (ap (λ (r : Bool). b || r) none) ∙ m

-- a unit is at most the sequence of its entry
stands_left : (a b c : Bool) → ((a && b) && c) ≡ true → a ≡ true
stands_left true b c h = refl
stands_left false b c h = cc

stands_rest : (a b : Bool) → (a && b) ≡ true → b ≡ true
stands_rest true b h = h
stands_rest false b h = cc

unit_of : (sequence : ℕ) (e : JournalRecord) → may_be_at sequence e ≡ true → e.unit ≤ sequence
unit_of sequence e h = grind (arith, nat_tests, h)

pub unit_within : (sequence at : ℕ) (es : List JournalRecord) (e : JournalRecord) → may_all_be_from sequence es ≡ true → slice_get es at ≡ Some e → e.unit ≤ sequence + at
unit_within sequence at [] e all h = absurd cc
unit_within sequence zero (x ∷ es) e all h =
    let own = unit_of sequence x (stands_left (may_be_at sequence x) (fits_head x) (may_all_be_from (suc sequence) es) all) in
    let same : x ≡ e = cc in
    subst (λ (y : JournalRecord). y.unit ≤ sequence + 0) same (omega (arith, own))
unit_within sequence (suc k) (x ∷ es) e all h =
    let later = unit_within (suc sequence) k es e (stands_rest (may_be_at sequence x && fits_head x) (may_all_be_from (suc sequence) es) all) h in
    omega (arith, later)
