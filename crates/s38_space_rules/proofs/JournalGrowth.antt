-- How many new parts a journal space needs: where a unit is committed, and where an entry is changed.
use Rattle.std.proofs.Common.{◌≡◌, ℕ, ◌+◌, ◌-◌, ◌==◌, Bool, true, false, cond, List, [], ◌∷◌, length, refl, sym, ◌∙◌, ap, subst, arith}
use Rattle.std.proofs.lemmas.List.Sums.{sum_by-append, sum_by-cons}
use Rattle.std.specs.List.{list_any}
use Rattle.std.specs.Option.{option_map}
use Rattle.std.specs.Prelude.{◌&&◌, Option, Some, None, nat_le, nat_lt}
use Rattle.s38_commits.specs.declared.change.UnitChange.{UnitChange}
use Rattle.s38_commits.specs.Changes.{entry_size, journal_bytes}
use Rattle.s38_commits.specs.Unit.{CommitUnit}
use Rattle.s38_dataspaces.specs.Table.{DataTable}
use Rattle.s38_journals.specs.declared.entry.EntryKind.TheVariants as entry_kinds
use Rattle.s38_journals.specs.Entries.{JournalRecord, journal_entry_len}
use Rattle.s38_journals.specs.Journals.{JournalList, appended, entries_len, journal_with}
use Rattle.s38_rules.proofs.ChargeLaws.{found_number, object_changed}
use Rattle.s38_rules.specs.declared.data_body.DataBody.{DataBody}
use Rattle.s38_rules.specs.declared.object.Body.{Body}
use Rattle.s38_rules.specs.declared.object.Body.TheVariants as bodies
use Rattle.s38_rules.specs.declared.object.Object.{Object}
use Rattle.s38_rules.specs.families.Changes.{Entered, done}
use Rattle.s38_rules.specs.families.Changing.{change_entry, logged, next_sequence, number_for, with_change_logged}
use Rattle.s38_rules.specs.store.Forcing.{Forced, Whole, is_whole, most_unforced, new_parts_of, overdue, whole_if}
use Rattle.s38_rules.specs.state.Held.{Held, change, object}
use Rattle.s38_rules.specs.state.Journaling.{journal_for, journal_for_block, open_after}
use Rattle.s38_rules.specs.state.Parts.{data_part, journal_of, journal_part, over_body, over_object, over_part, part_at, part_in}
use Rattle.s38_rules.specs.state.PartsAt.{journal_at, on_journal, on_table, over_table}
use Rattle.s38_rules.specs.state.LawfulParts.{journal_lawful}
use Rattle.s38_rules.specs.store.Room.{Room}
use Rattle.s38_rules.specs.state.State.{State}
use Rattle.s38_rules.specs.families.Units.{end_entry, end_written, journal_with_entry}
use Rattle.s38_space_rules.proofs.LoggingLaws.{block_journal_there, journal_there, length_grown, unforced_after}
use Rattle.s38_space_rules.proofs.SumLaws.{at_object, counted}
use Rattle.s38_space_rules.specs.Growing.{end_bytes, end_growth, entered_growth, whole_growth}
use Rattle.s38_space_rules.specs.Logging.{change_growth}
use Rattle.s38_space_rules.proofs.ObjectGrowth.{object_itself, first_whole}

-- the object of a number is a journal space with these entries
pub record IsJournalAt (h : Held) (j : ℕ) (journal : JournalList) (o : Object) : Type 0 where
  pub found : object h j ≡ Some o
  pub body : o.body ≡ bodies.Journal journal

journal_body : (b : Body) (x : JournalList) → journal_of b ≡ Some x → b ≡ bodies.Journal x
journal_body b x h = journal_lawful.back b x h

-- where there is one
with_journal : (h : Held) (j : ℕ) (journal : JournalList) (a b : ℕ) → part_at journal_part h j ≡ Some journal → ((o : Object) → IsJournalAt h j journal o → a ≡ b) → a ≡ b
with_journal h j journal a b there same = by (object h j) refl there
  where
    apart : ◌≡◌ {A = Option JournalList} None (Some journal) → ⊥
    apart e = cc

    by : (y : Option Object) → object h j ≡ y → part_in journal_part y ≡ Some journal → a ≡ b
    by None found e = absurd (apart e)
    by (Some o) found e = same o (record { found = found; body = journal_body o.body journal e })

abbrev journal_object : Object → JournalList → Object
journal_object o journal = record o { body = bodies.Journal journal }

written_found : (h : Held) (j : ℕ) (journal : JournalList) (o : Object) (f : JournalList → JournalList) → IsJournalAt h j journal o → object (on_journal h j f) j ≡ Some (journal_object o (f journal))
written_found h j journal o f is = object_itself h j (over_object journal_part f) (λ x. refl) ∙ rw (is.found, is.body) refl

-- a data space is no journal space
journal_left : (h : Held) (j n : ℕ) (x : Object) (journal : JournalList) (f : DataBody → DataBody) → object h j ≡ Some x → x.body ≡ bodies.Journal journal → object (over_part data_part h n f) j ≡ Some x
journal_left h j n x journal f found body = object_changed n j (over_object data_part f) h.objects (λ o. refl) ∙ by (n == j)
  where
    same : record x { body = over_body data_part f x.body } ≡ x
    same = ap (λ (b : Body). record x { body = b }) (rw body refl)

    by : (b : Bool) → cond b (option_map (over_object data_part f) (object h j)) (object h j) ≡ Some x
    by true = rw found (ap (λ (o : Object). Some o) same)
    by false = found

-- the parts of a journal space that is kept whole
journal_new : (room : Room) (all : List Forced) (j more : ℕ) (o : Object) (before after : JournalList) → o.number.0 ≡ j → list_any (is_whole j) all ≡ true → o.body ≡ bodies.Journal before → entries_len after.entries ≡ entries_len before.entries + more
    → new_parts_of room all (journal_object o after) ≡ whole_growth room.extents more (Some o)
journal_new room all j more o before after number whole body grown =
    rw (subst (λ (k : ℕ). list_any (is_whole k) all ≡ true) (sym number) whole, body, grown) refl

end_grown : (j : JournalList) (p : ℕ) (unit : CommitUnit) → entries_len (journal_with j (end_entry entry_kinds.Commit p unit)).entries ≡ entries_len j.entries + end_bytes unit.number j
end_grown j p unit = can (nat_le unit.number (length j.entries + 1)) refl
  where
    entry : JournalRecord
    entry = end_entry entry_kinds.Commit p unit

    one : entries_len (entry ∷ []) ≡ 41
    one = sum_by-cons journal_entry_len entry []

    by : (b : Bool) → entries_len (cond b (appended j entry) j).entries ≡ entries_len j.entries + cond b 41 0
    by true = sum_by-append journal_entry_len j.entries (entry ∷ []) ∙ ap (λ (n : ℕ). entries_len j.entries + n) one
    by false = omega arith

    can : (a : Bool) → nat_le unit.number (length j.entries + 1) ≡ a
        → entries_len (cond (((nat_le unit.number (length j.entries + 1) && true) && true) && nat_le 41 j.spare) (appended j entry) j).entries ≡ entries_len j.entries + cond (nat_le unit.number (length j.entries + 1) && nat_le 41 j.spare) 41 0
    can true is = rw is (by (nat_le 41 j.spare))
    can false is = rw is (by false)

pub committed_counted : (room : Room) (s : State) (p block : ℕ) (unit : CommitUnit) (j : Option ℕ) → journal_for_block s.held block ≡ j
    → counted (new_parts_of room (whole_if j)) (end_written s.held j (end_entry entry_kinds.Commit p unit)).objects (whole_if j) ≡ end_growth room.extents s.held unit.number j
committed_counted room s p block unit None e = refl
committed_counted room s p block unit (Some j) e = let one = here in omega (arith, one)
  where
    journal : JournalList
    journal = journal_at s.held j

    entry : JournalRecord
    entry = end_entry entry_kinds.Commit p unit

    here : at_object (new_parts_of room (Whole j ∷ [])) (object (on_journal s.held j (journal_with_entry entry)) j) ≡ whole_growth room.extents (end_bytes unit.number journal) (object s.held j)
    here = with_journal s.held j journal _ _ (block_journal_there s.held block j e) (λ o is.
        ap (at_object (new_parts_of room (Whole j ∷ []))) (written_found s.held j journal o (journal_with_entry entry) is)
        ∙ journal_new room (Whole j ∷ []) j (end_bytes unit.number journal) o journal (journal_with journal entry) (found_number j o s.held.objects is.found) (first_whole j []) is.body (end_grown journal p unit)
        ∙ sym (ap (whole_growth room.extents (end_bytes unit.number journal)) is.found))

-- the objects after it
entered_state : (s : State) (p block : ℕ) (change : UnitChange) (f : DataTable → DataTable) (j : ℕ) → journal_for s.held change.space.0 ≡ Some j
    → (done s p (Entered block change f)).held
    ≡ on_table (on_journal s.held j (with_change_logged (journal_bytes change) (open_after s.held s.units j block) (change_entry (number_for s.units block (next_sequence (journal_at s.held j))) p change))) change.space.0 f
unfolding logged
entered_state s p block change f j e = rw e refl

pub entered_counted : (room : Room) (s : State) (p block : ℕ) (change : UnitChange) (f : DataTable → DataTable) (x : Option ℕ) → journal_for s.held change.space.0 ≡ x
    → counted (new_parts_of room (overdue (done s p (Entered block change f)).held x)) (done s p (Entered block change f)).held.objects (overdue (done s p (Entered block change f)).held x)
    ≡ entered_growth room.extents s block (entry_size change.before) (entry_size change.after) x
entered_counted room s p block change f None e = refl
entered_counted room s p block change f (Some j) e = rw (unforced_after s p block change f j e) (by (nat_lt most_unforced ((journal_at s.held j).unforced + more)))
  where
    journal : JournalList
    journal = journal_at s.held j

    more : ℕ
    more = change_growth s block j (entry_size change.before) (entry_size change.after)

    number : ℕ
    number = number_for s.units block (next_sequence journal)

    grows : JournalList → JournalList
    grows = with_change_logged (journal_bytes change) (open_after s.held s.units j block) (change_entry number p change)

    changed : Held
    changed = on_table (on_journal s.held j grows) change.space.0 f

    state : (done s p (Entered block change f)).held ≡ changed
    state = entered_state s p block change f j e

    here : at_object (new_parts_of room (Whole j ∷ [])) (object changed j) ≡ whole_growth room.extents more (object s.held j)
    here = with_journal s.held j journal _ _ (journal_there s.held change.space.0 j e) (λ o is.
        ap (at_object (new_parts_of room (Whole j ∷ [])))
        (journal_left (on_journal s.held j grows) j change.space.0 (journal_object o (grows journal)) (grows journal) (over_table f) (written_found s.held j journal o grows is) refl)
        ∙ journal_new room (Whole j ∷ []) j more o journal (grows journal) (found_number j o s.held.objects is.found) (first_whole j []) is.body
        (length_grown journal number p (open_after s.held s.units j block) change)
        ∙ sym (ap (whole_growth room.extents more) is.found))

    there : at_object (new_parts_of room (Whole j ∷ [])) (object (done s p (Entered block change f)).held j) ≡ whole_growth room.extents more (object s.held j)
    there = ap (λ (h : Held). at_object (new_parts_of room (Whole j ∷ [])) (object h j)) state ∙ here

    by : (b : Bool) → counted (new_parts_of room (cond b (Whole j ∷ []) [])) (done s p (Entered block change f)).held.objects (cond b (Whole j ∷ []) []) ≡ cond b (whole_growth room.extents more (object s.held j)) 0
    by true = omega (arith, there)
    by false = refl
