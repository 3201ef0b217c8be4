-- What is written of a change in the journal has room, and where the journal space of a port is.
use Rattle.std.proofs.Common.{◌*◌, ◌+◌, ◌==◌, ◌∙◌, ◌∷◌, ◌≡◌, ◌≤◌, Bool, List, [], ap, arith, cond, false, length, max, refl, subst, sym, true, ℕ}
use Rattle.std.proofs.lemmas.Bool.Decides.{nat_tests}
use Rattle.std.proofs.lemmas.Bool.{and_parts}
use Rattle.std.proofs.lemmas.List.{length-append}
use Rattle.std.specs.List.{list_all}
use Rattle.std.specs.Prelude.{◌||◌, None, Option, Some, is_some, nat_le, not}
use Rattle.s38_base.specs.declared.attr.Attr.{Attr}
use Rattle.s38_commits.proofs.MapLaws.{nat_same}
use Rattle.s38_commits.specs.Changes.{entry_size, journal_bytes}
use Rattle.s38_commits.specs.declared.change.UnitChange.{UnitChange}
use Rattle.s38_dataspaces.specs.Entries as spaces
use Rattle.s38_dataspaces.specs.Table.{are_fields, entry_len, is_field}
use Rattle.s38_dataspaces.specs.Values.{have_values}
use Rattle.s38_journals.specs.Entries as journal_entries
use Rattle.s38_journals.specs.Entries.{JournalRecord, is_end}
use Rattle.s38_journals.specs.Journals.{JournalList, appended, bytes_wanted, can_write, journal_with_room}
use Rattle.s38_rules.specs.families.Changing.{bytes_or_none, change_entry, kind_between, with_change_logged}
use Rattle.s38_rules.specs.state.Held.{Held}
use Rattle.s38_rules.specs.state.Journaling.{data_port_in, is_journal, journal_for, journal_named, journal_of_port}
use Rattle.s38_rules.specs.state.Parts.{data_part, part_at, part_in, port_part}
use Rattle.s38_rules.specs.declared.data_body.DataBody.{DataBody}
use Rattle.s38_rules.specs.declared.port.Port.{Port}
use Rattle.std.proofs.lemmas.Option.{none-some}
use Rattle.s38_laws_units.proofs.EndLaws.{le_holds}
use Rattle.s38_laws_units.proofs.KeptLaws.{both_hold}
use Rattle.s38_laws_units.specs.Right.{IsEntryOf, IsUnused}

le_tells : (a b : ℕ) → nat_le a b ≡ true → a ≤ b
le_tells a b e = grind (arith, nat_tests)

pub bytes_short : (fields : List Attr) (entry : spaces.DataEntry) → are_fields fields ≡ true → IsEntryOf fields entry → length (bytes_or_none entry) ≤ 4096
bytes_short fields None fit is = omega arith
bytes_short fields (Some bytes) fit is =
    let parts = and_parts (list_all is_field fields) _ fit in
    let more = and_parts (nat_le 1 (length fields)) _ parts.1 in
    let last = and_parts (nat_le (length fields) 256) (nat_le (entry_len fields) 4096) more.1 in
    let same = and_parts (length bytes == entry_len fields) (have_values fields bytes) is in
    omega (arith, le_tells (entry_len fields) 4096 last.1, nat_same (length bytes) (entry_len fields) same.0)

no_end : (before after : spaces.DataEntry) → is_end (kind_between before after) ≡ false
no_end None after = refl
no_end (Some bytes) None = refl
no_end (Some bytes) (Some others) = refl

bytes_count : (entry : spaces.DataEntry) → entry_size entry ≡ length (bytes_or_none entry)
bytes_count None = refl
bytes_count (Some bytes) = refl

pub entry_takes : (number p : ℕ) (change : UnitChange) → journal_entries.journal_entry_len (change_entry number p change) ≡ journal_bytes change
entry_takes number p change = omega (arith, bytes_count change.before, bytes_count change.after)

pub change_may : (number p units : ℕ) (change : UnitChange) (journal : JournalList) → number ≤ length journal.entries + 1 → length (bytes_or_none change.before) ≤ 4096 → length (bytes_or_none change.after) ≤ 4096
    → can_write (journal_with_room journal (journal_bytes change) units) (change_entry number p change) ≡ true
change_may number p units change journal low before after =
    let entry = change_entry number p change in
    both_hold _ _ (both_hold _ _ (both_hold _ _ (le_holds number (length journal.entries + 1) low) (not_end (is_end entry.kind) _ (no_end change.before change.after)))
    (both_hold _ _ (le_holds (length entry.before) 65535 (omega (arith, before))) (le_holds (length entry.after) 65535 (omega (arith, after)))))
    (le_holds (journal_entries.journal_entry_len entry) (max journal.spare (bytes_wanted (journal_bytes change) units)) (omega (arith, entry_takes number p change)))
  where
    not_end : (a b : Bool) → a ≡ false → (not a || b) ≡ true
    not_end a b off = rw off refl

-- there is room for the ends of the units that are open then
pub logged_room : (bytes units : ℕ) (entry : JournalRecord) (journal : JournalList) → journal_entries.journal_entry_len entry ≡ bytes → 41 * units ≤ (with_change_logged bytes units entry journal).spare
logged_room bytes units entry journal len = by (can_write (journal_with_room journal bytes units) entry)
  where
    by : (b : Bool) → 41 * units ≤ (cond b (appended (journal_with_room journal bytes units) entry) (journal_with_room journal bytes units)).spare
    by true = omega (arith, len)
    by false = omega arith

pub logged_grows : (bytes units : ℕ) (entry : JournalRecord) (journal : JournalList) → length journal.entries ≤ length (with_change_logged bytes units entry journal).entries
logged_grows bytes units entry journal = by (can_write (journal_with_room journal bytes units) entry)
  where
    by : (b : Bool) → length journal.entries ≤ length (cond b (appended (journal_with_room journal bytes units) entry) (journal_with_room journal bytes units)).entries
    by true = omega (arith, length-append journal.entries (entry ∷ []))
    by false = omega arith

pub behind_same : (h k : Held) (port : ℕ) → part_at port_part k port ≡ part_at port_part h port → ((n : ℕ) → is_journal k n ≡ is_journal h n) → journal_of_port k port ≡ journal_of_port h port
behind_same h k port same there = ap (journal_named k) same ∙ by (part_at port_part h port)
  where
    by : (x : Option Port) → journal_named k x ≡ journal_named h x
    by None = refl
    by (Some p) = ap (λ b. cond b (Some p.journal.0) None) (there p.journal.0)

-- a journaled data space is there
pub journaled_there : (h : Held) (space journal : ℕ) → IsUnused h → journal_for h space ≡ Some journal → is_some (part_at data_part h space) ≡ true
journaled_there h space journal unused is = by (part_at data_part h space) is
  where
    by : (x : Option DataBody) → journal_of_port h (data_port_in x) ≡ Some journal → is_some x ≡ true
    by None is = absurd (none-some journal (sym (ap (λ r. journal_named h (part_in port_part r)) unused.none) ∙ is))
    by (Some d) is = refl

pub journal_there : (h : Held) (port journal : ℕ) → journal_of_port h port ≡ Some journal → is_journal h journal ≡ true
journal_there h port journal is = by (part_at port_part h port) is
  where
    there : (b : Bool) (n : ℕ) → is_journal h n ≡ b → cond b (Some n) None ≡ Some journal → is_journal h journal ≡ true
    there true n at e = let same : n ≡ journal = cc in subst (λ (m : ℕ). is_journal h m ≡ true) same at
    there false n at e = cc

    by : (x : Option Port) → journal_named h x ≡ Some journal → is_journal h journal ≡ true
    by None is = cc
    by (Some p) is = there (is_journal h p.journal.0) p.journal.0 refl is
