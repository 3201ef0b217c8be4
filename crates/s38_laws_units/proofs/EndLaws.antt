-- Units stay right where one of them ends: the end is written, and what is taken back is put back.
use Rattle.std.proofs.Common.{◌*◌, ◌+◌, ◌-◌, ◌==◌, ◌∙◌, ◌∷◌, ◌≡◌, ◌≤◌, Bool, List, [], ap, arith, cond, false, length, refl, subst, sym, true, ℕ}
use Rattle.std.proofs.lemmas.Bool.Decides.{nat_tests}
use Rattle.std.proofs.lemmas.Bool.{cond_both, false≢true}
use Rattle.std.proofs.lemmas.List.Elements.{All-head, All-set, All-tail}
use Rattle.std.proofs.lemmas.List.{length-append, length-set}
use Rattle.std.specs.Option.{option_map, unwrap_or}
use Rattle.std.specs.Prelude.{◌&&◌, ◌||◌, All, None, Option, Some, is_some, nat_le, not}
use Rattle.s38_commits.proofs.MapLaws.{nat_itself, nat_same}
use Rattle.s38_commits.specs.Unit.{CommitUnit}
use Rattle.s38_commits.specs.Units.{BlocksRise, UnitMap, ended, unit_of}
use Rattle.s38_commits.specs.declared.change.UnitChange.{UnitChange}
use Rattle.s38_dataspaces.specs.Table.{may_restore, with_entry_changed}
use Rattle.s38_journals.specs.Entries.{JournalRecord, is_end, journal_entry_len}
use Rattle.s38_journals.specs.Journals.{JournalList, appended, can_write, forced, journal_with}
use Rattle.s38_journals.specs.declared.entry.EntryKind.TheVariants as entry_kinds
use Rattle.s38_journals.specs.declared.entry.EntryKind.{EntryKind}
use Rattle.s38_rules.proofs.PartLaws.{part_apart}
use Rattle.s38_rules.specs.state.Held.{Held}
use Rattle.s38_rules.specs.state.Journaling.{is_that_number, journal_for_block, open_units, unit_goes_to}
use Rattle.s38_rules.specs.state.Parts.{block_of, block_part, data_of, data_part, journal_of, journal_part, over_body, part_at, port_of, port_part}
use Rattle.s38_rules.specs.state.PartsAt.{journal_at, no_journal, on_data, on_journal, over_table, table_in}
use Rattle.s38_rules.specs.state.LawfulParts.{data_lawful, journal_lawful}
use Rattle.s38_rules.specs.state.State.{State}
use Rattle.s38_rules.specs.families.Units.{all_decommitted, all_undone, committed, decommitted, end_entry, end_written, journal_with_entry, put_back}
use Rattle.s38_rules.specs.declared.data_body.DataBody.{DataBody}
use Rattle.s38_rules.specs.declared.object.Body.TheVariants as bodies
use Rattle.s38_rules.specs.declared.object.Body.{Body}
use Rattle.s38_laws_units.proofs.HeldLaws.{over_unused, part_over}
use Rattle.s38_laws_units.proofs.JoinLaws.{apart_ended}
use Rattle.s38_laws_units.proofs.KeptLaws.{Grows, IsLater, Lasts, LastsAt, Spares, all_by, lasts_by, grows_by, stays_by, block_leads, both_hold, change_lasts, grows_same, journal_number, lasts_same, right_kept}
use Rattle.s38_laws_units.proofs.UnitLaws.{Both, IsFoundIn, all_ended, all_found, count_ended, found_ended, one_if, rising_ended, tail_of}
use Rattle.s38_laws_units.specs.Right as right_spec
use Rattle.s38_laws_units.specs.Right.{AllPutBack, AreRight, IsChangeOf, IsData, IsEntryOf, IsLogged, IsRight, IsTable, IsUnit, IsUnused}

-- ---- parts beside one that is changed

block_beside_data : (f : DataBody → DataBody) (b : Body) → block_of (over_body data_part f b) ≡ block_of b
block_beside_data f (bodies.DataSpace d) = refl
block_beside_data f _ = refl

port_beside_data : (f : DataBody → DataBody) (b : Body) → port_of (over_body data_part f b) ≡ port_of b
port_beside_data f (bodies.DataSpace d) = refl
port_beside_data f _ = refl

journal_beside_data : (f : DataBody → DataBody) (b : Body) → journal_of (over_body data_part f b) ≡ journal_of b
journal_beside_data f (bodies.DataSpace d) = refl
journal_beside_data f _ = refl

block_beside_journal : (f : JournalList → JournalList) (b : Body) → block_of (over_body journal_part f b) ≡ block_of b
block_beside_journal f (bodies.Journal j) = refl
block_beside_journal f _ = refl

port_beside_journal : (f : JournalList → JournalList) (b : Body) → port_of (over_body journal_part f b) ≡ port_of b
port_beside_journal f (bodies.Journal j) = refl
port_beside_journal f _ = refl

data_beside_journal : (f : JournalList → JournalList) (b : Body) → data_of (over_body journal_part f b) ≡ data_of b
data_beside_journal f (bodies.Journal j) = refl
data_beside_journal f _ = refl

-- what is there beside a change of a data space
pub block_by_data : (h : Held) (n m : ℕ) (f : DataBody → DataBody) → part_at block_part (on_data h n f) m ≡ part_at block_part h m
block_by_data h n m f = part_apart block_part data_part f (block_beside_data f) h n m

pub port_by_data : (h : Held) (n m : ℕ) (f : DataBody → DataBody) → part_at port_part (on_data h n f) m ≡ part_at port_part h m
port_by_data h n m f = part_apart port_part data_part f (port_beside_data f) h n m

pub journal_by_data : (h : Held) (n m : ℕ) (f : DataBody → DataBody) → part_at journal_part (on_data h n f) m ≡ part_at journal_part h m
journal_by_data h n m f = part_apart journal_part data_part f (journal_beside_data f) h n m

-- and beside a change of a journal space
pub block_by_journal : (h : Held) (n m : ℕ) (f : JournalList → JournalList) → part_at block_part (on_journal h n f) m ≡ part_at block_part h m
block_by_journal h n m f = part_apart block_part journal_part f (block_beside_journal f) h n m

pub port_by_journal : (h : Held) (n m : ℕ) (f : JournalList → JournalList) → part_at port_part (on_journal h n f) m ≡ part_at port_part h m
port_by_journal h n m f = part_apart port_part journal_part f (port_beside_journal f) h n m

pub data_by_journal : (h : Held) (n m : ℕ) (f : JournalList → JournalList) → part_at data_part (on_journal h n f) m ≡ part_at data_part h m
data_by_journal h n m f = part_apart data_part journal_part f (data_beside_journal f) h n m

-- ---- a data space has other entries

mapped_lasts : (f : DataBody → DataBody) (x : Option DataBody) → ((d : DataBody) → IsLater d (f d)) → Lasts x (option_map f x)
mapped_lasts f None later = tt
mapped_lasts f (Some d) later = later d

pub data_lasts : (h : Held) (n m : ℕ) (f : DataBody → DataBody) → ((d : DataBody) → IsLater d (f d)) → Lasts (part_at data_part h m) (part_at data_part (on_data h n f) m)
data_lasts h n m f later = subst (Lasts (part_at data_part h m)) (sym (part_over data_part data_lawful h n m f))
    (cond_both (n == m) (option_map f (part_at data_part h m)) (part_at data_part h m) (Lasts (part_at data_part h m)) (λ q. mapped_lasts f (part_at data_part h m) later) (λ q. lasts_same (part_at data_part h m)))

mapped_table : (f : DataBody → DataBody) (x : Option DataBody) → ((d : DataBody) → IsTable d.space → IsTable (f d).space) → IsData x → IsData (option_map f x)
mapped_table f None keeps is = tt
mapped_table f (Some d) keeps is = keeps d is

pub data_tables : (h : Held) (n m : ℕ) (f : DataBody → DataBody) → IsData (option_map f (part_at data_part h n)) → IsData (part_at data_part h m) → IsData (part_at data_part (on_data h n f) m)
data_tables h n m f new is = subst IsData (sym (part_over data_part data_lawful h n m f))
    (cond_both (n == m) (option_map f (part_at data_part h m)) (part_at data_part h m) IsData (λ q. subst (λ (i : ℕ). IsData (option_map f (part_at data_part h i))) (nat_same n m q) new) (λ q. is))

pub data_spares : (h : Held) (n : ℕ) (f : DataBody → DataBody) → ((d : DataBody) → IsLater d (f d)) → (e : Both) → Spares h (on_data h n f) e
data_spares h n f later e = record {
  block = stays_by _ _ (block_by_data h n e.0 f);
  port = stays_by _ _ (port_by_data h n _ f);
  journal = grows_by _ _ (journal_by_data h n (journal_number h e.0) f);
  changes = all_by (LastsAt h (on_data h n f)) e.1.changes (λ c. data_lasts h n c.space.0 f later);
}

pub right_data : (h : Held) (units : UnitMap) (n : ℕ) (f : DataBody → DataBody) → AreRight h units → ((d : DataBody) → IsLater d (f d)) → IsData (option_map f (part_at data_part h n))
    → AreRight (on_data h n f) units
right_data h units n f right later new =
    right_kept h (on_data h n f) units right (all_by (Spares h (on_data h n f)) units (data_spares h n f later)) (λ m. data_tables h n m f new (right.tables m))
    (λ m. subst (λ (r : Option JournalList). 41 * open_units h units m ≤ (unwrap_or r no_journal).spare) (sym (journal_by_data h n m f)) (right.room m))
    (over_unused data_part h n f right.unused)

-- ---- changes are taken back

put_later : (change : UnitChange) (d : DataBody) → IsLater d (over_table (put_back change) d)
put_later change d = by (may_restore d.space change.at change.before)
  where
    by : (b : Bool) → IsLater d (record d { space = cond b (with_entry_changed d.space change.at change.before) d.space })
    by true = record { port = refl; fields = refl; entries = omega (arith, length-set d.space.entries (change.at - 1) change.before) }
    by false = record { port = refl; fields = refl; entries = omega arith }

entry_last : (a b : Bool) → (a && b) ≡ true → b ≡ true
entry_last true b h = h
entry_last false b h = absurd (false≢true h)

put_table : (change : UnitChange) (d : DataBody) → IsTable d.space → IsTable (over_table (put_back change) d).space
put_table change d is = by (may_restore d.space change.at change.before) refl
  where
    by : (b : Bool) → may_restore d.space change.at change.before ≡ b → IsTable (cond b (with_entry_changed d.space change.at change.before) d.space)
    by true may = record { fields = is.fields; entries = All-set (IsEntryOf d.space.fields) d.space.entries (change.at - 1) change.before (entry_last _ _ may) is.entries }
    by false may = is

-- the units stay right, and each goes where it went
pub record IsUndone (h k : Held) (units : UnitMap) : Type 0 where
  pub right : AreRight k units
  pub leads : (block : ℕ) (unit : CommitUnit) → unit_of units block ≡ Some unit → journal_for_block k block ≡ journal_for_block h block
  pub lasts : (n : ℕ) → Lasts (part_at data_part h n) (part_at data_part k n)

lasts_then : (x y z : Option DataBody) → Lasts x y → Lasts y z → Lasts x z
lasts_then None y z a b = tt
lasts_then (Some x) None z a b = absurd a
lasts_then (Some x) (Some y) None a b = absurd b
lasts_then (Some x) (Some y) (Some z) a b = record { port = b.port ∙ a.port; fields = b.fields ∙ a.fields; entries = omega (arith, a.entries, b.entries) }

pub undone_right : (changes : List UnitChange) (h : Held) (units : UnitMap) → AreRight h units → IsUndone h (all_undone h changes) units
unfolding all_undone
undone_right [] h units right = record { right = right; leads = λ block unit found. refl; lasts = λ n. lasts_same (part_at data_part h n) }
undone_right (change ∷ newer) h units right =
    let before = undone_right newer h units right in
    let k = all_undone h newer in
    let f : DataBody → DataBody = over_table (put_back change) in
    record {
      right = right_data k units change.space.0 f before.right (put_later change) (mapped_table f (part_at data_part k change.space.0) (put_table change) (before.right.tables change.space.0));
      leads = λ block unit found. block_leads k (on_data k change.space.0 f) (block, unit) (all_found (IsUnit k) units block unit before.right.each found) (data_spares k change.space.0 f (put_later change) (block, unit))
          ∙ before.leads block unit found;
      lasts = λ n. lasts_then (part_at data_part h n) (part_at data_part k n) _ (before.lasts n) (data_lasts k change.space.0 n f (put_later change));
    }

pub le_holds : (a b : ℕ) → a ≤ b → nat_le a b ≡ true
le_holds a b e = grind (arith, nat_tests)

restore_holds : (change : UnitChange) (x : Option DataBody) → IsChangeOf change x → may_restore (table_in x) change.at change.before ≡ true
restore_holds change None of = absurd of
restore_holds change (Some d) of =
    both_hold _ _ (both_hold _ _ (le_holds 1 change.at of.first) (le_holds change.at (length d.space.entries) of.last)) of.before

put_back_all : (changes : List UnitChange) (h : Held) (units : UnitMap) (port : ℕ) → AreRight h units → All (IsLogged h port) changes → AllPutBack h changes
put_back_all [] h units port right all = tt
put_back_all (change ∷ newer) h units port right all =
    let n = change.space.0 in
    let k = all_undone h newer in
    let of = change_lasts change (part_at data_part h n) (part_at data_part k n) (All-head (IsLogged h port) change newer all).entry ((undone_right newer h units right).lasts n) in
    (restore_holds change (part_at data_part k n) of, put_back_all newer h units port right (All-tail (IsLogged h port) change newer all))

-- each change of a unit is put back
pub unit_put_back : (h : Held) (units : UnitMap) (block : ℕ) (unit : CommitUnit) → AreRight h units → unit_of units block ≡ Some unit → AllPutBack h unit.changes
unit_put_back h units block unit right found = put_back_all unit.changes h units _ right (all_found (IsUnit h) units block unit right.each found).changes

-- ---- the end is written

goes_there : (r : Option ℕ) → is_some r ≡ true → is_that_number (unwrap_or r 0) r ≡ true
goes_there None some = absurd (false≢true some)
goes_there (Some n) some = nat_itself n

-- a journal space has kept room for the end of a unit that goes there, beside that of the others
room_kept : (h : Held) (units : UnitMap) (block : ℕ) (unit : CommitUnit) → AreRight h units → unit_of units block ≡ Some unit
    → 41 * open_units h (ended units block) (journal_number h block) + 41 ≤ (right_spec.unit_journal h block).spare
room_kept h units block unit right found =
    let n = journal_number h block in
    let goes : one_if (unit_goes_to h n (block, unit)) ≡ 1 = ap one_if (goes_there (journal_for_block h block) (all_found (IsUnit h) units block unit right.each found).journal) in
    omega (arith, right.room n, count_ended (unit_goes_to h n) units block unit found, goes)

either_true : (b : Bool) → (b || true) ≡ true
either_true true = refl
either_true false = refl

may_end : (kind : EntryKind) (p : ℕ) (unit : CommitUnit) (journal : JournalList) → unit.number ≤ length journal.entries → 41 ≤ journal.spare → can_write journal (end_entry kind p unit) ≡ true
may_end kind p unit journal number room =
    both_hold _ _ (both_hold _ _ (both_hold _ _ (le_holds unit.number (length journal.entries + 1) (omega (arith, number))) (either_true (not (is_end kind)))) refl)
    (le_holds (journal_entry_len (end_entry kind p unit)) journal.spare (omega (arith, room)))

-- the end of a unit may be written, and has room
pub can_end : (h : Held) (units : UnitMap) (block : ℕ) (unit : CommitUnit) (kind : EntryKind) (p : ℕ) → AreRight h units → unit_of units block ≡ Some unit
    → can_write (right_spec.unit_journal h block) (end_entry kind p unit) ≡ true
can_end h units block unit kind p right found =
    may_end kind p unit (right_spec.unit_journal h block) (all_found (IsUnit h) units block unit right.each found).last (omega (arith, room_kept h units block unit right found))

-- ---- one unit less

-- the others are right
right_ended : (h : Held) (units : UnitMap) (block : ℕ) (unit : CommitUnit) → AreRight h units → unit_of units block ≡ Some unit → AreRight h (ended units block)
right_ended h units block unit right found = record {
  rising = rising_ended units block right.rising;
  apart = apart_ended units block right.rising right.apart;
  each = all_ended (IsUnit h) units block right.each;
  room = λ journal. omega (arith, right.room journal, count_ended (unit_goes_to h journal) units block unit found);
  tables = right.tables;
  unused = right.unused;
}

written_grows : (entry : JournalRecord) (journal : JournalList) → length journal.entries ≤ length (journal_with journal entry).entries
written_grows entry journal = by (can_write journal entry)
  where
    by : (b : Bool) → length journal.entries ≤ length (cond b (appended journal entry) journal).entries
    by true = omega (arith, length-append journal.entries (entry ∷ []))
    by false = omega arith

mapped_grows : (f : JournalList → JournalList) (x : Option JournalList) → ((j : JournalList) → length j.entries ≤ length (f j).entries) → Grows x (option_map f x)
mapped_grows f None grows = tt
mapped_grows f (Some j) grows = grows j

pub journal_spares : (h : Held) (n : ℕ) (f : JournalList → JournalList) → ((j : JournalList) → length j.entries ≤ length (f j).entries) → (e : Both) → Spares h (on_journal h n f) e
journal_spares h n f grows e = record {
  block = stays_by _ _ (block_by_journal h n e.0 f);
  port = stays_by _ _ (port_by_journal h n _ f);
  journal = by (journal_number h e.0);
  changes = all_by (LastsAt h (on_journal h n f)) e.1.changes (λ c. lasts_by _ _ (data_by_journal h n c.space.0 f));
}
  where
    by : (m : ℕ) → Grows (part_at journal_part h m) (part_at journal_part (on_journal h n f) m)
    by m = subst (Grows (part_at journal_part h m)) (sym (part_over journal_part journal_lawful h n m f))
        (cond_both (n == m) (option_map f (part_at journal_part h m)) (part_at journal_part h m) (Grows (part_at journal_part h m))
        (λ q. mapped_grows f (part_at journal_part h m) grows) (λ q. grows_same (part_at journal_part h m)))

-- an end takes the room of one unit
end_room : (entry : JournalRecord) (x : Option JournalList) (opened : ℕ) → opened + 41 ≤ (unwrap_or x no_journal).spare → can_write (unwrap_or x no_journal) entry ≡ true → journal_entry_len entry ≡ 41
    → opened ≤ (unwrap_or (option_map (journal_with_entry entry) x) no_journal).spare
end_room entry None opened room can len = omega (arith, room)
end_room entry (Some j) opened room can len =
    subst (λ b. opened ≤ (cond b (appended j entry) j).spare) (sym can) (omega (arith, room, len))

right_written : (h : Held) (units : UnitMap) (block : ℕ) (unit : CommitUnit) (kind : EntryKind) (p journal : ℕ) → AreRight h units → unit_of units block ≡ Some unit → journal_number h block ≡ journal
    → AreRight (on_journal h journal (journal_with_entry (end_entry kind p unit))) (ended units block)
right_written h units block unit kind p journal right found is =
    let entry = end_entry kind p unit in
    let f : JournalList → JournalList = journal_with_entry entry in
    let k = on_journal h journal f in
    let left = ended units block in
    let others = right_ended h units block unit right found in
    let room = subst (λ (n : ℕ). 41 * open_units h left n + 41 ≤ (journal_at h n).spare) is (room_kept h units block unit right found) in
    let can = subst (λ (n : ℕ). can_write (journal_at h n) entry ≡ true) is (can_end h units block unit kind p right found) in
    right_kept h k left others (all_by (Spares h k) left (journal_spares h journal f (written_grows entry)))
    (λ m. subst IsData (sym (data_by_journal h journal m f)) (right.tables m))
    (λ m. subst (λ (r : Option JournalList). 41 * open_units h left m ≤ (unwrap_or r no_journal).spare) (sym (part_over journal_part journal_lawful h journal m f))
    (cond_both (journal == m) (option_map f (part_at journal_part h m)) (part_at journal_part h m) (λ r. 41 * open_units h left m ≤ (unwrap_or r no_journal).spare)
    (λ q. subst (λ (n : ℕ). 41 * open_units h left n ≤ (unwrap_or (option_map f (part_at journal_part h n)) no_journal).spare) (nat_same journal m q)
    (end_room entry (part_at journal_part h journal) (41 * open_units h left journal) room can refl))
    (λ q. others.room m)))
    (over_unused journal_part h journal f right.unused)

end_right : (h : Held) (units : UnitMap) (block : ℕ) (unit : CommitUnit) (kind : EntryKind) (p : ℕ) (journal : Option ℕ) → AreRight h units → unit_of units block ≡ Some unit → journal_for_block h block ≡ journal
    → AreRight (end_written h journal (end_entry kind p unit)) (ended units block)
end_right h units block unit kind p None right found is = right_ended h units block unit right found
end_right h units block unit kind p (Some journal) right found is = right_written h units block unit kind p journal right found (ap (λ r. unwrap_or r 0) is)

-- ---- a journal space of which the store keeps all bytes

forced_room : (x : Option JournalList) (opened : ℕ) → opened ≤ (unwrap_or x no_journal).spare → opened ≤ (unwrap_or (option_map forced x) no_journal).spare
forced_room None opened room = room
forced_room (Some j) opened room = room

pub forced_right : (h : Held) (units : UnitMap) (n : ℕ) → AreRight h units → AreRight (on_journal h n forced) units
forced_right h units n right =
    right_kept h (on_journal h n forced) units right (all_by (Spares h (on_journal h n forced)) units (journal_spares h n forced (λ j. omega arith)))
    (λ m. subst IsData (sym (data_by_journal h n m forced)) (right.tables m))
    (λ m. subst (λ (r : Option JournalList). 41 * open_units h units m ≤ (unwrap_or r no_journal).spare) (sym (part_over journal_part journal_lawful h n m forced))
    (cond_both (n == m) (option_map forced (part_at journal_part h m)) (part_at journal_part h m) (λ r. 41 * open_units h units m ≤ (unwrap_or r no_journal).spare)
    (λ q. forced_room (part_at journal_part h m) (41 * open_units h units m) (right.room m))
    (λ q. right.room m)))
    (over_unused journal_part h n forced right.unused)

-- ---- COMMIT and DECOMMIT

pub commit_right : (s : State) (p block : ℕ) (unit : Option CommitUnit) → IsRight s → unit_of s.units block ≡ unit → IsRight (committed s p block unit)
commit_right s p block None right found = right
commit_right s p block (Some unit) right found = end_right s.held s.units block unit entry_kinds.Commit p (journal_for_block s.held block) right found refl

pub decommit_right : (s : State) (p block : ℕ) (unit : Option CommitUnit) → IsRight s → unit_of s.units block ≡ unit → IsRight (decommitted s p block unit)
decommit_right s p block None right found = right
decommit_right s p block (Some unit) right found =
    let back = undone_right unit.changes s.held s.units right in
    end_right (all_undone s.held unit.changes) s.units block unit entry_kinds.Decommit p (journal_for_block s.held block) back.right found (back.leads block unit found)

-- ---- the end of a process

pub all_decommitted_right : (units : UnitMap) (s : State) (p : ℕ) → IsRight s → BlocksRise units → All (IsFoundIn s.units) units → IsRight (all_decommitted s p units)
unfolding all_decommitted
all_decommitted_right [] s p right rising stand = right
all_decommitted_right (e ∷ es) s p right rising stand =
    let taken = decommitted s p e.0 (Some e.1) in
    let done = decommit_right s p e.0 (Some e.1) right (All-head (IsFoundIn s.units) e es stand) in
    let rest = All-tail (IsFoundIn s.units) e es stand in
    cond_both (e.1.process == p) taken s (λ (t : State). IsRight (all_decommitted t p es))
    (λ own. all_decommitted_right es taken p done (tail_of e es rising) (found_ended s.units es e right.rising rising rest))
    (λ other. all_decommitted_right es s p right (tail_of e es rising) rest)
