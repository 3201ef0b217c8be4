-- Units stay right where INSDSEN, UPDSEN and DELDSEN are permitted, and where a data space is journaled.
use Rattle.std.proofs.Common.{◌*◌, ◌-◌, ◌==◌, ◌∙◌, ◌∷◌, ◌≡◌, ◌≤◌, List, [], ap, arith, false, length, refl, subst, suc, sym, true, zero, ℕ}
use Rattle.std.proofs.lemmas.Bool.{and_parts, cond_both, true≢false}
use Rattle.std.proofs.lemmas.List.Elements.{All-append, All-cons, All-head, All-nil, All-set, All-tail}
use Rattle.std.proofs.lemmas.List.{length-append, length-set}
use Rattle.std.specs.Option.{option_flatten, option_map, unwrap_or}
use Rattle.std.specs.Prelude.{All, IsTrue, None, Option, Some, is_none, is_some, slice_get}
use Rattle.s38_base.specs.declared.attr.Attr.{Attr}
use Rattle.s38_code.specs.declared.event.Request.{Request}
use Rattle.s38_code.specs.declared.operand.Operand.{Operand}
use Rattle.s38_commits.proofs.MapLaws.{nat_same}
use Rattle.s38_commits.specs.Units.{UnitMap, owner}
use Rattle.s38_commits.specs.declared.change.UnitChange.{UnitChange}
use Rattle.s38_dataspaces.specs.Entries as spaces
use Rattle.s38_dataspaces.specs.Entries.{entry_at}
use Rattle.s38_dataspaces.specs.Table.{DataTable}
use Rattle.s38_journals.specs.Journals.{JournalList}
use Rattle.s38_rules.proofs.VerdictLaws.{rule_met}
use Rattle.s38_rules.proofs.RuleLaws.{fails_none, first_none, not_false}
use Rattle.s38_rules.specs.families.Changing.{change_of, held_rule, logged, logged_in}
use Rattle.s38_rules.specs.families.EntryChanges.{change_at, change_rules, current_fails, deldsen, entry_rule, insdsen, insdsen_fails, insertion, insertion_limits, journal_room, next_ordinal, updsen, updsen_fails, with_changed, with_inserted}
use Rattle.s38_rules.specs.families.Cursors.{cursor_named, position_rule, table_of}
use Rattle.s38_rules.specs.state.Held.{Held}
use Rattle.s38_rules.specs.state.Journaling.{data_port, journal_for, open_units}
use Rattle.s38_rules.specs.families.Changes.{through_port}
use Rattle.s38_rules.specs.ask.Operands.{bytes_at}
use Rattle.s38_rules.specs.state.Parts.{data_part, part_at}
use Rattle.s38_rules.specs.state.PartsAt.{no_journal, on_data, on_table, over_table, table_in}
use Rattle.s38_rules.specs.state.LawfulParts.{data_lawful}
use Rattle.s38_rules.specs.state.State.{State}
use Rattle.s38_rules.specs.step.Verdict.{refused_by}
use Rattle.s38_rules.specs.declared.data_body.DataBody.{DataBody}
use Rattle.s38_laws_units.proofs.ChangeLaws.{IsKnown, change_written, right_logged}
use Rattle.s38_laws_units.proofs.LoggingLaws.{journaled_there}
use Rattle.s38_laws_units.proofs.ChangeRuleLaws.{IsBlock, block_met, holding_free}
use Rattle.s38_laws_units.proofs.EndLaws.{block_by_data, data_tables, journal_by_data, port_by_data, right_data}
use Rattle.s38_laws_units.proofs.HeldLaws.{over_unused, part_over}
use Rattle.s38_laws_units.proofs.JoinLaws.{IsFree}
use Rattle.s38_laws_units.proofs.KeptLaws.{IsLater, Lasts, LastsAt, Spares, all_then, both_hold, grows_by, stays_by, journal_number, lasts_same, right_kept}
use Rattle.s38_laws_units.proofs.UnitLaws.{Both}
use Rattle.s38_laws_units.specs.Right.{AreRight, IsChangeOf, IsData, IsEntryOf, IsLogged, IsRight, IsUnit, is_change_written}

-- ---- an entry is changed, journaled or not

-- an entry of a data space may be another one
pub record MayEnter (s : State) (block : ℕ) (change : UnitChange) (t : DataTable → DataTable) : Type 0 where
  pub later : (d : DataBody) → IsLater d (over_table t d)
  pub table : IsData (option_map (over_table t) (part_at data_part s.held change.space.0))
  pub of : is_some (part_at data_part s.held change.space.0) ≡ true → IsChangeOf change (option_map (over_table t) (part_at data_part s.held change.space.0))
  pub free : IsFree s.units block change.space.0 change.at
  pub ruled : (block == 0) ≡ false → IsBlock s.held block change.space.0

known_of : (s : State) (p block journal : ℕ) (change : UnitChange) (t : DataTable → DataTable) → IsRight s → MayEnter s block change t → journal_for s.held change.space.0 ≡ Some journal → IsKnown s p block journal change t
known_of s p block journal change t right may is = record {
  right = right;
  journaled = is;
  later = may.later;
  table = may.table;
  of = may.of (journaled_there s.held change.space.0 journal right.unused is);
  free = may.free;
  ruled = may.ruled;
}

pub entered_right : (s : State) (p block : ℕ) (change : UnitChange) (t : DataTable → DataTable) → IsRight s → MayEnter s block change t
    → AreRight (on_table (logged s p block change).held change.space.0 t) (logged s p block change).units
unfolding logged
entered_right s p block change t right may = by (journal_for s.held change.space.0) refl
  where
    by : (r : Option ℕ) → journal_for s.held change.space.0 ≡ r → AreRight (on_table (logged_in s p block change r).held change.space.0 t) (logged_in s p block change r).units
    by None is = right_data s.held s.units change.space.0 (over_table t) right may.later may.table
    by (Some journal) is = right_logged s p block journal change t (known_of s p block journal change t right may is)

-- what the journal says of the change may be written
pub entered_written : (s : State) (p block journal : ℕ) (change : UnitChange) (t : DataTable → DataTable) → IsRight s → MayEnter s block change t → journal_for s.held change.space.0 ≡ Some journal
    → IsTrue (is_change_written s p block change journal)
entered_written s p block journal change t right may is = change_written s p block journal change t (known_of s p block journal change t right may is)

-- what the rules of a change say of its entry and its block
rules_free : (s : State) (p block space at : ℕ) → IsRight s → held_rule s.units p block space at ≡ None → IsFree s.units block space at
rules_free s p block space at right rule = holding_free s.units p block space at (owner s.units space at) right.rising right.apart refl rule

-- ---- INSDSEN

inserted_later : (bytes : List ℕ) (d : DataBody) → IsLater d (over_table (with_inserted bytes) d)
inserted_later bytes d = record { port = refl; fields = refl; entries = omega (arith, length-append d.space.entries (Some bytes ∷ [])) }

-- bytes that are an entry of the fields
entry_met : (fields : List Attr) (h : Held) (ops : List Operand) → entry_rule fields h ops ≡ None → IsEntryOf fields (Some (bytes_at h ops 2))
entry_met fields h ops rule =
    let both = first_none _ _ rule in
    both_hold _ _ (not_false _ (fails_none _ _ _ both.0)) (not_false _ (fails_none _ _ _ both.1))

inserted_table : (bytes : List ℕ) (x : Option DataBody) → IsData x → IsEntryOf (table_in x).fields (Some bytes) → IsData (option_map (over_table (with_inserted bytes)) x)
inserted_table bytes None is entry = tt
inserted_table bytes (Some d) is entry = record {
  fields = is.fields;
  entries = All-append (IsEntryOf d.space.fields) d.space.entries (Some bytes ∷ []) is.entries (All-cons (IsEntryOf d.space.fields) (Some bytes) [] entry (All-nil (IsEntryOf d.space.fields)));
}

inserted_change : (space : ℕ) (bytes : List ℕ) (x : Option DataBody) → IsEntryOf (table_in x).fields (Some bytes) → is_some x ≡ true
    → IsChangeOf (change_of space (next_ordinal (table_in x)) None (Some bytes)) (option_map (over_table (with_inserted bytes)) x)
inserted_change space bytes None entry there = cc
inserted_change space bytes (Some d) entry there = record { first = omega arith; last = omega (arith, length-append d.space.entries (Some bytes ∷ [])); before = refl; after = entry }

pub insdsen_may : (s : State) (p d : ℕ) (t : Request) → IsRight s → refused_by insdsen s p d t ≡ None
    → MayEnter s (cursor_named s.held t.operands 1).block.0 (insertion s.held t.operands) (with_inserted (bytes_at s.held t.operands 2))
unfolding insdsen_fails
insdsen_may s p d t right e =
    let ops = t.operands in
    let cursor = cursor_named s.held ops 1 in
    let space = cursor.space.0 in
    let x = part_at data_part s.held space in
    let at = next_ordinal (table_of s.held ops 1) in
    let bytes = bytes_at s.held ops 2 in
    let rule = first_none (entry_rule (table_of s.held ops 1).fields s.held ops) _ (rule_met insdsen s p d t e) in
    let entry = entry_met (table_of s.held ops 1).fields s.held ops rule.0 in
    let rules = first_none (held_rule s.units p cursor.block.0 space at) _ (first_none (change_rules s p cursor at) (insertion_limits s ops) rule.1).0 in
    record {
      later = inserted_later bytes;
      table = inserted_table bytes x (right.tables space) entry;
      of = inserted_change space bytes x entry;
      free = rules_free s p cursor.block.0 space at right rules.0;
      ruled = λ some. block_met s p cursor.block.0 space some rules.1;
    }

-- ---- UPDSEN and DELDSEN

changed_later : (at : ℕ) (entry : spaces.DataEntry) (d : DataBody) → IsLater d (over_table (with_changed at entry) d)
changed_later at entry d = record { port = refl; fields = refl; entries = omega (arith, length-set d.space.entries (at - 1) entry) }

changed_table : (at : ℕ) (entry : spaces.DataEntry) (x : Option DataBody) → IsData x → IsEntryOf (table_in x).fields entry → IsData (option_map (over_table (with_changed at entry)) x)
changed_table at entry None is new = tt
changed_table at entry (Some d) is new = record { fields = is.fields; entries = All-set (IsEntryOf d.space.fields) d.space.entries (at - 1) entry new is.entries }

-- an entry that is there has an ordinal of the data space
within : (entries : List spaces.DataEntry) (at : ℕ) → is_none (entry_at entries at) ≡ false → (1 ≤ at) × (at ≤ length entries)
within entries zero stands = absurd (true≢false stands)
within entries (suc k) stands = (omega arith, by entries k stands)
  where
    by : (entries : List spaces.DataEntry) (k : ℕ) → is_none (option_flatten (slice_get entries k)) ≡ false → suc k ≤ length entries
    by [] k stands = absurd (true≢false stands)
    by (e ∷ es) zero stands = omega arith
    by (e ∷ es) (suc k) stands = omega (arith, by es k stands)

-- what holds of each entry, and of None, holds of that of an ordinal
found_entry : (fields : List Attr) (entries : List spaces.DataEntry) (at : ℕ) → All (IsEntryOf fields) entries → IsEntryOf fields (entry_at entries at)
found_entry fields entries zero all = refl
found_entry fields entries (suc k) all = by entries k all
  where
    by : (entries : List spaces.DataEntry) (k : ℕ) → All (IsEntryOf fields) entries → IsEntryOf fields (option_flatten (slice_get entries k))
    by [] k all = refl
    by (e ∷ es) zero all = All-head (IsEntryOf fields) e es all
    by (e ∷ es) (suc k) all = by es k (All-tail (IsEntryOf fields) e es all)

changed_change : (space at : ℕ) (entry : spaces.DataEntry) (x : Option DataBody) → IsData x → IsEntryOf (table_in x).fields entry → is_none (entry_at (table_in x).entries at) ≡ false → is_some x ≡ true
    → IsChangeOf (change_of space at (entry_at (table_in x).entries at) entry) (option_map (over_table (with_changed at entry)) x)
changed_change space at entry None is new stands there = cc
changed_change space at entry (Some d) is new stands there =
    let place = within d.space.entries at stands in
    record { first = place.0; last = omega (arith, place.1, length-set d.space.entries (at - 1) entry); before = found_entry d.space.fields d.space.entries at is.entries; after = new }

current_may : (s : State) (p : ℕ) (ops : List Operand) (entry : spaces.DataEntry) → IsRight s → IsEntryOf (table_of s.held ops 1).fields entry → current_fails s p ops entry ≡ None
    → MayEnter s (cursor_named s.held ops 1).block.0 (change_at s.held ops entry) (with_changed (cursor_named s.held ops 1).position entry)
unfolding current_fails
current_may s p ops entry right new e =
    let cursor = cursor_named s.held ops 1 in
    let space = cursor.space.0 in
    let x = part_at data_part s.held space in
    let at = cursor.position in
    let rule = first_none (position_rule s.held ops 1) _ e in
    let stands = fails_none _ _ _ rule.0 in
    let rules = first_none (held_rule s.units p cursor.block.0 space at) _ (first_none (change_rules s p cursor at) (journal_room s cursor (change_at s.held ops entry)) rule.1).0 in
    record {
      later = changed_later at entry;
      table = changed_table at entry x (right.tables space) new;
      of = changed_change space at entry x (right.tables space) new stands;
      free = rules_free s p cursor.block.0 space at right rules.0;
      ruled = λ some. block_met s p cursor.block.0 space some rules.1;
    }

pub updsen_may : (s : State) (p d : ℕ) (t : Request) → IsRight s → refused_by updsen s p d t ≡ None
    → MayEnter s (cursor_named s.held t.operands 1).block.0 (change_at s.held t.operands (Some (bytes_at s.held t.operands 2))) (with_changed (cursor_named s.held t.operands 1).position (Some (bytes_at s.held t.operands 2)))
unfolding updsen_fails
updsen_may s p d t right e =
    let rule = first_none (entry_rule (table_of s.held t.operands 1).fields s.held t.operands) _ (rule_met updsen s p d t e) in
    current_may s p t.operands (Some (bytes_at s.held t.operands 2)) right (entry_met (table_of s.held t.operands 1).fields s.held t.operands rule.0) rule.1

pub deldsen_may : (s : State) (p d : ℕ) (t : Request) → IsRight s → refused_by deldsen s p d t ≡ None
    → MayEnter s (cursor_named s.held t.operands 1).block.0 (change_at s.held t.operands None) (with_changed (cursor_named s.held t.operands 1).position None)
deldsen_may s p d t right e = current_may s p t.operands None right refl (rule_met deldsen s p d t e)

-- ---- JRNLOBJ

-- a data space of which a unit has a change is journaled
other_space : (h : Held) (n port to : ℕ) (c : UnitChange) → is_some (journal_for h n) ≡ false → IsLogged h port c → LastsAt h (on_data h n (through_port to)) c
other_space h n port to c none logged =
    let some = (and_parts (data_port h c.space.0 == port) (is_some (journal_for h c.space.0)) logged.journaled).1 in
    subst (Lasts (part_at data_part h c.space.0)) (sym (part_over data_part data_lawful h n c.space.0 (through_port to)))
    (cond_both (n == c.space.0) (option_map (through_port to) (part_at data_part h c.space.0)) (part_at data_part h c.space.0) (Lasts (part_at data_part h c.space.0))
    (λ q. absurd (true≢false (sym (ap (λ m. is_some (journal_for h m)) (nat_same n c.space.0 q) ∙ some) ∙ none))) (λ q. lasts_same (part_at data_part h c.space.0)))

journaling_spares : (h : Held) (n to : ℕ) (e : Both) → is_some (journal_for h n) ≡ false → IsUnit h e → Spares h (on_data h n (through_port to)) e
journaling_spares h n to e none unit = record {
  block = stays_by _ _ (block_by_data h n e.0 (through_port to));
  port = stays_by _ _ (port_by_data h n _ (through_port to));
  journal = grows_by _ _ (journal_by_data h n (journal_number h e.0) (through_port to));
  changes = all_then (IsLogged h _) (IsLogged h _) (LastsAt h (on_data h n (through_port to))) e.1.changes (λ c one two. other_space h n _ to c none one) unit.changes unit.changes;
}

same_table : (to : ℕ) (x : Option DataBody) → IsData x → IsData (option_map (through_port to) x)
same_table to None is = tt
same_table to (Some d) is = is

pub journaling_right : (h : Held) (units : UnitMap) (n to : ℕ) → AreRight h units → is_some (journal_for h n) ≡ false → AreRight (on_data h n (through_port to)) units
journaling_right h units n to right none =
    let f : DataBody → DataBody = through_port to in
    right_kept h (on_data h n f) units right (all_then (IsUnit h) (IsUnit h) (Spares h (on_data h n f)) units (λ e one two. journaling_spares h n to e none one) right.each right.each)
    (λ m. data_tables h n m f (same_table to (part_at data_part h n) (right.tables n)) (right.tables m))
    (λ m. subst (λ (r : Option JournalList). 41 * open_units h units m ≤ (unwrap_or r no_journal).spare) (sym (journal_by_data h n m f)) (right.room m))
    (over_unused data_part h n f right.unused)
