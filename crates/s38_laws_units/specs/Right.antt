-- When the units of changes of a state are right: the end of each can be written in its journal space, and each of its
-- changes can be taken back.
use Rattle.std.specs.Prelude.{◌≡◌, ◌≤◌, ◌*◌, ℕ, Bool, All, IsTrue, List, [], ◌∷◌, Option, Some, None, is_some, length}
use Rattle.std.specs.Option.{unwrap_or}
use Rattle.s38_base.specs.declared.attr.Attr.{Attr}
use Rattle.s38_code.specs.declared.entry.Entry.{Entry}
use Rattle.s38_commits.specs.declared.change.UnitChange.{UnitChange}
use Rattle.s38_commits.specs.Changes.{journal_bytes}
use Rattle.s38_commits.specs.Unit.{CommitUnit}
use Rattle.s38_commits.specs.Units.{AreDisjoint, BlocksRise, UnitMap}
use Rattle.s38_dataspaces.specs.Entries as spaces
use Rattle.s38_dataspaces.specs.Table.{DataTable, are_fields, is_entry_of, may_restore}
use Rattle.s38_journals.specs.Journals.{JournalList, can_write, journal_with_room}
use Rattle.s38_rules.specs.declared.data_body.DataBody.{DataBody}
use Rattle.s38_rules.specs.families.Changes.{Changes, Entered, Then}
use Rattle.s38_rules.specs.families.Changing.{change_entry, next_sequence, number_for}
use Rattle.s38_rules.specs.state.Held.{Held, object}
use Rattle.s38_rules.specs.state.Journaling.{block_port, is_journaled_to, journal_for_block, open_after, open_units}
use Rattle.s38_rules.specs.state.Parts.{block_part, data_part, part_at}
use Rattle.s38_rules.specs.state.PartsAt.{journal_at, table_at}
use Rattle.s38_rules.specs.state.State.{State}
use Rattle.s38_rules.specs.step.Step.{step}
use Rattle.s38_rules.specs.families.Units.{all_undone}

-- ---- data spaces

-- None, or an entry of these fields
abbrev pub IsEntryOf : List Attr → spaces.DataEntry → Type 0
IsEntryOf fields entry = IsTrue (is_entry_of fields entry)

-- its fields are such as a data space may have, and each entry is one of these fields: what a change finds there may be
-- put back later
pub record IsTable (table : DataTable) : Type 0 where
  pub fields : IsTrue (are_fields table.fields)
  pub entries : All (IsEntryOf table.fields) table.entries

abbrev pub IsData : Option DataBody → Type 0
IsData None = Unit {0}
IsData (Some d) = IsTable d.space

-- ---- changes

-- a change is of an ordinal of a data space, and what was there before and what is there then are entries of its fields
pub record IsChange (change : UnitChange) (table : DataTable) : Type 0 where
  pub first : 1 ≤ change.at
  pub last : change.at ≤ length table.entries
  pub before : IsEntryOf table.fields change.before
  pub after : IsEntryOf table.fields change.after

abbrev pub IsChangeOf : UnitChange → Option DataBody → Type 0
IsChangeOf change None = ⊥
IsChangeOf change (Some d) = IsChange change d.space

-- its data space is there, and is journaled to a port
pub record IsLogged (h : Held) (port : ℕ) (change : UnitChange) : Type 0 where
  pub journaled : IsTrue (is_journaled_to h change.space.0 port)
  pub entry : IsChangeOf change (part_at data_part h change.space.0)

-- ---- units

-- the journal space to which the unit of a block goes
abbrev pub unit_journal : Held → ℕ → JournalList
unit_journal h block = journal_at h (unwrap_or (journal_for_block h block) 0)

-- a unit, beside the number of its commit block
pub record IsUnit (h : Held) (e : ℕ × CommitUnit) : Type 0 where
  -- its commit block is there, and so are the port that the block names and the journal space that the port names
  pub block : IsTrue (is_some (part_at block_part h e.0))
  pub journal : IsTrue (is_some (journal_for_block h e.0))
  -- its number is the sequence of an entry of that journal space
  pub first : 1 ≤ e.1.number
  pub last : e.1.number ≤ length (unit_journal h e.0).entries
  -- it has a change, and each is of a data space that is journaled where the unit is
  pub some : 1 ≤ length e.1.changes
  pub changes : All (IsLogged h (block_port h e.0)) e.1.changes

-- 0 is the number of no object, and never will be: what is named by it is not there
pub record IsUnused (h : Held) : Type 0 where
  pub none : object h 0 ≡ None
  pub next : 1 ≤ h.next

-- the units over the objects that are there
pub record AreRight (h : Held) (units : UnitMap) : Type 0 where
  -- each block has one unit at most
  pub rising : BlocksRise units
  -- each entry is changed by one unit at most
  pub apart : AreDisjoint units
  pub each : All (IsUnit h) units
  -- each journal space has kept room for the ends of its units, which are heads alone
  pub room : (journal : ℕ) → 41 * open_units h units journal ≤ (journal_at h journal).spare
  pub tables : (n : ℕ) → IsData (part_at data_part h n)
  pub unused : IsUnused h

abbrev pub IsRight : State → Type 0
IsRight s = AreRight s.held s.units

-- ---- over a history

-- of these changes each is put back in its turn, the newest first
abbrev pub AllPutBack : Held → List UnitChange → Type 0
AllPutBack h [] = Unit {0}
AllPutBack h (change ∷ newer) =
    IsTrue (may_restore (table_at (all_undone h newer) change.space.0) change.at change.before) × AllPutBack h newer

-- ---- what is written

-- what the journal is to say of a change may be written there, and there is room for it
abbrev pub is_change_written : State → ℕ → ℕ → UnitChange → ℕ → Bool
is_change_written s p block change journal =
    can_write (journal_with_room (journal_at s.held journal) (journal_bytes change) (open_after s.held s.units journal block))
    (change_entry (number_for s.units block (next_sequence (journal_at s.held journal))) p change)

-- a change is first of all that of an entry of a data space, under a commit block
abbrev pub Enters : Changes → ℕ → UnitChange → Type 0
Enters (Entered b c f) block change = (b ≡ block) × (c ≡ change)
Enters (Then first second) block change = Enters first block change
Enters _ block change = ⊥
