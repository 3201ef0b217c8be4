-- What is asked and done where an entry of a data space is changed: nobody else holds it by a unit; the change belongs
-- to the unit of the cursor's commit block; it is journaled where the data space is.
use Rattle.std.specs.Prelude.{ℕ, ◌+◌, ◌==◌, Bool, not, ◌&&◌, ◌||◌, List, [], length, nat_le, nat_lt, Option, Some, None, is_some, if◌then◌else◌}
use Rattle.s38_base.specs.declared.exception.Exception.{Exception}
use Rattle.s38_base.specs.declared.exception.Rule.TheVariants.{Unit}
use Rattle.s38_base.specs.declared.id.Kind.TheVariants as kinds
use Rattle.s38_base.specs.Exceptions as exceptions
use Rattle.s38_base.specs.Ids.{same_kind}
use Rattle.s38_base.specs.Signals.{fails, first, plain}
use Rattle.s38_commits.specs.declared.change.UnitChange.{UnitChange}
use Rattle.s38_commits.specs.Changes.{journal_bytes, largest_unit, unit_bytes}
use Rattle.s38_commits.specs.Unit.{CommitUnit}
use Rattle.s38_commits.specs.Units.{UnitMap, changes_of, owner, unit_of, with_change_joined}
use Rattle.s38_dataspaces.specs.Entries as spaces
use Rattle.s38_journals.specs.declared.entry.EntryKind.{EntryKind}
use Rattle.s38_journals.specs.declared.entry.EntryKind.TheVariants.{Insert, Update, Delete}
use Rattle.s38_journals.specs.Entries.{JournalRecord}
use Rattle.s38_journals.specs.Journals.{JournalList, journal_with, journal_with_room, room_refusal}
use Rattle.s38_rules.specs.declared.object.Object.{Object}
use Rattle.s38_rules.specs.state.Held.{Held, kind_of, object}
use Rattle.s38_rules.specs.state.Journaling.{begins_unit, block_port, is_journaled_to, journal_for, open_after, open_units}
use Rattle.s38_rules.specs.state.PartsAt.{journal_at, on_journal}
use Rattle.s38_rules.specs.state.State.{State}

-- ---- entries that a unit holds

-- an exception that names the process of a unit
abbrev pub of_unit : ℕ → ℕ → ℕ → Option Exception
of_unit id operand process = Some (record { id = id; operand = operand; rule = Unit process })

abbrev pub reading_rule : ℕ → Option (ℕ × CommitUnit) → Option Exception
reading_rule p None = None
reading_rule p (Some e) = if e.1.process == p then None else of_unit exceptions.entry_held 1 e.1.process

-- an entry that a unit of another process changed is not read
abbrev pub read_rule : UnitMap → ℕ → ℕ → ℕ → Option Exception
read_rule units p space at = reading_rule p (owner units space at)

abbrev pub holding_rule : ℕ → ℕ → Option (ℕ × CommitUnit) → Option Exception
holding_rule p block None = None
holding_rule p block (Some e) =
    if (e.0 == block) && (e.1.process == p) then None else of_unit exceptions.entry_held 1 e.1.process

-- an entry that a unit changed is changed in that unit alone, and by its process
abbrev pub held_rule : UnitMap → ℕ → ℕ → ℕ → ℕ → Option Exception
held_rule units p block space at = holding_rule p block (owner units space at)

-- ---- the commit block of a change

abbrev pub block_rule : Option Object → Option Exception
block_rule None = Some (plain exceptions.object_destroyed 0)
block_rule (Some o) = fails (not (same_kind kinds.Block (kind_of o.body))) exceptions.object_type_invalid 0

-- a unit that was begun is of the process
abbrev pub unit_rule : ℕ → Option CommitUnit → Option Exception
unit_rule p None = None
unit_rule p (Some unit) = if unit.process == p then None else of_unit exceptions.unit_of_another 1 unit.process

-- it is there, the data space is journaled to its port, and its unit is of the process; without a block nothing is asked
abbrev pub block_rules : State → ℕ → ℕ → ℕ → Option Exception
block_rules s p block space =
    if block == 0 then None
    else first (block_rule (object s.held block))
    (first (fails (not (is_journaled_to s.held space (block_port s.held block))) exceptions.not_journaled 1)
    (unit_rule p (unit_of s.units block)))

-- ---- limits

-- how many units may be open in a journal space
abbrev pub most_units : ℕ
most_units = 512

-- the unit of a change of so many bytes would take too many bytes of the journal
abbrev pub is_unit_full : UnitMap → ℕ → ℕ → Bool
is_unit_full units block bytes =
    not (block == 0) && nat_lt largest_unit (unit_bytes (changes_of (unit_of units block)) + bytes)

-- one unit too many would be open in the journal space
abbrev pub are_units_full : Held → UnitMap → ℕ → ℕ → Bool
are_units_full h units journal block = begins_unit units block && nat_le most_units (open_units h units journal)

-- the journal space has no room for a change of so many bytes and for the ends of all units that are then open
abbrev pub is_journal_full : Held → UnitMap → ℕ → ℕ → ℕ → Bool
is_journal_full h units journal block bytes =
    is_some (room_refusal (journal_at h journal) bytes (open_after h units journal block))

-- for a change of so many bytes there is room in the journal space, for another unit, and in the unit; of a data space
-- that is not journaled nothing is asked
abbrev pub journal_rule : State → ℕ → ℕ → Option ℕ → Option Exception
journal_rule s block bytes None = None
journal_rule s block bytes (Some journal) =
    fails (is_journal_full s.held s.units journal block bytes
    || (are_units_full s.held s.units journal block || is_unit_full s.units block bytes)) exceptions.limit_exceeded 0

-- ---- what a change does beside the data space

abbrev pub change_of : ℕ → ℕ → spaces.DataEntry → spaces.DataEntry → UnitChange
change_of space at before after = record { space = record { 0 = space }; at = at; before = before; after = after }

abbrev pub unit_number_in : Option CommitUnit → ℕ → ℕ
unit_number_in None sequence = sequence
unit_number_in (Some unit) sequence = unit.number

-- the number of the change's unit: that of the block's unit, or the sequence of the entry with which it begins; 0 for a
-- change without a block
abbrev pub number_for : UnitMap → ℕ → ℕ → ℕ
number_for units block sequence = if block == 0 then 0 else unit_number_in (unit_of units block) sequence

-- the sequence of the next entry
abbrev pub next_sequence : JournalList → ℕ
next_sequence journal = length journal.entries + 1

abbrev pub kind_between : spaces.DataEntry → spaces.DataEntry → EntryKind
kind_between None after = Insert
kind_between (Some bytes) None = Delete
kind_between (Some bytes) (Some others) = Update

abbrev pub bytes_or_none : spaces.DataEntry → List ℕ
bytes_or_none None = []
bytes_or_none (Some bytes) = bytes

-- what the journal says of a change
abbrev pub change_entry : ℕ → ℕ → UnitChange → JournalRecord
change_entry number p change = record {
  unit = number;
  process = p;
  kind = kind_between change.before change.after;
  object = change.space;
  ordinal = change.at;
  before = bytes_or_none change.before;
  after = bytes_or_none change.after;
}

-- a journal after an entry of a change, with room for the ends of the units that are then open
abbrev pub with_change_logged : ℕ → ℕ → JournalRecord → JournalList → JournalList
with_change_logged bytes units entry journal = journal_with (journal_with_room journal bytes units) entry

-- the units after a change: it joins the unit of its block, if it has one
abbrev pub units_after : UnitMap → ℕ → ℕ → ℕ → UnitChange → UnitMap
units_after units p block number change = if block == 0 then units else with_change_joined units block p number change

abbrev pub logged_as : State → ℕ → ℕ → UnitChange → ℕ → ℕ → State
logged_as s p block change journal number = record s {
  held = on_journal s.held journal
      (with_change_logged (journal_bytes change) (open_after s.held s.units journal block) (change_entry number p change));
  units = units_after s.units p block number change;
}

abbrev pub logged_in : State → ℕ → ℕ → UnitChange → Option ℕ → State
logged_in s p block change None = s
logged_in s p block change (Some journal) =
    logged_as s p block change journal (number_for s.units block (next_sequence (journal_at s.held journal)))

-- a change of a journaled data space goes to its journal space, and into the unit of its block
unfoldable pub logged : State → ℕ → ℕ → UnitChange → State
logged s p block change = logged_in s p block change (journal_for s.held change.space.0)
