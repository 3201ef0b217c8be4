-- Entries of a data space inserted, updated and deleted through a cursor.
use Rattle.std.specs.Prelude.{ℕ, ◌+◌, ◌==◌, not, List, length, Option, Some, None, nat_lt}
use Rattle.s38_base.specs.declared.attr.Attr.{Attr}
use Rattle.s38_base.specs.declared.exception.Exception.{Exception}
use Rattle.s38_base.specs.declared.words.Category.TheVariants.{Change}
use Rattle.s38_base.specs.Exceptions as exceptions
use Rattle.s38_base.specs.RightNames as rights
use Rattle.s38_base.specs.Signals.{fails, first}
use Rattle.s38_commits.specs.declared.change.UnitChange.{UnitChange}
use Rattle.s38_commits.specs.Changes.{journal_bytes}
use Rattle.s38_dataspaces.specs.Entries.{DataEntry}
use Rattle.s38_dataspaces.specs.Table.{DataTable, data_space_image_size, entry_len, inserted, with_entry_changed}
use Rattle.s38_dataspaces.specs.Values.{have_values}
use Rattle.s38_code.specs.declared.operand.Operand.{Operand}
use Rattle.s38_rules.specs.declared.cursor.Cursor.{Cursor}
use Rattle.s38_rules.specs.families.Changes.{Changes, Entered, OnCursor, Then}
use Rattle.s38_rules.specs.families.Changing.{block_rules, change_of, held_rule, journal_rule}
use Rattle.s38_rules.specs.state.Held.{Held}
use Rattle.s38_rules.specs.families.Instruction.{Instruction, inert}
use Rattle.s38_rules.specs.state.Journaling.{journal_for}
use Rattle.s38_rules.specs.ask.Operands.{bytes_at, size_at, target}
use Rattle.s38_rules.specs.state.State.{State}
use Rattle.s38_rules.specs.families.Cursors.{at_position, current, cursor_named, position_rule, table_of, through_cursor}

-- it has the length of the fields, and each numeric field has a value
abbrev pub entry_rule : List Attr → Held → List Operand → Option Exception
entry_rule fields h ops =
    first (fails (not (size_at h ops 2 == entry_len fields)) exceptions.length_invalid 2)
    (fails (not (have_values fields (bytes_at h ops 2))) exceptions.decimal_data 2)

-- one entry more stays within the limit of a body
abbrev pub entry_room_rule : ℕ → DataTable → Option Exception
entry_room_rule limit table = fails (nat_lt limit (data_space_image_size table.fields (length table.entries + 1))) exceptions.limit_exceeded 0

-- no unit of others holds the entry at which the cursor is, and the change may belong to the cursor's commit block
abbrev pub change_rules : State → ℕ → Cursor → ℕ → Option Exception
change_rules s p cursor at =
    first (held_rule s.units p cursor.block.0 cursor.space.0 at) (block_rules s p cursor.block.0 cursor.space.0)

-- there is room for the change in the journal space of its data space
abbrev pub journal_room : State → Cursor → UnitChange → Option Exception
journal_room s cursor change = journal_rule s cursor.block.0 (journal_bytes change) (journal_for s.held cursor.space.0)

-- the next ordinal
abbrev pub next_ordinal : DataTable → ℕ
next_ordinal table = length table.entries + 1

-- a new entry under the next ordinal
abbrev pub insertion : Held → List Operand → UnitChange
insertion h ops = change_of (cursor_named h ops 1).space.0 (next_ordinal (table_of h ops 1)) None (Some (bytes_at h ops 2))

-- the image of the data space, and the journal, have room
abbrev pub insertion_limits : State → List Operand → Option Exception
insertion_limits s ops =
    first (entry_room_rule s.limit (table_of s.held ops 1)) (journal_room s (cursor_named s.held ops 1) (insertion s.held ops))

unfoldable pub insdsen_fails : State → ℕ → List Operand → Option Exception
insdsen_fails s p ops =
    first (entry_rule (table_of s.held ops 1).fields s.held ops)
    (first (change_rules s p (cursor_named s.held ops 1) (next_ordinal (table_of s.held ops 1)))
    (insertion_limits s ops))

abbrev pub with_inserted : List ℕ → DataTable → DataTable
with_inserted entry table = inserted table entry

-- the entry is under the next ordinal, and so is the cursor
abbrev pub insdsen_changes : Held → List Operand → Changes
insdsen_changes h ops =
    Then (Entered (cursor_named h ops 1).block.0 (insertion h ops) (with_inserted (bytes_at h ops 2)))
    (OnCursor (target h ops 1) (at_position (next_ordinal (table_of h ops 1))))

abbrev pub insdsen : Instruction
insdsen = record inert {
  needs = λ s p d r. through_cursor s.held r.operands 1 Change rights.insert Change;
  fails = λ s p d r. insdsen_fails s p r.operands;
  changes = λ s p d r. insdsen_changes s.held r.operands;
}

abbrev pub change_at : Held → List Operand → DataEntry → UnitChange
change_at h ops entry = change_of (cursor_named h ops 1).space.0 (cursor_named h ops 1).position (current h ops 1) entry

-- the cursor is at an entry; then the rules of every change
unfoldable pub current_fails : State → ℕ → List Operand → DataEntry → Option Exception
current_fails s p ops entry =
    first (position_rule s.held ops 1)
    (first (change_rules s p (cursor_named s.held ops 1) (cursor_named s.held ops 1).position)
    (journal_room s (cursor_named s.held ops 1) (change_at s.held ops entry)))

abbrev pub with_changed : ℕ → DataEntry → DataTable → DataTable
with_changed at entry table = with_entry_changed table at entry

-- another entry is under the cursor's ordinal, or none
abbrev pub current_changes : Held → List Operand → DataEntry → Changes
current_changes h ops entry =
    Entered (cursor_named h ops 1).block.0 (change_at h ops entry) (with_changed (cursor_named h ops 1).position entry)

unfoldable pub updsen_fails : State → ℕ → List Operand → Option Exception
updsen_fails s p ops =
    first (entry_rule (table_of s.held ops 1).fields s.held ops) (current_fails s p ops (Some (bytes_at s.held ops 2)))

abbrev pub updsen : Instruction
updsen = record inert {
  needs = λ s p d r. through_cursor s.held r.operands 1 Change rights.update Change;
  fails = λ s p d r. updsen_fails s p r.operands;
  changes = λ s p d r. current_changes s.held r.operands (Some (bytes_at s.held r.operands 2));
}

-- the cursor stays where it is
abbrev pub deldsen : Instruction
deldsen = record inert {
  needs = λ s p d r. through_cursor s.held r.operands 1 Change rights.delete Change;
  fails = λ s p d r. current_fails s p r.operands None;
  changes = λ s p d r. current_changes s.held r.operands None;
}
