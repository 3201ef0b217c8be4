-- What is asked of the entry of a data space at which a cursor is.
use Rattle.std.specs.Prelude.{ℕ, Option, is_none}
use Rattle.s38_base.specs.declared.exception.Exception.{Exception}
use Rattle.s38_base.specs.Exceptions as exceptions
use Rattle.s38_base.specs.Signals.{fails, first}
use Rattle.s38_dataspaces.specs.Entries.{DataEntry, entry_at}
use Rattle.s38_dataspaces.specs.Table.{DataTable}
use Rattle.s38_rules.specs.declared.cursor.Cursor.{Cursor}
use Rattle.s38_rules.specs.families.Changing.{change_of}
use Rattle.s38_rules.specs.families.EntryChanges.{change_rules, journal_room}
use Rattle.s38_rules.specs.state.State.{State}

-- the entry at which a cursor is
abbrev pub entry_under : DataTable → Cursor → DataEntry
entry_under table cursor = entry_at table.entries cursor.position

-- a cursor is at an entry
abbrev pub current_rule : DataTable → Cursor → ℕ → Option Exception
current_rule table cursor k = fails (is_none (entry_under table cursor)) exceptions.position_empty k

-- a cursor is at an entry; then the rules of its change to another one, or to none
abbrev pub current_entry_fails : State → ℕ → Cursor → DataTable → DataEntry → Option Exception
current_entry_fails s p cursor table entry =
    first (current_rule table cursor 1)
    (first (change_rules s p cursor cursor.position)
    (journal_room s cursor (change_of cursor.space.0 cursor.position (entry_under table cursor) entry)))
