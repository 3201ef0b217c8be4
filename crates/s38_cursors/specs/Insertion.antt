-- Room for an entry that is to be inserted: taken before anything changes, and given back where something is refused.
use Rattle.std.specs.Prelude.{ℕ, ◌==◌, Bool, false, List, Option, Some, None, if◌then◌else◌}
use Rattle.s38_commits.specs.declared.change.UnitChange.{UnitChange}
use Rattle.s38_commits.specs.Changes.{journal_bytes}
use Rattle.s38_commits.specs.Units.{UnitMap}
use Rattle.s38_dataspaces.specs.Table.{DataTable}
use Rattle.s38_journals.specs.Journals.{JournalList}
use Rattle.s38_rules.specs.declared.data_body.DataBody.{DataBody}
use Rattle.s38_rules.specs.families.Changing.{change_entry, logged, next_sequence, number_for, with_change_logged}
use Rattle.s38_rules.specs.families.EntryChanges.{with_inserted}
use Rattle.s38_rules.specs.state.Held.{Held}
use Rattle.s38_rules.specs.state.Journaling.{open_after}
use Rattle.s38_rules.specs.state.Parts.{data_part, part_at}
use Rattle.s38_rules.specs.state.PartsAt.{journal_at, on_table}
use Rattle.s38_rules.specs.state.State.{State}

-- a data space has no room yet
abbrev pub needs_room : Option DataBody → Bool
needs_room None = false
needs_room (Some d) = d.space.spare == 0

-- one further entry takes no memory
abbrev pub roomy : DataTable → DataTable
roomy table = if table.spare == 0 then record table { spare = 1 } else table

-- the room that was taken is given back
abbrev pub roomless : DataTable → DataTable
roomless table = record table { spare = 0 }

-- the data space of a number has room
abbrev pub with_room : Held → ℕ → Held
with_room h n = on_table h n roomy

-- room that was taken is given back
abbrev pub given_back : Held → ℕ → Bool → Held
given_back h n taken = if taken then on_table h n roomless else h

-- a journal after a change, which is its next entry
abbrev pub logged_by : Held → UnitMap → ℕ → ℕ → ℕ → UnitChange → JournalList → JournalList
logged_by h units p block journal change =
    with_change_logged (journal_bytes change) (open_after h units journal block)
    (change_entry (number_for units block (next_sequence (journal_at h journal))) p change)

-- a change that inserts an entry is logged, and the entry is there
abbrev pub insertion_logged : State → ℕ → ℕ → UnitChange → List ℕ → State
insertion_logged s p block change entry =
    record (logged s p block change) { held = on_table (logged s p block change).held change.space.0 (with_inserted entry) }
