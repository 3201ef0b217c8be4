-- A change that goes to a journal space, and into the unit of its commit block: what it leaves of the objects, and of
-- the units.
use Rattle.std.specs.Prelude.{ℕ}
use Rattle.s38_commits.specs.declared.change.UnitChange.{UnitChange}
use Rattle.s38_commits.specs.Changes.{journal_bytes}
use Rattle.s38_commits.specs.Units.{UnitMap}
use Rattle.s38_journals.specs.Entries.{JournalRecord}
use Rattle.s38_journals.specs.Journals.{JournalList}
use Rattle.s38_rules.specs.families.Changing.{change_entry, next_sequence, number_for, units_after, with_change_logged}
use Rattle.s38_rules.specs.state.Held.{Held}
use Rattle.s38_rules.specs.state.Journaling.{open_after}
use Rattle.s38_rules.specs.state.PartsAt.{journal_at, on_journal}

-- the number of the change's unit
abbrev pub number_in : Held → UnitMap → ℕ → ℕ → ℕ
number_in h units block journal = number_for units block (next_sequence (journal_at h journal))

-- what the journal says of the change
abbrev pub entry_in : Held → UnitMap → ℕ → ℕ → UnitChange → ℕ → JournalRecord
entry_in h units p block change journal = change_entry (number_in h units block journal) p change

-- the journal after its entry, with room for the ends of the units that are then open
abbrev pub journal_logged : Held → UnitMap → ℕ → ℕ → UnitChange → ℕ → JournalList → JournalList
journal_logged h units p block change journal =
    with_change_logged (journal_bytes change) (open_after h units journal block) (entry_in h units p block change journal)

-- the journal space has its entry
abbrev pub objects_logged : Held → UnitMap → ℕ → ℕ → UnitChange → ℕ → Held
objects_logged h units p block change journal = on_journal h journal (journal_logged h units p block change journal)

-- the unit of its block has it
abbrev pub units_logged : Held → UnitMap → ℕ → ℕ → UnitChange → ℕ → UnitMap
units_logged h units p block change journal = units_after units p block (number_in h units block journal) change
