-- How units of changes end: committed, or taken back.
use Rattle.std.specs.Prelude.{ℕ, ◌==◌, List, [], ◌∷◌, Option, Some, None, if◌then◌else◌}
use Rattle.s38_commits.specs.declared.change.UnitChange.{UnitChange}
use Rattle.s38_commits.specs.Unit.{CommitUnit}
use Rattle.s38_commits.specs.Units.{UnitMap, ended}
use Rattle.s38_dataspaces.specs.Table.{DataTable, restored}
use Rattle.s38_journals.specs.declared.entry.EntryKind.{EntryKind}
use Rattle.s38_journals.specs.declared.entry.EntryKind.TheVariants.{Commit, Decommit}
use Rattle.s38_journals.specs.Entries.{JournalRecord}
use Rattle.s38_journals.specs.Journals.{JournalList, journal_with}
use Rattle.s38_rules.specs.state.Held.{Held}
use Rattle.s38_rules.specs.state.Journaling.{journal_for_block}
use Rattle.s38_rules.specs.state.PartsAt.{on_journal, on_table}
use Rattle.s38_rules.specs.state.State.{State}

-- what the journal says of the end of a unit
abbrev pub end_entry : EntryKind → ℕ → CommitUnit → JournalRecord
end_entry kind p unit = record { unit = unit.number; process = p; kind = kind; object = record { 0 = 0 }; ordinal = 0; before = []; after = [] }

abbrev pub journal_with_entry : JournalRecord → JournalList → JournalList
journal_with_entry entry journal = journal_with journal entry

-- it goes into a journal space; the room for it was reserved as the unit began
abbrev pub end_written : Held → Option ℕ → JournalRecord → Held
end_written h None entry = h
end_written h (Some journal) entry = on_journal h journal (journal_with_entry entry)

-- the entry before a change is there again, or none where the change inserted it
abbrev pub put_back : UnitChange → DataTable → DataTable
put_back change table = restored table change.at change.before

abbrev pub undone : Held → UnitChange → Held
undone h change = on_table h change.space.0 (put_back change)

-- changes are taken back, the newest first
unfoldable pub all_undone : Held → List UnitChange → Held
all_undone h [] = h
all_undone h (change ∷ newer) = undone (all_undone h newer) change

-- the unit of a block is no more, and the journal says how it ended
abbrev pub unit_closed : State → ℕ → ℕ → EntryKind → CommitUnit → Held → State
unit_closed s p block kind unit h =
    record s { held = end_written h (journal_for_block s.held block) (end_entry kind p unit); units = ended s.units block }

-- what a unit changed stays
abbrev pub committed : State → ℕ → ℕ → Option CommitUnit → State
committed s p block None = s
committed s p block (Some unit) = unit_closed s p block Commit unit s.held

-- what a unit changed is taken back
abbrev pub decommitted : State → ℕ → ℕ → Option CommitUnit → State
decommitted s p block None = s
decommitted s p block (Some unit) = unit_closed s p block Decommit unit (all_undone s.held unit.changes)

abbrev pub decommitted_of : State → ℕ → (ℕ × CommitUnit) → State
decommitted_of s p e = if e.1.process == p then decommitted s p e.0 (Some e.1) else s

-- of some units those of a process are taken back, one after another
unfoldable pub all_decommitted : State → ℕ → UnitMap → State
all_decommitted s p [] = s
all_decommitted s p (e ∷ units) = all_decommitted (decommitted_of s p e) p units
