-- Which entries of a journal space are those of a unit, and which entries count beside others.
use Rattle.std.specs.Prelude.{ℕ, ◌==◌, Bool, ◌&&◌, ◌||◌, List, [], if◌then◌else◌}
use Rattle.std.specs.List.{list_any}
use Rattle.s38_journals.specs.Entries.{JournalRecord}
use Rattle.s38_journals.specs.declared.entry.EntryKind.TheVariants.{Decommit}
use Rattle.s38_restart.specs.Redo.{is_commit}
use Rattle.s38_laws_commits.specs.Ordinals.{EntryFilter, is_for}

-- those of one unit more count
abbrev pub also : EntryFilter → ℕ → EntryFilter
also which unit sequence u = which sequence u || (u == unit)

-- those of a unit alone count
abbrev pub only_of_unit : ℕ → EntryFilter
only_of_unit unit sequence u = u == unit

abbrev pub is_of_unit : ℕ → JournalRecord → Bool
is_of_unit unit e = e.unit == unit

-- some entry is of the unit
abbrev pub has_unit : ℕ → List JournalRecord → Bool
has_unit unit es = list_any (is_of_unit unit) es

abbrev pub is_of_unit_for : ℕ → ℕ → ℕ → JournalRecord → Bool
is_of_unit_for unit number at e = (e.unit == unit) && is_for number at e

-- some entry of the unit is for an ordinal of the data space of a number
abbrev pub has_entry : ℕ → ℕ → ℕ → List JournalRecord → Bool
has_entry unit number at es = list_any (is_of_unit_for unit number at) es

abbrev pub ends_unit : ℕ → JournalRecord → Bool
ends_unit unit e = is_commit e.kind && (e.unit == unit)

-- some entry commits the unit
abbrev pub has_commit : ℕ → List JournalRecord → Bool
has_commit unit es = list_any (ends_unit unit) es

-- an entry of the unit says no more than that it was taken back
abbrev pub silent : ℕ → JournalRecord → JournalRecord
silent unit e = if e.unit == unit then record e { kind = Decommit; object = record { 0 = 0 }; ordinal = 0; before = []; after = [] } else e
