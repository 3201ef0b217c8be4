-- What the journal spaces of a state tell of its units of changes, and what an image and its journal space make of a data
-- space.
use Rattle.std.specs.Prelude.{◌≡◌, ◌<◌, ◌≤◌, ℕ, false, List, Option, Some, find, length}
use Rattle.s38_base.specs.Limits.{body_limit}
use Rattle.s38_commits.specs.Changes.{has_change, is_of_entry}
use Rattle.s38_commits.specs.Unit.{CommitUnit}
use Rattle.s38_commits.specs.Units.{UnitMap, changes_entry, unit_of}
use Rattle.s38_commits.specs.declared.change.UnitChange.{UnitChange}
use Rattle.s38_dataspaces.specs.Entries.{entry_at}
use Rattle.s38_dataspaces.specs.Table.{DataTable, data_space_image_size}
use Rattle.s38_journals.specs.Entries.{JournalRecord}
use Rattle.s38_restart.specs.Redo.{counts}
use Rattle.s38_rules.specs.state.Held.{Held}
use Rattle.s38_rules.specs.state.Journaling.{journal_for_block}
use Rattle.s38_rules.specs.state.PartsAt.{journal_at, table_at}
use Rattle.s38_laws_commits.specs.Counting.{also, has_commit, has_entry, has_unit, only_of_unit}
use Rattle.s38_laws_commits.specs.Ordinals.{redone_at, redone_at_from}

-- the entries of the journal space of a number
abbrev pub entries_at : Held → ℕ → List JournalRecord
entries_at h journal = (journal_at h journal).entries

-- the first change of an entry
abbrev pub first_in : ℕ → ℕ → List UnitChange → Option UnitChange
first_in space at changes = find (is_of_entry space at) changes

-- the image of a data space is no longer than the limit of a body
abbrev pub IsSmall : DataTable → Type 0
IsSmall t = data_space_image_size t.fields (length t.entries) ≤ body_limit

-- ---- what a journal space tells of a unit

pub record IsTold (es : List JournalRecord) (tables : ℕ → DataTable) (unit : CommitUnit) : Type 0 where
  -- no entry commits the unit
  pub uncommitted : has_commit unit.number es ≡ false
  -- its entries are for what it has changed
  pub changed : (n at : ℕ) → has_change n at unit.changes ≡ false → has_entry unit.number n at es ≡ false
  -- and lead from what the data space held before its first change to what it holds now
  pub now : (n at : ℕ) (c : UnitChange) → first_in n at unit.changes ≡ Some c
      → redone_at_from (only_of_unit unit.number) (tables n).fields n at 1 es c.before ≡ entry_at (tables n).entries at

pub record AreTold (h : Held) (units : UnitMap) : Type 0 where
  -- no entry is of a unit that begins later
  pub fresh : (journal u : ℕ) → length (entries_at h journal) < u → has_unit u (entries_at h journal) ≡ false
  pub each : (block journal : ℕ) (unit : CommitUnit) → unit_of units block ≡ Some unit → journal_for_block h block ≡ Some journal
      → IsTold (entries_at h journal) (table_at h) unit
  -- the units of a journal space have different numbers
  pub differ : (one other journal : ℕ) (u v : CommitUnit) → unit_of units one ≡ Some u → unit_of units other ≡ Some v
      → journal_for_block h one ≡ Some journal → journal_for_block h other ≡ Some journal → u.number ≡ v.number → one ≡ other
  pub small : (n : ℕ) → IsSmall (table_at h n)

-- ---- what an image and the journal space make of a data space

-- no unit has changed an entry
abbrev pub IsUntouched : UnitMap → ℕ → ℕ → Type 0
IsUntouched units n at = (block : ℕ) → changes_entry (unit_of units block) n at ≡ false

-- a table is the image of the data space of a number, which counts a journal space in up to a sequence
pub record IsTableImage (units : UnitMap) (es : List JournalRecord) (t : DataTable) (n : ℕ) (image : ℕ) (i : DataTable) : Type 0 where
  pub fields : i.fields ≡ t.fields
  pub small : IsSmall i
  pub within : image ≤ length es
  -- where no unit has changed the entry, the journal space leads from the image to the current entry
  pub free : (at : ℕ) → IsUntouched units n at → redone_at t.fields n image es at (entry_at i.entries at) ≡ entry_at t.entries at
  -- where one has, it leads to the entry before the change, and to the current one if the unit is counted too
  pub before : (at block : ℕ) (unit : CommitUnit) (c : UnitChange) → unit_of units block ≡ Some unit → first_in n at unit.changes ≡ Some c
      → redone_at t.fields n image es at (entry_at i.entries at) ≡ c.before
  pub now : (at block : ℕ) (unit : CommitUnit) (c : UnitChange) → unit_of units block ≡ Some unit → first_in n at unit.changes ≡ Some c
      → redone_at_from (also (counts image es) unit.number) t.fields n at 1 es (entry_at i.entries at) ≡ entry_at t.entries at
