-- What a store keeps of an object as it is now: every change that is not committed is taken back, and what is said
-- of memory and of forcing is not kept.
use Rattle.std.specs.Prelude.{ℕ, ◌+◌, true, ◌==◌, List, [], ◌∷◌, Option, Some, None, find, if◌then◌else◌}
use Rattle.s38_commits.specs.Changes.{is_of_entry}
use Rattle.s38_commits.specs.Unit.{CommitUnit}
use Rattle.s38_commits.specs.Units.{UnitMap, owner}
use Rattle.s38_commits.specs.declared.change.UnitChange.{UnitChange}
use Rattle.s38_dataspaces.specs.Entries.{DataEntry}
use Rattle.s38_dataspaces.specs.Table.{DataTable}
use Rattle.s38_image.specs.declared.stored.Stored.{Stored}
use Rattle.s38_journals.specs.Journals.{JournalList}
use Rattle.s38_rules.specs.declared.object.Body.{Body}
use Rattle.s38_rules.specs.declared.object.Body.TheVariants as bodies
use Rattle.s38_rules.specs.declared.object.Object.{Object}

abbrev pub oldest_change_of : ℕ → ℕ → Option (ℕ × CommitUnit) → Option UnitChange
oldest_change_of space at None = None
oldest_change_of space at (Some e) = find (is_of_entry space at) e.1.changes

-- the first change of an entry by the unit that has changed it
abbrev pub first_change : UnitMap → ℕ → ℕ → Option UnitChange
first_change units space at = oldest_change_of space at (owner units space at)

abbrev pub before_change : DataEntry → Option UnitChange → DataEntry
before_change entry None = entry
before_change entry (Some change) = change.before

-- the entry before the unit of changes that has changed it; without such a unit it stays as it is
abbrev pub settled_entry : UnitMap → ℕ → ℕ → DataEntry → DataEntry
settled_entry units space at entry = before_change entry (first_change units space at)

-- the same of all entries, whose ordinals count on from one
abbrev pub settled_entries : UnitMap → ℕ → ℕ → List DataEntry → List DataEntry
settled_entries units space at [] = []
settled_entries units space at (entry ∷ entries) = settled_entry units space at entry ∷ settled_entries units space (at + 1) entries

abbrev pub settled_table : UnitMap → ℕ → DataTable → DataTable
settled_table units space t = record t { spare = 0; entries = settled_entries units space 1 t.entries }

abbrev pub settled_journal : JournalList → JournalList
settled_journal j = record j { spare = 0; unforced = 0 }

abbrev pub settled_body : UnitMap → ℕ → Body → Body
settled_body units number (bodies.DataSpace d) = bodies.DataSpace (record d { space = settled_table units number d.space })
settled_body units number (bodies.Journal j) = bodies.Journal (settled_journal j)
settled_body units number b = b

-- the sequence that a data space says: that of its journal space's last entry, and 0 without a port
abbrev pub settled_sequence : ℕ → Body → ℕ
settled_sequence last (bodies.DataSpace d) = if d.port.0 == 0 then 0 else last
settled_sequence last _ = 0

-- what a store keeps of an object, with the units as they are and the last sequence of its journal space
abbrev pub committed_image : UnitMap → ℕ → Object → Stored
committed_image units last o = record {
  object = record o { on_disk = true; body = settled_body units o.number.0 o.body };
  sequence = settled_sequence last o.body;
}
