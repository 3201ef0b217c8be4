-- Changes of entries, and how many bytes of a journal they take.
use Rattle.std.specs.Prelude.{ℕ, ◌+◌, ◌==◌, Bool, ◌&&◌, nat_le, Option, Some, None, List, length, if◌then◌else◌, sum_by}
use Rattle.std.specs.List.{list_any}
use Rattle.s38_commits.specs.declared.change.UnitChange.{UnitChange}
use Rattle.s38_commits.specs.declared.fault.UnitFault.{UnitFault}
use Rattle.s38_commits.specs.declared.fault.UnitFault.TheVariants.{Full}

-- the bytes of an entry, or none where there is none
abbrev pub entry_size : Option (List ℕ) → ℕ
entry_size None = 0
entry_size (Some bytes) = length bytes

-- a change takes 41 bytes of a journal, and those of the entry before and after
abbrev pub journal_bytes : UnitChange → ℕ
journal_bytes change = 41 + entry_size change.before + entry_size change.after

abbrev pub unit_bytes : List UnitChange → ℕ
unit_bytes changes = sum_by journal_bytes changes

-- how many bytes of a journal the changes of a unit may take
abbrev pub largest_unit : ℕ
largest_unit = 1048576

-- one more change must leave the unit within its bytes
abbrev pub note_refusal : List UnitChange → UnitChange → Option UnitFault
note_refusal changes change = if nat_le (unit_bytes changes + journal_bytes change) largest_unit then None else Some Full

-- whether a change is of that entry
abbrev pub is_of_entry : ℕ → ℕ → UnitChange → Bool
is_of_entry space at change = (change.space.0 == space) && (change.at == at)

-- whether an entry is changed
abbrev pub has_change : ℕ → ℕ → List UnitChange → Bool
has_change space at changes = list_any (is_of_entry space at) changes

-- whether a change is of an entry of that data space
abbrev pub is_in : ℕ → UnitChange → Bool
is_in space change = change.space.0 == space

-- whether an entry of a data space is changed
abbrev pub has_change_in : ℕ → List UnitChange → Bool
has_change_in space changes = list_any (is_in space) changes
