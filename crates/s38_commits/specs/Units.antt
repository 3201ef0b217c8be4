-- The units that are begun: each commit block that has one, in rising order of its number, with its unit.
use Rattle.std.specs.Prelude.{◌≡◌, ℕ, ◌==◌, nat_lt, Bool, true, false, Option, Some, None, List, [], ◌∷◌, find, if◌then◌else◌, is_some}
use Rattle.std.specs.Option.{option_and_then, option_map}
use Rattle.std.specs.Ordering.{nat_cmp}
use Rattle.std.specs.List.{filter, list_any}
use Rattle.std.specs.List.Sorted.{IsStrictlySortedBy}
use Rattle.std.specs.Map.{keys_of, lookup, remove_entry}
use Rattle.std.specs.BTreeMap.{insert_entry, is_at}
use Rattle.s38_commits.specs.Changes.{has_change, has_change_in, note_refusal}
use Rattle.s38_commits.specs.Unit.{CommitUnit, noted}
use Rattle.s38_commits.specs.declared.change.UnitChange.{UnitChange}
use Rattle.s38_commits.specs.declared.fault.UnitFault.{UnitFault}

abbrev pub UnitMap : Type 0
UnitMap = List (ℕ × CommitUnit)

-- the unit of a commit block
abbrev pub unit_of : UnitMap → ℕ → Option CommitUnit
unit_of units block = lookup (is_at (nat_cmp block)) units

-- ---- how the units change

-- a unit without a change
abbrev pub with_empty_unit : UnitMap → ℕ → ℕ → ℕ → UnitMap
with_empty_unit units block process number = insert_entry nat_cmp units block (record { process = process; number = number; changes = [] })

-- the unit of a block is another one from now on
abbrev pub with_unit_changed : UnitMap → ℕ → (CommitUnit → CommitUnit) → UnitMap
with_unit_changed [] block f = []
with_unit_changed (e ∷ es) block f = if e.0 == block then (e.0, f e.1) ∷ es else e ∷ with_unit_changed es block f

-- one more change in the unit of a block
abbrev pub with_change : UnitMap → ℕ → UnitChange → UnitMap
with_change units block change = with_unit_changed units block (noted change)

-- a unit of the block: the one that it has, or else one without a change
abbrev pub with_unit_opened : UnitMap → ℕ → ℕ → ℕ → UnitMap
with_unit_opened units block process number = if is_some (unit_of units block) then units else with_empty_unit units block process number

-- one more change in the unit of a block, which is begun where the block has none
abbrev pub with_change_joined : UnitMap → ℕ → ℕ → ℕ → UnitChange → UnitMap
with_change_joined units block process number change = with_change (with_unit_opened units block process number) block change

-- no unit of the block any more
abbrev pub ended : UnitMap → ℕ → UnitMap
ended units block = remove_entry (is_at (nat_cmp block)) units

-- why a change is not noted in the unit of a block
abbrev pub refusal_in : UnitMap → ℕ → UnitChange → Option UnitFault
refusal_in units block change = option_and_then (λ unit. note_refusal unit.changes change) (unit_of units block)

-- the changes of a block's unit, none where it has none
abbrev pub changes_of : Option CommitUnit → List UnitChange
changes_of None = []
changes_of (Some unit) = unit.changes

-- why a change does not join the unit of a block, or a unit without a change where the block has none
abbrev pub join_refusal : UnitMap → ℕ → UnitChange → Option UnitFault
join_refusal units block change = note_refusal (changes_of (unit_of units block)) change

-- ---- what is asked of them

-- the first unit that has a change of an entry, with its block
abbrev pub owner : UnitMap → ℕ → ℕ → Option (ℕ × CommitUnit)
owner units space at = find (λ e. has_change space at e.1.changes) units

-- the block of that unit
abbrev pub unit_block : UnitMap → ℕ → ℕ → Option ℕ
unit_block units space at = option_map (λ e. e.0) (owner units space at)

-- the process of that unit
abbrev pub holder : UnitMap → ℕ → ℕ → Option ℕ
holder units space at = option_map (λ e. e.1.process) (owner units space at)

-- the first block above a number
abbrev pub next_block : UnitMap → ℕ → Option ℕ
next_block units after = option_map (λ e. e.0) (find (λ e. nat_lt after e.0) units)

-- whether a unit, beside its block, lies above a number
abbrev pub is_above : ℕ → ℕ × CommitUnit → Bool
is_above after e = nat_lt after e.0

-- the units of the blocks above a number
abbrev pub above : ℕ → UnitMap → UnitMap
above after units = filter (is_above after) units

-- whether a unit, beside its block, has a change of an entry of a data space
abbrev pub is_unit_in : ℕ → ℕ × CommitUnit → Bool
is_unit_in space e = has_change_in space e.1.changes

-- whether some unit has a change of an entry of a data space
abbrev pub is_space_changed : UnitMap → ℕ → Bool
is_space_changed units space = list_any (is_unit_in space) units

-- ---- what is true of them

abbrev pub BlocksRise : UnitMap → Type 0
BlocksRise units = IsStrictlySortedBy nat_cmp (keys_of units)

-- whether the unit of a block has a change of an entry
abbrev pub changes_entry : Option CommitUnit → ℕ → ℕ → Bool
changes_entry None space at = false
changes_entry (Some unit) space at = has_change space at unit.changes

-- an entry is changed in one unit at most
abbrev pub AreDisjoint : UnitMap → Type 0
AreDisjoint units = (one other space at : ℕ) → changes_entry (unit_of units one) space at ≡ true
    → changes_entry (unit_of units other) space at ≡ true → one ≡ other
