-- A unit of commitment.
use Rattle.std.specs.Prelude.{◌≡◌, ℕ, ◌-◌, ◌≤◌, List, [], ◌∷◌, ◌++◌, length, take}
use Rattle.s38_commits.specs.Changes.{largest_unit, unit_bytes}
use Rattle.s38_commits.specs.declared.change.UnitChange.{UnitChange}

-- the process that began it, its number, and its changes in the order in which they were made
pub record CommitUnit : Type 0 where
  pub process : ℕ
  pub number : ℕ
  pub changes : List UnitChange

-- one more change, which is the newest
abbrev pub noted : UnitChange → CommitUnit → CommitUnit
noted change unit = record unit { changes = unit.changes ++ change ∷ [] }

-- the newest change less
abbrev pub without_newest : CommitUnit → CommitUnit
without_newest unit = record unit { changes = take (length unit.changes - 1) unit.changes }

-- the bytes of the changes are counted, and not too many
pub record BytesAreCounted (bytes : ℕ) (changes : List UnitChange) : Type 0 where
  pub counted : bytes ≡ unit_bytes changes
  pub within : bytes ≤ largest_unit
