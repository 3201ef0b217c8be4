-- The unit of one commit block, taken back as its process ends.
use Rattle.std.specs.Prelude.{ℕ, ◌==◌, Bool, false, Option, Some, None, if◌then◌else◌}
use Rattle.s38_commits.specs.Unit.{CommitUnit}
use Rattle.s38_commits.specs.Units.{unit_of}
use Rattle.s38_rules.specs.state.State.{State}
use Rattle.s38_rules.specs.families.Units.{decommitted}

-- there is a unit, and it is of the process
abbrev pub is_unit_of : ℕ → Option CommitUnit → Bool
is_unit_of p None = false
is_unit_of p (Some unit) = unit.process == p

-- the unit of a block is taken back where it is of the process
abbrev pub taken_back : State → ℕ → ℕ → State
taken_back s p block = if is_unit_of p (unit_of s.units block) then decommitted s p block (unit_of s.units block) else s
