use Rattle.std.proofs.Common.{◌≡◌}
use Rattle.std.specs.BTreeMap.{values}
use Rattle.s38_commits.proofs.JoinLaws.{has_unit_in}
use Rattle.s38_commits.proofs.unit_map.changes_space.Given as goal

-- a unit that is sought is among those that are left, if it is among all
abbrev pub invariant-loop-unit : goal.invariant-loop-unit
invariant-loop-unit l = has_unit_in l.space.0 l.unit-iterator ≡ has_unit_in l.space.0 (values l.units)
