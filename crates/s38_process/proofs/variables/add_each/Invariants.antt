use Rattle.std.proofs.Common.{◌≡◌, ◌++◌, take}
use Rattle.s38_process.specs.Invocations.{first_values}
use Rattle.s38_process.proofs.variables.add_each.Given as goal

abbrev pub invariant-loop-row : goal.invariant-loop-row
invariant-loop-row l = l.values.items ≡ l.initial.values.items ++ first_values (take l.row-index l.rows)
