use Rattle.std.proofs.Common.{◌≡◌, ◌++◌, drop}
use Rattle.s38_process.specs.Invocations.{blank_values}
use Rattle.s38_process.proofs.variables.blank_values.Given as goal

abbrev pub invariant-loop-row : goal.invariant-loop-row
invariant-loop-row l = l.values.items ++ blank_values (drop l.row-index l.rows) ≡ blank_values l.rows
