use Rattle.std.proofs.Common.{◌≡◌, drop}
use Rattle.s38_rules.specs.families.Calls.{are_arguments, parameters_in}
use Rattle.s38_programs.proofs.calls.are_arguments.Given as goal

abbrev pub invariant-loop-row : goal.invariant-loop-row
invariant-loop-row l = are_arguments (parameters_in l.rows) l.fn.arguments ≡ are_arguments (parameters_in (drop l.row-index l.rows)) l.rest
