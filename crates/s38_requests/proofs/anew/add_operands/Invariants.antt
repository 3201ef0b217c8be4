use Rattle.std.proofs.Common.{◌≡◌, ◌++◌, drop}
use Rattle.s38_requests.specs.Requests.{operands_of}
use Rattle.s38_requests.proofs.anew.add_operands.Given as goal

abbrev pub invariant-loop-arg : goal.invariant-loop-arg
invariant-loop-arg l = l.made.items ++ operands_of l.scope.rows.now l.scope.homes.now l.scope.values.now l.more (drop l.arg-index l.args) ≡ l.initial.made.items ++ operands_of l.scope.rows.now l.scope.homes.now l.scope.values.now l.classes l.args
