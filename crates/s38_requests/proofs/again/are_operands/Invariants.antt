use Rattle.std.proofs.Common.{◌≡◌, drop}
use Rattle.s38_requests.specs.Requests.{operands_of}
use Rattle.s38_requests.proofs.again.are_operands.Given as goal

-- where the operands that are left are those of the arguments that are left, all are
abbrev pub invariant-loop-arg : goal.invariant-loop-arg
invariant-loop-arg l =
    l.left ≡ operands_of l.scope.rows.now l.scope.homes.now l.scope.values.now l.more (drop l.arg-index l.args)
    → l.operands ≡ operands_of l.scope.rows.now l.scope.homes.now l.scope.values.now l.classes l.args
