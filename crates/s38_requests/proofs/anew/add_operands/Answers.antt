use Rattle.std.proofs.Common.{◌++◌, arith}
use Rattle.s38_requests.specs.Requests.{operands_of}
use Rattle.s38_requests.proofs.OperandLaws.{all_made}
use Rattle.s38_requests.proofs.anew.add_operands.Goals as goal

pub returns : goal.returns
returns c =
    all_made c.args.scope.rows.now c.args.scope.homes.now c.args.scope.values.now c.loop-arg.more.now c.args.args.now c.loop-arg.arg-index c.loop-arg.made.items
    (c.args.made.now.items ++ operands_of c.args.scope.rows.now c.args.scope.homes.now c.args.scope.values.now c.args.classes.now c.args.args.now)
    (omega (arith, c.loop-arg-test.false)) c.loop-arg.invariant
