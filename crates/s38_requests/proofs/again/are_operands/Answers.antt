use Rattle.std.proofs.Common.{arith, sym, ◌∙◌}
use Rattle.s38_requests.proofs.OperandLaws.{none_after, none_there}
use Rattle.s38_requests.proofs.again.are_operands.Goals as goal

pub returns : goal.returns
returns c empty =
    let none = none_there c.loop-arg.left.now c.is_empty.result c.is_empty.ensures empty in
    let past = none_after c.args.scope.rows.now c.args.scope.homes.now c.args.scope.values.now c.loop-arg.more.now c.args.args.now c.loop-arg.arg-index (omega (arith, c.loop-arg-test.false)) in
    c.loop-arg.invariant (none ∙ sym past)
