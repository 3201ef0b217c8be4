use Rattle.std.proofs.Common.{arith}
use Rattle.s38_process.specs.Replies.{place_for}
use Rattle.s38_process.proofs.ReceiptLaws.{none_past}
use Rattle.s38_process.proofs.receiving.place_for.Goals as goal

pub returns : goal.returns
returns c =
    none_past c.args.rows.now c.args.homes.now c.loop-arg.more.now c.args.args.now c.loop-arg.arg-index
    (place_for c.args.rows.now c.args.homes.now c.args.classes.now c.args.args.now) (omega (arith, c.loop-arg-test.false)) c.loop-arg.invariant
