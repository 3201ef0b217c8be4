use Rattle.std.proofs.Common.{arith}
use Rattle.s38_flush.proofs.NumberLaws.{numbers_done, numbers_on}
use Rattle.s38_flush.proofs.numbers.numbers_of.Goals as goal

pub loop-one-preserved : goal.loop-one-preserved
loop-one-preserved c =
    numbers_on c.loop-one.one-index _ c.args.all.now c.loop-one.found.items c.add_forced.new.into.items _ (omega (arith, c.loop-one-test.true)) c.in_ok-add_forced.ensures c.loop-one.invariant

pub returns : goal.returns
returns c = numbers_done c.loop-one.one-index c.args.all.now c.loop-one.found.items _ (omega (arith, c.loop-one-test.false)) c.loop-one.invariant
