use Rattle.std.proofs.Common.{arith}
use Rattle.s38_words.proofs.DigitLaws.{value_after-more}
use Rattle.s38_words.proofs.numbers.value_after.Goals as goal

pub loop-digit-preserved : goal.loop-digit-preserved
loop-digit-preserved c =
    let more = value_after-more c.args.start c.args.digits.now c.loop-digit.digit-index (omega arith) in
    omega (arith, more)
