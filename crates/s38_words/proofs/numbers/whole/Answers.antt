use Rattle.std.proofs.Common.{◌≡◌, true, arith}
use Rattle.s38_words.proofs.DigitLaws.{whole-lt}
use Rattle.s38_words.specs.Number.{are_digits}
use Rattle.s38_words.proofs.numbers.whole.Goals as goal

pub signed-requires : goal.signed-requires
signed-requires c =
    let digits : are_digits c.without_minus-digits.result.now ≡ true = grind arith in
    (whole-lt c.without_minus-digits.result.now c.value_after.result c.value_after.ensures digits c.if-digits-le-MOST_DIGITS.true).1
