use Rattle.std.proofs.Common.{arith}
use Rattle.std.proofs.Math.Nat.{one-le-pow}
use Rattle.s38_words.proofs.DigitLaws.{tens_le}
use Rattle.s38_words.proofs.literals.digit_at.Goals as goal

pub pow-requires : goal.pow-requires
pow-requires c = omega (arith, tens_le c.from.result 31 (omega arith))

pub nonzero_div-result : goal.nonzero_div-result
nonzero_div-result c = omega (arith, one-le-pow c.from.result 10 (omega arith))
