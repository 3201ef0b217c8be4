use Rattle.std.proofs.Common.{arith}
use Rattle.std.proofs.lemmas.List.{places}
use Rattle.s38_base.specs.Scalar.{digit_at}
use Rattle.s38_decimal.proofs.DigitAt.{written_digit}
use Rattle.s38_decimal.proofs.write.digits.Goals as goal

pub returns-then-count-le18 : goal.returns-then-count-le18
returns-then-count-le18 c = λ k below. written_digit c.spread.new.into _ (digit_at 10 c.args.number) _ k c.spread.ensures (grind (arith, places, c.spread.auto.into))

pub returns-else-count-le18 : goal.returns-else-count-le18
returns-else-count-le18 c = λ k below. written_digit c.spread_long.new.into _ (digit_at 10 c.args.number) _ k c.spread_long.ensures (grind (arith, places, c.spread_long.auto.into))
