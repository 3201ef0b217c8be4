use Rattle.std.proofs.Common.{◌-◌, length, rules, arith}
use Rattle.s38_decimal.proofs.DigitAt.{both_digits}
use Rattle.s38_decimal.proofs.Powers.{tens_le}
use Rattle.s38_decimal.proofs.write.spread_long.Goals as goal

pub overflow_cast-number-2 : goal.overflow_cast-number-2
overflow_cast-number-2 c = omega (arith, tens_le (length c.args.into.now) 32 c.requires.few)

pub returns : goal.returns
returns c = both_digits c.spread.new.into c.spread-2.new.into c.args.number (length c.args.into.now - 16) (length c.args.into.now) (grind (arith, c.spread.ensures)) (grind (arith, c.spread-2.ensures)) (search rules)
