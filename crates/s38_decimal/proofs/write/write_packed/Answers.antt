use Rattle.std.proofs.Common.{◌-◌, ◌*◌, length, arith}
use Rattle.s38_decimal.proofs.Powers.{tens_le}
use Rattle.s38_decimal.proofs.write.write_packed.Goals as goal

pub overflow_cast-number : goal.overflow_cast-number
overflow_cast-number c = omega (arith, tens_le (2 * length c.args.into.now - 1) 19 (omega arith))
