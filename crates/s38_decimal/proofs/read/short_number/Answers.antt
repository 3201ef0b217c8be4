use Rattle.std.proofs.Common.{arith}
use Rattle.std.proofs.lemmas.Bool.Decides.{nat_tests}
use Rattle.s38_base.specs.Scalar.{digit_in}
use Rattle.s38_decimal.proofs.Powers.{room_for_digit, tens_le}
use Rattle.s38_decimal.proofs.Spelling.{not_decimal}
use Rattle.s38_decimal.proofs.read.short_number.Goals as goal

pub returns-then-digit-gt9 : goal.returns-then-digit-gt9
returns-then-digit-gt9 c =
    let bad = not_decimal (digit_in c.args.attr c.args.bytes.now) c.loop-k.k c.args.n (omega arith) (grind (arith, nat_tests)) in
    grind arith

pub overflow_mul-number : goal.overflow_mul-number
overflow_mul-number c = omega (arith, room_for_digit c.args.n c.loop-k.k c.loop-k.number 0 c.loop-k.invariant.short (omega arith) (omega arith), tens_le c.args.n 18 c.requires.short)

pub overflow_add-number : goal.overflow_add-number
overflow_add-number c = omega (arith, room_for_digit c.args.n c.loop-k.k c.loop-k.number c.digit_in-digit.result c.loop-k.invariant.short (omega arith) (omega arith), tens_le c.args.n 18 c.requires.short)
