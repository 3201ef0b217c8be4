use Rattle.std.proofs.Common.{◌*◌, ◌-◌, ap, arith}
use Rattle.s38_decimal.proofs.OrderLaws.{crossed}
use Rattle.s38_decimal.proofs.Rooms.{raised_le}
use Rattle.s38_decimal.proofs.order.magnitudes.Goals as goal

pub overflow_mul-n : goal.overflow_mul-n
overflow_mul-n c =
    omega (arith, ap (λ p. c.args.n * p) c.ten.ensures.value, raised_le c.args.n 31 (c.max-most.result - c.args.f) 38 c.requires.first_digits (omega arith))

pub overflow_mul-m : goal.overflow_mul-m
overflow_mul-m c =
    omega (arith, ap (λ p. c.args.m * p) c.ten-then-most-g-le7.ensures.value, raised_le c.args.m 31 (c.max-most.result - c.args.g) 38 c.requires.second_digits (omega arith))

pub returns-then-most-g-le7 : goal.returns-then-most-g-le7
returns-then-most-g-le7 c = let e = crossed c.args.n c.args.m c.args.f c.args.g in cc

pub returns : goal.returns
returns c = let e = crossed c.args.n c.args.m c.args.f c.args.g in cc
