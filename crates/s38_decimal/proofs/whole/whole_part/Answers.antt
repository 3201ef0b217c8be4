use Rattle.std.proofs.Common.{arith}
use Rattle.std.proofs.Math.Nat.{one-le-pow}
use Rattle.std.specs.Int.{w128, cast_signed, cast_unsigned}
use Rattle.s38_decimal.proofs.Attributes.{fits_fraction, fits_magnitude}
use Rattle.s38_decimal.proofs.Fractions.{quotient_le}
use Rattle.s38_decimal.proofs.Rooms.{signed_word}
use Rattle.s38_decimal.proofs.whole.whole_part.Goals as goal

pub ten-one-requires : goal.ten-one-requires
ten-one-requires c = omega (arith, fits_fraction c.args.a.attr c.args.a.units c.fraction-behind.result c.args.a.fits c.fraction-behind.ensures)

pub divided-whole-requires : goal.divided-whole-requires
divided-whole-requires c = omega (arith, c.ten-one.ensures.value, one-le-pow c.fraction-behind.result 10 (omega arith))

pub with_sign-requires : goal.with_sign-requires
with_sign-requires c =
    omega (arith, c.divided-whole.ensures.quotient, quotient_le c.unsigned_abs-units.result c.ten-one.result, fits_magnitude c.args.a.attr c.args.a.units c.unsigned_abs-units.result c.args.a.fits c.unsigned_abs-units.ensures.value)

pub returns-clause-bound : goal.returns-clause-bound
returns-clause-bound c =
    signed_word c.with_sign.result (cast_signed w128 (cast_unsigned w128 c.args.a.units)) c.divided-whole.result.0 c.with_sign.ensures
    (omega (arith, c.divided-whole.ensures.quotient, quotient_le c.unsigned_abs-units.result c.ten-one.result, fits_magnitude c.args.a.attr c.args.a.units c.unsigned_abs-units.result c.args.a.fits c.unsigned_abs-units.ensures.value))
