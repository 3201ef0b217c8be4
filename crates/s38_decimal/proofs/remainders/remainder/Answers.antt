use Rattle.std.proofs.Common.{◌≡◌, ap, refl, arith}
use Rattle.std.specs.Prelude.{unsigned_abs}
use Rattle.s38_base.specs.Attributes.{fraction_of}
use Rattle.s38_decimal.specs.Common.{brought, rest_of}
use Rattle.s38_decimal.specs.Need.{longer_fraction}
use Rattle.s38_decimal.proofs.Attributes.{IsOf-fits, IsOf-word, fits_numeric, fits_same, fraction_le}
use Rattle.s38_decimal.proofs.RemainderLaws.{brought_above, remainder_room, remainder_units}
use Rattle.s38_decimal.proofs.Rooms.{bottom_room, same_top, same_word, top_room}
use Rattle.s38_decimal.proofs.SumLaws.{brought_small}
use Rattle.s38_decimal.proofs.remainders.remainder.Goals as goal

pub brought-x-requires : goal.brought-x-requires
brought-x-requires c =
    let a = c.args.a in
    let number = IsOf-fits a.attr a.units a.fits in
    record {
      number = IsOf-word a.attr a.units a.units refl number;
      room = omega (arith, c.requires.need, fraction_le a.attr number.numeric);
    }

pub brought-y-requires : goal.brought-y-requires
brought-y-requires c =
    let b = c.args.b in
    let number = IsOf-fits b.attr b.units b.fits in
    record {
      number = IsOf-word b.attr b.units b.units refl number;
      room = omega (arith, c.requires.need, fraction_le b.attr number.numeric);
    }

pub rest-top-requires : goal.rest-top-requires
rest-top-requires c =
    let a = c.args.a in
    let b = c.args.b in
    let x = brought (fraction_of a.attr) (fraction_of b.attr) a.units in
    let y = brought (fraction_of b.attr) (fraction_of a.attr) b.units in
    let p = fits_same a.attr a.units a.fits in
    let q = fits_same b.attr b.units b.fits in
    let x_is : c.brought-x.result ≡ x = cc in
    let y_is : c.brought-y.result ≡ y = cc in
    let x_small = brought_small a.attr b.attr a.units 38 (IsOf-fits a.attr a.units a.fits) (omega (arith, c.requires.need, fraction_le a.attr (fits_numeric a.attr a.units a.fits))) in
    let y_small = brought_small b.attr a.attr b.units 38 (IsOf-fits b.attr b.units b.fits) (omega (arith, c.requires.need, fraction_le b.attr (fits_numeric b.attr b.units b.fits))) in
    record {
      small = omega (arith, ap unsigned_abs (same_word c.brought-x.result x x_is x_small), x_small);
      divisor = omega (arith, ap unsigned_abs (same_word c.brought-y.result y y_is y_small), brought_above (fraction_of b.attr) (fraction_of a.attr) b.units c.requires.divisor);
    }

pub answer-requires-clause-top_room : goal.answer-requires-clause-top_room
answer-requires-clause-top_room c =
    let a = c.args.a in
    let b = c.args.b in
    let to = c.args.to.attr in
    let x = brought (fraction_of a.attr) (fraction_of b.attr) a.units in
    let y = brought (fraction_of b.attr) (fraction_of a.attr) b.units in
    let p = fits_same a.attr a.units a.fits in
    let q = fits_same b.attr b.units b.fits in
    let x_is : c.brought-x.result ≡ x = cc in
    let y_is : c.brought-y.result ≡ y = cc in
    let x_small = brought_small a.attr b.attr a.units 38 (IsOf-fits a.attr a.units a.fits) (omega (arith, c.requires.need, fraction_le a.attr (fits_numeric a.attr a.units a.fits))) in
    let y_small = brought_small b.attr a.attr b.units 38 (IsOf-fits b.attr b.units b.fits) (omega (arith, c.requires.need, fraction_le b.attr (fits_numeric b.attr b.units b.fits))) in
    let x_same = same_word c.brought-x.result x x_is x_small in
    let y_same = same_word c.brought-y.result y y_is y_small in
    let is : c.rest-top.result ≡ rest_of x y = cc in
    top_room c.rest-top.result (rest_of x y) c.fraction-at.result c.longer_fraction-behind.result (fraction_of to) (longer_fraction a.attr b.attr) is c.fraction-at.ensures c.longer_fraction-behind.ensures
    (remainder_room a.attr b.attr to a.units y (IsOf-fits a.attr a.units a.fits) c.requires.need)

pub answer-requires-clause-bottom_room : goal.answer-requires-clause-bottom_room
answer-requires-clause-bottom_room c = bottom_room _ (omega (arith, c.longer_fraction-behind.ensures, c.requires.need))

pub returns-clause-exact : goal.returns-clause-exact
returns-clause-exact c =
    let a = c.args.a in
    let b = c.args.b in
    let to = c.args.to.attr in
    let x = brought (fraction_of a.attr) (fraction_of b.attr) a.units in
    let y = brought (fraction_of b.attr) (fraction_of a.attr) b.units in
    let p = fits_same a.attr a.units a.fits in
    let q = fits_same b.attr b.units b.fits in
    let x_is : c.brought-x.result ≡ x = cc in
    let y_is : c.brought-y.result ≡ y = cc in
    let x_small = brought_small a.attr b.attr a.units 38 (IsOf-fits a.attr a.units a.fits) (omega (arith, c.requires.need, fraction_le a.attr (fits_numeric a.attr a.units a.fits))) in
    let y_small = brought_small b.attr a.attr b.units 38 (IsOf-fits b.attr b.units b.fits) (omega (arith, c.requires.need, fraction_le b.attr (fits_numeric b.attr b.units b.fits))) in
    let x_same = same_word c.brought-x.result x x_is x_small in
    let y_same = same_word c.brought-y.result y y_is y_small in
    let is : c.rest-top.result ≡ rest_of x y = cc in
    let top = same_top c.rest-top.result (rest_of x y) _ is (remainder_room a.attr b.attr to a.units y (IsOf-fits a.attr a.units a.fits) c.requires.need) in
    let e = remainder_units c.args.to.round (fraction_of to) (fraction_of a.attr) (fraction_of b.attr) a.units b.units c.requires.divisor in
    cc
