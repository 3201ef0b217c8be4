use Rattle.std.proofs.Common.{◌≡◌, ◌+◌, ap, refl, arith}
use Rattle.s38_base.specs.Attributes.{fraction_of}
use Rattle.s38_decimal.proofs.Attributes.{digits_few, fits_numeric, fits_same, fraction_le}
use Rattle.s38_decimal.proofs.ProductLaws.{raised_top, raised_units}
use Rattle.s38_decimal.proofs.Rooms.{bottom_room, top_room}
use Rattle.s38_decimal.proofs.products.times_ten.Goals as goal

pub answer-requires-clause-top_room : goal.answer-requires-clause-top_room
answer-requires-clause-top_room c =
    let a = c.args.a in
    top_room a.units a.units (c.fraction-at.result + c.args.zeros) c.fraction-behind.result (fraction_of c.args.to.attr + c.args.zeros) (fraction_of a.attr) refl (ap (λ n. n + c.args.zeros) c.fraction-at.ensures) c.fraction-behind.ensures
    (raised_top a.attr c.args.to.attr a.units c.args.zeros a.fits c.requires)

pub answer-requires-clause-bottom_room : goal.answer-requires-clause-bottom_room
answer-requires-clause-bottom_room c =
    let a = c.args.a in
    bottom_room _ (omega (arith, c.fraction-behind.ensures, fraction_le a.attr (fits_numeric a.attr a.units a.fits), digits_few a.attr (fits_numeric a.attr a.units a.fits)))

pub returns-clause-exact : goal.returns-clause-exact
returns-clause-exact c =
    let a = c.args.a in
    let top = fits_same a.attr a.units a.fits in
    let behind : c.fraction-behind.result ≡ fraction_of a.attr = c.fraction-behind.ensures in
    let e = raised_units c.args.to.round (fraction_of c.args.to.attr) (fraction_of a.attr) c.args.zeros a.units in
    cc
