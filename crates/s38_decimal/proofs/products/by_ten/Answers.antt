use Rattle.std.proofs.Common.{◌≡◌, ◌+◌, ap, refl, arith}
use Rattle.s38_base.specs.Attributes.{fraction_of}
use Rattle.s38_decimal.proofs.Attributes.{fits_numeric, fits_same, fraction_le}
use Rattle.s38_decimal.proofs.ProductLaws.{lowered_top, lowered_units}
use Rattle.s38_decimal.proofs.Rooms.{bottom_room, top_room}
use Rattle.s38_decimal.proofs.products.by_ten.Goals as goal

pub answer-requires-clause-top_room : goal.answer-requires-clause-top_room
answer-requires-clause-top_room c =
    let a = c.args.a in
    top_room a.units a.units c.fraction-at.result (c.fraction-behind.result + c.args.zeros) (fraction_of c.args.to.attr) (fraction_of a.attr + c.args.zeros) refl c.fraction-at.ensures (ap (λ n. n + c.args.zeros) c.fraction-behind.ensures)
    (lowered_top a.attr c.args.to.attr a.units c.args.zeros c.requires.some a.fits c.requires.need)

pub answer-requires-clause-bottom_room : goal.answer-requires-clause-bottom_room
answer-requires-clause-bottom_room c =
    let a = c.args.a in
    bottom_room _ (omega (arith, c.fraction-behind.ensures, c.requires.need, fraction_le a.attr (fits_numeric a.attr a.units a.fits)))

pub returns-clause-exact : goal.returns-clause-exact
returns-clause-exact c =
    let a = c.args.a in
    let top = fits_same a.attr a.units a.fits in
    let behind : c.fraction-behind.result ≡ fraction_of a.attr = c.fraction-behind.ensures in
    let e = lowered_units c.args.to.round (fraction_of c.args.to.attr) (fraction_of a.attr) c.args.zeros a.units c.requires.some in
    cc
