use Rattle.std.proofs.Common.{neg_ℤ, ap, ◌∙◌, arith}
use Rattle.std.specs.Prelude.{unsigned_abs}
use Rattle.s38_base.specs.Attributes.{fraction_of}
use Rattle.s38_decimal.proofs.Attributes.{IsOf-fits, IsOf-small, digits_few, fits_numeric, fits_same, fraction_le}
use Rattle.s38_decimal.proofs.ProductLaws.{negative_top}
use Rattle.s38_decimal.proofs.Rooms.{bottom_room, top_room}
use Rattle.s38_decimal.proofs.products.neg.Goals as goal

pub negative-top-requires : goal.negative-top-requires
negative-top-requires c =
    let a = c.args.a in
    omega (arith, ap unsigned_abs (fits_same a.attr a.units a.fits), IsOf-small a.attr a.units (IsOf-fits a.attr a.units a.fits))

pub answer-requires-clause-top_room : goal.answer-requires-clause-top_room
answer-requires-clause-top_room c =
    let a = c.args.a in
    top_room c.negative-top.result (neg_ℤ a.units) c.fraction-at.result c.fraction-behind.result (fraction_of c.args.to.attr) (fraction_of a.attr)
    (c.negative-top.ensures ∙ ap neg_ℤ (fits_same a.attr a.units a.fits)) c.fraction-at.ensures c.fraction-behind.ensures
    (negative_top a.attr c.args.to.attr a.units a.fits c.requires)

pub answer-requires-clause-bottom_room : goal.answer-requires-clause-bottom_room
answer-requires-clause-bottom_room c =
    let a = c.args.a in
    bottom_room _ (omega (arith, c.fraction-behind.ensures, fraction_le a.attr (fits_numeric a.attr a.units a.fits), digits_few a.attr (fits_numeric a.attr a.units a.fits)))
