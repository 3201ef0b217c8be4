use Rattle.std.proofs.Common.{◌≡◌, ◌*ℤ◌, ◌+◌, ap, ◌∙◌, arith}
use Rattle.std.specs.Prelude.{unsigned_abs}
use Rattle.std.specs.Int.{int_signum}
use Rattle.s38_base.specs.Attributes.{fraction_of}
use Rattle.s38_decimal.proofs.Attributes.{IsOf-fits, IsOf-small, digits_few, fits_numeric, fits_same, fraction_le}
use Rattle.s38_decimal.proofs.QuotientLaws.{quotient_bottom, quotient_top, quotient_units}
use Rattle.s38_decimal.proofs.Rooms.{bottom_is, same_top, top_room}
use Rattle.s38_decimal.proofs.quotients.quotient.Goals as goal

pub turned-top-requires-clause-small : goal.turned-top-requires-clause-small
turned-top-requires-clause-small c =
    let a = c.args.a in
    omega (arith, ap unsigned_abs (fits_same a.attr a.units a.fits), IsOf-small a.attr a.units (IsOf-fits a.attr a.units a.fits))

pub overflow_add-at : goal.overflow_add-at
overflow_add-at c =
    let a = c.args.a in
    let b = c.args.b in
    let a_numeric = fits_numeric a.attr a.units a.fits in
    let b_numeric = fits_numeric b.attr b.units b.fits in
    omega (arith, c.fraction-at.ensures, c.fraction-second.ensures, c.requires.need, fraction_le a.attr a_numeric, fraction_le b.attr b_numeric, digits_few a.attr a_numeric, digits_few b.attr b_numeric)

pub answer-requires-clause-top_room : goal.answer-requires-clause-top_room
answer-requires-clause-top_room c =
    let a = c.args.a in
    let b = c.args.b in
    let to = c.args.to.attr in
    let x = fits_same a.attr a.units a.fits in
    let y = fits_same b.attr b.units b.fits in
    let is : c.turned-top.result ≡ a.units *ℤ int_signum b.units = cc in
    let up : c.fraction-at.result + c.fraction-second.result ≡ fraction_of to + fraction_of b.attr = omega (arith, c.fraction-at.ensures, c.fraction-second.ensures) in
    top_room c.turned-top.result (a.units *ℤ int_signum b.units) (c.fraction-at.result + c.fraction-second.result) c.fraction-first.result (fraction_of to + fraction_of b.attr) (fraction_of a.attr) is up c.fraction-first.ensures
    (quotient_top a.attr b.attr to a.units b.units a.fits c.requires.divisor c.requires.need)

pub answer-requires-clause-bottom_room : goal.answer-requires-clause-bottom_room
answer-requires-clause-bottom_room c =
    let a = c.args.a in
    let b = c.args.b in
    let to = c.args.to.attr in
    let is : c.unsigned_abs-bottom.result ≡ unsigned_abs b.units = c.unsigned_abs-bottom.ensures.value ∙ ap unsigned_abs (fits_same b.attr b.units b.fits) in
    let up : c.fraction-at.result + c.fraction-second.result ≡ fraction_of to + fraction_of b.attr = omega (arith, c.fraction-at.ensures, c.fraction-second.ensures) in
    bottom_is c.unsigned_abs-bottom.result (unsigned_abs b.units) (c.fraction-at.result + c.fraction-second.result) c.fraction-first.result (fraction_of to + fraction_of b.attr) (fraction_of a.attr) is up c.fraction-first.ensures
    (quotient_bottom a.attr b.attr to b.units b.fits c.requires.need)

pub returns-clause-exact : goal.returns-clause-exact
returns-clause-exact c =
    let a = c.args.a in
    let b = c.args.b in
    let to = c.args.to.attr in
    let x = fits_same a.attr a.units a.fits in
    let y = fits_same b.attr b.units b.fits in
    let is : c.turned-top.result ≡ a.units *ℤ int_signum b.units = cc in
    let top = same_top c.turned-top.result (a.units *ℤ int_signum b.units) _ is (quotient_top a.attr b.attr to a.units b.units a.fits c.requires.divisor c.requires.need) in
    let bottom : c.unsigned_abs-bottom.result ≡ unsigned_abs b.units = c.unsigned_abs-bottom.ensures.value ∙ ap unsigned_abs y in
    let first : c.fraction-first.result ≡ fraction_of a.attr = c.fraction-first.ensures in
    let e = quotient_units c.args.to.round (fraction_of to) (fraction_of a.attr) (fraction_of b.attr) a.units b.units in
    cc
