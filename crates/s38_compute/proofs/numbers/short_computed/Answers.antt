use Rattle.std.proofs.Common.{sym, ◌∙◌}
use Rattle.s38_decimal.proofs.Attributes.{fits_same}
use Rattle.s38_compute.proofs.NumberLaws.{fits_numeric, plain_difference, plain_need, plain_sum}
use Rattle.s38_compute.proofs.numbers.short_computed.Goals as goal

pub add_short-requires-clause-need : goal.add_short-requires-clause-need
add_short-requires-clause-need c =
    let a = c.args.a in
    let b = c.args.b in
    plain_need a.attr b.attr c.args.to.attr (fits_numeric a.attr a.units a.fits) (fits_numeric b.attr b.units b.fits) (sym c.is_plain.ensures ∙ c.if-not-is_plain.false)

pub sub-requires : goal.sub-requires
sub-requires c =
    let a = c.args.a in
    let b = c.args.b in
    plain_need a.attr b.attr c.args.to.attr (fits_numeric a.attr a.units a.fits) (fits_numeric b.attr b.units b.fits) (sym c.is_plain.ensures ∙ c.if-not-is_plain.false)

pub returns-in-Ok-clause-exact : goal.returns-in-Ok-clause-exact
returns-in-Ok-clause-exact c =
    let a = c.args.a in
    let b = c.args.b in
    let is = plain_sum c.args.op c.args.to a.attr b.attr a.units b.units c.add_short.result (fits_numeric a.attr a.units a.fits) (fits_numeric b.attr b.units b.fits) (sym c.is_plain.ensures ∙ c.if-not-is_plain.false) c.in-Addn.is c.add_short.ensures.exact in
    let same = fits_same c.args.to.attr c.in-Ok.units c.in-Ok.ensures.fits in
    cc

pub returns-in-Ok-sub-clause-exact : goal.returns-in-Ok-sub-clause-exact
returns-in-Ok-sub-clause-exact c =
    let a = c.args.a in
    let b = c.args.b in
    let is = plain_difference c.args.op c.args.to a.attr b.attr a.units b.units c.sub.result (fits_numeric a.attr a.units a.fits) (fits_numeric b.attr b.units b.fits) (sym c.is_plain.ensures ∙ c.if-not-is_plain.false) c.in-Subn.is c.sub.ensures.exact in
    let same = fits_same c.args.to.attr c.in-Ok-sub.units c.in-Ok-sub.ensures.fits in
    cc
