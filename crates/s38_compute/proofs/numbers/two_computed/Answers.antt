use Rattle.std.proofs.Common.{sym, ◌∙◌}
use Rattle.s38_compute.proofs.NumberLaws.{fits_numeric, plain_difference, plain_need, plain_sum}
use Rattle.s38_compute.proofs.numbers.two_computed.Goals as goal

pub add-requires : goal.add-requires
add-requires c =
    let a = c.args.a.now in
    let b = c.args.b.now in
    plain_need a.attr b.attr c.args.to.attr (fits_numeric a.attr a.units a.fits) (fits_numeric b.attr b.units b.fits) (sym c.is_plain.ensures ∙ c.if-not-is_plain.false)

pub sub-requires : goal.sub-requires
sub-requires c =
    let a = c.args.a.now in
    let b = c.args.b.now in
    plain_need a.attr b.attr c.args.to.attr (fits_numeric a.attr a.units a.fits) (fits_numeric b.attr b.units b.fits) (sym c.is_plain.ensures ∙ c.if-not-is_plain.false)

pub returns-in-Addn-clause-exact : goal.returns-in-Addn-clause-exact
returns-in-Addn-clause-exact c =
    let a = c.args.a.now in
    let b = c.args.b.now in
    plain_sum c.args.op c.args.to a.attr b.attr a.units b.units c.add.result (fits_numeric a.attr a.units a.fits) (fits_numeric b.attr b.units b.fits) (sym c.is_plain.ensures ∙ c.if-not-is_plain.false) c.in-Addn.is c.add.ensures.exact

pub returns-in-Subn-clause-exact : goal.returns-in-Subn-clause-exact
returns-in-Subn-clause-exact c =
    let a = c.args.a.now in
    let b = c.args.b.now in
    plain_difference c.args.op c.args.to a.attr b.attr a.units b.units c.sub.result (fits_numeric a.attr a.units a.fits) (fits_numeric b.attr b.units b.fits) (sym c.is_plain.ensures ∙ c.if-not-is_plain.false) c.in-Subn.is c.sub.ensures.exact
