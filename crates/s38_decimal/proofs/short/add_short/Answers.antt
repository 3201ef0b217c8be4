use Rattle.std.proofs.Common.{sym, ◌∙◌}
use Rattle.std.specs.Int.{w128}
use Rattle.std.proofs.lemmas.Int.{to_z-of_z}
use Rattle.s38_base.specs.Attributes.{fraction_of}
use Rattle.s38_decimal.proofs.Attributes.{first_fraction, fits_same, second_fraction}
use Rattle.s38_decimal.proofs.SumLaws.{plain_sum}
use Rattle.s38_decimal.proofs.short.add_short.Goals as goal

pub returns-then-has_one_fraction-clause-exact : goal.returns-then-has_one_fraction-clause-exact
returns-then-has_one_fraction-clause-exact c =
    let a = c.args.a in
    let b = c.args.b in
    let x = fits_same a.attr a.units a.fits in
    let y = fits_same b.attr b.units b.fits in
    let word = to_z-of_z w128 c.short_sum.result (record { sfits = c.short_sum.type_inv }) in
    let one = sym c.has_one_fraction.ensures ∙ c.if-has_one_fraction.true in
    let first = first_fraction a.attr b.attr c.args.to.attr one in
    let second = second_fraction a.attr b.attr c.args.to.attr one in
    let e = plain_sum c.args.to.round (fraction_of c.args.to.attr) a.units b.units in
    cc
