use Rattle.std.proofs.Common.{neg_ℤ, refl, ap, sym, ◌∙◌, arith}
use Rattle.std.specs.Int.{w128}
use Rattle.std.proofs.lemmas.Int.{to_z-of_z}
use Rattle.std.specs.Prelude.{unsigned_abs}
use Rattle.s38_base.specs.Attributes.{fraction_of}
use Rattle.s38_decimal.proofs.Attributes.{IsOf-few, IsOf-fits, IsOf-negative, IsOf-small, IsOf-word, first_fraction, fits_same, second_fraction}
use Rattle.s38_decimal.proofs.Rooms.{same_word}
use Rattle.s38_decimal.proofs.SumLaws.{difference_is_sum, plain_sum}
use Rattle.s38_decimal.proofs.sums.sub.Goals as goal

pub negative-negative-requires : goal.negative-negative-requires
negative-negative-requires c =
    let b = c.args.b in
    omega (arith, ap unsigned_abs (fits_same b.attr b.units b.fits), IsOf-small b.attr b.units (IsOf-fits b.attr b.units b.fits))

pub sum-requires : goal.sum-requires
sum-requires c =
    let a = c.args.a in
    let b = c.args.b in
    let negative = IsOf-word b.attr c.negative-negative.result (neg_ℤ b.units) (c.negative-negative.ensures ∙ ap neg_ℤ (fits_same b.attr b.units b.fits)) (IsOf-negative b.attr b.units (IsOf-fits b.attr b.units b.fits)) in
    omega (arith, IsOf-few a.attr _ (IsOf-word a.attr a.units a.units refl (IsOf-fits a.attr a.units a.fits)), IsOf-few b.attr _ negative)

pub returns-then-has_one_fraction-clause-exact : goal.returns-then-has_one_fraction-clause-exact
returns-then-has_one_fraction-clause-exact c =
    let a = c.args.a in
    let b = c.args.b in
    let x = fits_same a.attr a.units a.fits in
    let is = c.negative-negative.ensures ∙ ap neg_ℤ (fits_same b.attr b.units b.fits) in
    let y = same_word c.negative-negative.result (neg_ℤ b.units) is (IsOf-small b.attr (neg_ℤ b.units) (IsOf-negative b.attr b.units (IsOf-fits b.attr b.units b.fits))) in
    let word = to_z-of_z w128 c.sum.result (record { sfits = c.sum.type_inv }) in
    let one = sym c.has_one_fraction.ensures ∙ c.if-has_one_fraction.true in
    let first = first_fraction a.attr b.attr c.args.to.attr one in
    let second = second_fraction a.attr b.attr c.args.to.attr one in
    let e = difference_is_sum a.units b.units (fraction_of a.attr) (fraction_of b.attr) in
    let f = plain_sum c.args.to.round (fraction_of c.args.to.attr) a.units (neg_ℤ b.units) in
    cc

pub total-requires-clause-first : goal.total-requires-clause-first
total-requires-clause-first c = let a = c.args.a in IsOf-word a.attr a.units a.units refl (IsOf-fits a.attr a.units a.fits)

pub total-requires-clause-second : goal.total-requires-clause-second
total-requires-clause-second c =
    let b = c.args.b in
    IsOf-word b.attr c.negative-negative.result (neg_ℤ b.units) (c.negative-negative.ensures ∙ ap neg_ℤ (fits_same b.attr b.units b.fits)) (IsOf-negative b.attr b.units (IsOf-fits b.attr b.units b.fits))

pub returns-else-has_one_fraction-clause-exact : goal.returns-else-has_one_fraction-clause-exact
returns-else-has_one_fraction-clause-exact c =
    let a = c.args.a in
    let b = c.args.b in
    let x = fits_same a.attr a.units a.fits in
    let is = c.negative-negative.ensures ∙ ap neg_ℤ (fits_same b.attr b.units b.fits) in
    let y = same_word c.negative-negative.result (neg_ℤ b.units) is (IsOf-small b.attr (neg_ℤ b.units) (IsOf-negative b.attr b.units (IsOf-fits b.attr b.units b.fits))) in
    let e = difference_is_sum a.units b.units (fraction_of a.attr) (fraction_of b.attr) in
    cc
