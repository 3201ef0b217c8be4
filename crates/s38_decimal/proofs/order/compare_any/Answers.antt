use Rattle.std.proofs.Common.{◌≡◌, ◌^◌, pos, ap, sym, ◌∙◌, arith}
use Rattle.std.specs.Prelude.{int_lt}
use Rattle.std.proofs.Math.Nat.{one-le-pow}
use Rattle.s38_base.specs.Attributes.{fraction_of}
use Rattle.s38_decimal.proofs.Attributes.{fits_fraction, fits_magnitude, fits_same}
use Rattle.s38_decimal.proofs.OrderLaws.{order_down, order_greater, order_less, order_up}
use Rattle.s38_decimal.proofs.order.compare_any.Goals as goal

pub magnitudes-requires : goal.magnitudes-requires
magnitudes-requires c =
    let a = c.args.a in
    let b = c.args.b in
    record {
      first = fits_fraction b.attr b.units c.fraction-g.result b.fits c.fraction-g.ensures;
      second = fits_fraction a.attr a.units c.fraction-f.result a.fits c.fraction-f.ensures;
      first_digits = fits_magnitude b.attr b.units c.unsigned_abs-y.result b.fits c.unsigned_abs-y.ensures.value;
      second_digits = fits_magnitude a.attr a.units c.unsigned_abs-x.result a.fits c.unsigned_abs-x.ensures.value;
    }

pub magnitudes-requires-else-b-lt0-2 : goal.magnitudes-requires-else-b-lt0-2
magnitudes-requires-else-b-lt0-2 c =
    let a = c.args.a in
    let b = c.args.b in
    record {
      first = fits_fraction a.attr a.units c.fraction-f.result a.fits c.fraction-f.ensures;
      second = fits_fraction b.attr b.units c.fraction-g.result b.fits c.fraction-g.ensures;
      first_digits = fits_magnitude a.attr a.units c.unsigned_abs-x.result a.fits c.unsigned_abs-x.ensures.value;
      second_digits = fits_magnitude b.attr b.units c.unsigned_abs-y.result b.fits c.unsigned_abs-y.ensures.value;
    }

pub returns-else-b-lt0 : goal.returns-else-b-lt0
returns-else-b-lt0 c =
    let a = c.args.a in
    let b = c.args.b in
    order_less a.units b.units (10 ^ fraction_of b.attr) (10 ^ fraction_of a.attr) (one-le-pow (fraction_of b.attr) 10 (omega arith))
    (ap (λ z. int_lt z (pos 0)) (sym (fits_same a.attr a.units a.fits)) ∙ c.if-a-lt0.true)
    (ap (λ z. int_lt z (pos 0)) (sym (fits_same b.attr b.units b.fits)) ∙ c.if-b-lt0.false)

pub returns-then-b-lt0-2 : goal.returns-then-b-lt0-2
returns-then-b-lt0-2 c =
    let a = c.args.a in
    let b = c.args.b in
    order_greater a.units b.units (10 ^ fraction_of b.attr) (10 ^ fraction_of a.attr) (one-le-pow (fraction_of a.attr) 10 (omega arith))
    (ap (λ z. int_lt z (pos 0)) (sym (fits_same a.attr a.units a.fits)) ∙ c.if-a-lt0.false)
    (ap (λ z. int_lt z (pos 0)) (sym (fits_same b.attr b.units b.fits)) ∙ c.if-b-lt0-2.true)

pub returns-then-b-lt0 : goal.returns-then-b-lt0
returns-then-b-lt0 c =
    let a = c.args.a in
    let b = c.args.b in
    let p = fits_same a.attr a.units a.fits in
    let q = fits_same b.attr b.units b.fits in
    let f : c.fraction-f.result ≡ fraction_of a.attr = c.fraction-f.ensures in
    let e = order_down a.units b.units (10 ^ fraction_of b.attr) (10 ^ fraction_of a.attr)
    (ap (λ z. int_lt z (pos 0)) (sym p) ∙ c.if-a-lt0.true)
    (ap (λ z. int_lt z (pos 0)) (sym q) ∙ c.if-b-lt0.true) in
    cc

pub returns-else-b-lt0-2 : goal.returns-else-b-lt0-2
returns-else-b-lt0-2 c =
    let a = c.args.a in
    let b = c.args.b in
    let p = fits_same a.attr a.units a.fits in
    let q = fits_same b.attr b.units b.fits in
    let f : c.fraction-f.result ≡ fraction_of a.attr = c.fraction-f.ensures in
    let e = order_up a.units b.units (10 ^ fraction_of b.attr) (10 ^ fraction_of a.attr)
    (ap (λ z. int_lt z (pos 0)) (sym p) ∙ c.if-a-lt0.false)
    (ap (λ z. int_lt z (pos 0)) (sym q) ∙ c.if-b-lt0-2.false) in
    cc
