use Rattle.std.proofs.Common.{◌≡◌, ◌^◌, sym, ◌∙◌, arith}
use Rattle.std.proofs.Math.Nat.{one-le-pow}
use Rattle.s38_base.specs.Attributes.{fraction_of}
use Rattle.s38_decimal.proofs.Attributes.{fits_same}
use Rattle.s38_decimal.proofs.OrderLaws.{order_same}
use Rattle.s38_decimal.proofs.short.compare_short.Goals as goal

pub returns-then-fraction : goal.returns-then-fraction
returns-then-fraction c =
    let a = c.args.a in
    let b = c.args.b in
    let p = fits_same a.attr a.units a.fits in
    let q = fits_same b.attr b.units b.fits in
    let one : fraction_of a.attr ≡ fraction_of b.attr = sym c.fraction.ensures ∙ c.if-fraction.true ∙ c.fraction-2.ensures in
    let e = order_same a.units b.units (10 ^ fraction_of b.attr) (one-le-pow (fraction_of b.attr) 10 (omega arith)) in
    cc
