use Rattle.std.proofs.Common.{◌≡◌, ◌*ℤ◌, ◌+◌, arith}
use Rattle.s38_base.specs.Attributes.{fraction_of}
use Rattle.s38_decimal.proofs.Attributes.{fits_same}
use Rattle.s38_decimal.proofs.ProductLaws.{product_room, product_top, product_units}
use Rattle.s38_decimal.proofs.Rooms.{bottom_room, same_top, top_room}
use Rattle.s38_decimal.proofs.products.mult.Goals as goal

pub product-top-requires : goal.product-top-requires
product-top-requires c = product_room c.args.a.attr c.args.b.attr c.args.to.attr c.args.a.units c.args.b.units c.args.a.fits c.args.b.fits c.requires

pub answer-requires-clause-top_room : goal.answer-requires-clause-top_room
answer-requires-clause-top_room c =
    let x = fits_same c.args.a.attr c.args.a.units c.args.a.fits in
    let y = fits_same c.args.b.attr c.args.b.units c.args.b.fits in
    let is : c.product-top.result ≡ c.args.a.units *ℤ c.args.b.units = cc in
    let small = product_top c.args.a.attr c.args.b.attr c.args.to.attr c.args.a.units c.args.b.units c.args.a.fits c.args.b.fits c.requires in
    let up : c.fraction-at.result ≡ fraction_of c.args.to.attr = c.fraction-at.ensures in
    let down : c.fraction-first.result + c.fraction-second.result ≡ fraction_of c.args.a.attr + fraction_of c.args.b.attr = omega (arith, c.fraction-first.ensures, c.fraction-second.ensures) in
    top_room c.product-top.result (c.args.a.units *ℤ c.args.b.units) c.fraction-at.result (c.fraction-first.result + c.fraction-second.result) (fraction_of c.args.to.attr) (fraction_of c.args.a.attr + fraction_of c.args.b.attr) is up down small

pub answer-requires-clause-bottom_room : goal.answer-requires-clause-bottom_room
answer-requires-clause-bottom_room c = bottom_room _ (omega arith)

pub returns-clause-exact : goal.returns-clause-exact
returns-clause-exact c =
    let x = fits_same c.args.a.attr c.args.a.units c.args.a.fits in
    let y = fits_same c.args.b.attr c.args.b.units c.args.b.fits in
    let is : c.product-top.result ≡ c.args.a.units *ℤ c.args.b.units = cc in
    let small = product_top c.args.a.attr c.args.b.attr c.args.to.attr c.args.a.units c.args.b.units c.args.a.fits c.args.b.fits c.requires in
    let top = same_top c.product-top.result (c.args.a.units *ℤ c.args.b.units) _ is small in
    let e = product_units c.args.to.round (fraction_of c.args.to.attr) (fraction_of c.args.a.attr) (fraction_of c.args.b.attr) c.args.a.units c.args.b.units in
    cc
