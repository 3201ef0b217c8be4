use Rattle.std.proofs.Common.{◌≡◌, ap, ◌∙◌, arith}
use Rattle.std.specs.Int.{w128}
use Rattle.std.proofs.lemmas.Int.{to_z-of_z}
use Rattle.s38_base.specs.Attributes.{fraction_of}
use Rattle.s38_decimal.specs.Common.{brought}
use Rattle.s38_decimal.proofs.Attributes.{fraction_le}
use Rattle.s38_decimal.proofs.Rooms.{sum_is, sum_room}
use Rattle.s38_decimal.proofs.SumLaws.{brought_small}
use Rattle.s38_decimal.proofs.sums.common_sum.Goals as goal

pub sum-requires : goal.sum-requires
sum-requires c =
    let first = c.args.first in
    let second = c.args.second in
    let x = brought (fraction_of first) (fraction_of second) c.args.x in
    let y = brought (fraction_of second) (fraction_of first) c.args.y in
    let x_is : c.brought-one.result ≡ x = c.brought-one.ensures ∙ ap (brought (fraction_of first) (fraction_of second)) (to_z-of_z w128 c.args.x c.ranges.x) in
    let y_is : c.brought-other.result ≡ y = c.brought-other.ensures ∙ ap (brought (fraction_of second) (fraction_of first)) (to_z-of_z w128 c.args.y c.ranges.y) in
    sum_room c.brought-one.result c.brought-other.result x y x_is y_is
    (brought_small first second c.args.x 37 c.requires.first (omega (arith, fraction_le first c.requires.first.numeric, c.requires.need)))
    (brought_small second first c.args.y 37 c.requires.second (omega (arith, fraction_le second c.requires.second.numeric, c.requires.need)))

pub returns : goal.returns
returns c =
    let first = c.args.first in
    let second = c.args.second in
    let x = brought (fraction_of first) (fraction_of second) c.args.x in
    let y = brought (fraction_of second) (fraction_of first) c.args.y in
    let x_is : c.brought-one.result ≡ x = c.brought-one.ensures ∙ ap (brought (fraction_of first) (fraction_of second)) (to_z-of_z w128 c.args.x c.ranges.x) in
    let y_is : c.brought-other.result ≡ y = c.brought-other.ensures ∙ ap (brought (fraction_of second) (fraction_of first)) (to_z-of_z w128 c.args.y c.ranges.y) in
    to_z-of_z w128 c.sum.result (record { sfits = c.sum.type_inv })
    ∙ sum_is c.sum.result c.brought-one.result c.brought-other.result x y c.sum.ensures x_is y_is
    (brought_small first second c.args.x 38 c.requires.first (omega (arith, fraction_le first c.requires.first.numeric, c.requires.need)))
    (brought_small second first c.args.y 38 c.requires.second (omega (arith, fraction_le second c.requires.second.numeric, c.requires.need)))
