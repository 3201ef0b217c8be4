use Rattle.std.proofs.Common.{◌≡◌, arith}
use Rattle.std.specs.Int.{w128}
use Rattle.std.proofs.lemmas.Int.{to_z-of_z}
use Rattle.s38_base.specs.Attributes.{fraction_of}
use Rattle.s38_decimal.specs.Common.{common_sum}
use Rattle.s38_decimal.specs.Need.{longer_fraction}
use Rattle.s38_decimal.proofs.Attributes.{digits_few, fraction_le}
use Rattle.s38_decimal.proofs.Rooms.{bottom_room, same_top, top_room}
use Rattle.s38_decimal.proofs.SumLaws.{common_room, sum_units}
use Rattle.s38_decimal.proofs.sums.total.Goals as goal

pub answer-requires-clause-top_room : goal.answer-requires-clause-top_room
answer-requires-clause-top_room c =
    let first = c.args.first in
    let second = c.args.second in
    let z = common_sum (fraction_of first) (fraction_of second) c.args.x c.args.y in
    let x = to_z-of_z w128 c.args.x c.ranges.x in
    let y = to_z-of_z w128 c.args.y c.ranges.y in
    let is : c.common_sum-top.result ≡ z = cc in
    top_room c.common_sum-top.result z c.fraction-at.result c.longer_fraction-behind.result (fraction_of c.args.to.attr) (longer_fraction first second) is c.fraction-at.ensures c.longer_fraction-behind.ensures
    (common_room first second c.args.to.attr c.args.x c.args.y c.requires.first c.requires.second c.requires.need)

pub answer-requires-clause-bottom_room : goal.answer-requires-clause-bottom_room
answer-requires-clause-bottom_room c =
    let first = c.args.first in
    let second = c.args.second in
    bottom_room _ (omega (arith, c.longer_fraction-behind.ensures, digits_few first c.requires.first.numeric, digits_few second c.requires.second.numeric, fraction_le first c.requires.first.numeric, fraction_le second c.requires.second.numeric))

pub returns-clause-exact : goal.returns-clause-exact
returns-clause-exact c =
    let first = c.args.first in
    let second = c.args.second in
    let z = common_sum (fraction_of first) (fraction_of second) c.args.x c.args.y in
    let x = to_z-of_z w128 c.args.x c.ranges.x in
    let y = to_z-of_z w128 c.args.y c.ranges.y in
    let is : c.common_sum-top.result ≡ z = cc in
    let top = same_top c.common_sum-top.result z _ is (common_room first second c.args.to.attr c.args.x c.args.y c.requires.first c.requires.second c.requires.need) in
    let e = sum_units c.args.to.round (fraction_of c.args.to.attr) (fraction_of first) (fraction_of second) c.args.x c.args.y in
    cc
