use Rattle.std.proofs.Common.{ap, ◌∙◌, pos, arith}
use Rattle.std.specs.Int.{w128}
use Rattle.std.proofs.lemmas.Int.{to_z-of_z, to_z_pos}
use Rattle.s38_decimal.proofs.signed.raised.Goals as goal

pub returns : goal.returns
returns c =
    let product = to_z-of_z w128 c.product.result (record { sfits = c.product.type_inv }) in
    let units = to_z-of_z w128 c.args.units c.ranges.units in
    let power = to_z_pos w128 c.ten.result (omega arith) ∙ ap pos c.ten.ensures.value in
    cc
