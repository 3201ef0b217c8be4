use Rattle.std.proofs.Common.{ap, ◌∙◌, arith}
use Rattle.std.specs.Int.{w128}
use Rattle.std.proofs.lemmas.Int.{fits_signed_from_abs, to_z-of_z}
use Rattle.s38_compute.specs.Compute.{moved_offset}
use Rattle.s38_compute.proofs.pointers.moved_by.Goals as goal

pub returns : goal.returns
returns c =
    c.moved.ensures
    ∙ ap (λ by. moved_offset c.args.backwards c.args.offset by)
    (to_z-of_z w128 c.whole_part-by.result (fits_signed_from_abs w128 c.whole_part-by.result (omega (arith, c.whole_part-by.ensures.bound))) ∙ c.whole_part-by.ensures.value)
