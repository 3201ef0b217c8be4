use Rattle.s38_local.proofs.LawLaws.{computed_kept, control_kept, law_computed, law_told}
use Rattle.s38_local.specs.Local.{controlled}
use Rattle.s38_local.proofs.dispatch.run_local.Goals as goal

pub returns-then-is_control-clause-law : goal.returns-then-is_control-clause-law
returns-then-is_control-clause-law c = λ count suited local held within before.
    let i = c.args.instruction.now in
    let frame = c.args.frame.now in
    let values = c.args.values.now in
    law_told c.args.rows.now count frame values i.args (controlled frame values i i.op) c.control.result c.control.new.frame c.control.new.values
    (control_kept c.args.rows.now count frame values i suited held within before)
    c.control.ensures.end c.control.ensures.frame c.control.ensures.values

pub returns-else-is_control-clause-law : goal.returns-else-is_control-clause-law
returns-else-is_control-clause-law c = λ count suited local held within before.
    let i = c.args.instruction.now in
    let frame = c.args.frame.now in
    let values = c.args.values.now in
    law_computed c.args.rows.now count frame values i c.as_slice.result.now c.computation.result c.computation.new.values c.as_slice.ensures.items
    (computed_kept c.args.rows.now count frame values i suited local held within)
    c.computation.ensures.end c.computation.ensures.values
