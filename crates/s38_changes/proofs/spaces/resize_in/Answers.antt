use Rattle.std.proofs.Common.{List, sym, ap, ◌∙◌}
use Rattle.std.proofs.lemmas.Result.{on_ok_weaker, on_err_weaker}
use Rattle.s38_memory.specs.declared.cell.Cell.{Cell}
use Rattle.s38_memory.specs.Tagged.{resized}
use Rattle.s38_rules.specs.state.Parts.{over_part, space_part}
use Rattle.s38_rules.specs.state.LawfulParts.{space_lawful}
use Rattle.s38_rules.proofs.PartLaws.{part_kept, part_same, part_written}
use Rattle.s38_changes.proofs.spaces.resize_in.Goals as goal

pub returns-in_default-clause-ok : goal.returns-in_default-clause-ok
returns-in_default-clause-ok c = sym (part_kept space_part c.args.objects.now c.args.number.0 (resized c.args.len) (sym c.in_default.ensures.value))

pub returns-clause-ok : goal.returns-clause-ok
returns-clause-ok c =
    on_ok_weaker c.resize_cells.result
    (λ e. ap (λ (cells : List Cell). over_part space_part c.args.objects.now c.args.number.0 (λ _. cells)) e
    ∙ part_written space_part c.args.objects.now c.args.number.0 (resized c.args.len) c.in-Some.cells.now (sym c.in-Some.ensures.value))
    c.resize_cells.ensures.ok

pub returns-clause-err : goal.returns-clause-err
returns-clause-err c =
    on_err_weaker c.resize_cells.result
    (λ e. ap (λ (cells : List Cell). over_part space_part c.args.objects.now c.args.number.0 (λ _. cells)) e
    ∙ part_same space_part space_lawful c.args.objects.now c.args.number.0 c.in-Some.cells.now (sym c.in-Some.ensures.value))
    c.resize_cells.ensures.err
