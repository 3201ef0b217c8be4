use Rattle.std.proofs.Common.{List, sym, ap, ◌∙◌}
use Rattle.s38_memory.specs.declared.cell.Cell.{Cell}
use Rattle.s38_rules.specs.state.Cells.{with_pointer}
use Rattle.s38_rules.specs.state.Parts.{over_part, space_part}
use Rattle.s38_rules.proofs.PartLaws.{part_kept, part_written}
use Rattle.s38_changes.proofs.spaces.set_pointer.Goals as goal

pub returns-in_default : goal.returns-in_default
returns-in_default c = sym (part_kept space_part c.args.objects.now c.args.number.0 (with_pointer c.args.at c.args.pointer) (sym c.in_default.ensures.value))

pub returns : goal.returns
returns c =
    ap (λ (cells : List Cell). over_part space_part c.args.objects.now c.args.number.0 (λ _. cells)) c.set_cells.ensures
    ∙ part_written space_part c.args.objects.now c.args.number.0 (with_pointer c.args.at c.args.pointer) c.in-Some.cells.now (sym c.in-Some.ensures.value)
