use Rattle.std.proofs.Common.{List, sym, ap, ◌∙◌}
use Rattle.s38_memory.specs.declared.cell.Cell.{Cell}
use Rattle.s38_rules.specs.state.Cells.{with_cells}
use Rattle.s38_rules.specs.state.Parts.{over_part, space_part}
use Rattle.s38_rules.proofs.PartLaws.{part_kept, part_written}
use Rattle.s38_changes.proofs.spaces.copy_in.Goals as goal

pub returns-in_default : goal.returns-in_default
returns-in_default c = sym (part_kept space_part c.args.objects.now c.args.number.0 (with_cells c.args.at c.args.piece.now) (sym c.in_default.ensures.value))

pub returns : goal.returns
returns c =
    ap (λ (cells : List Cell). over_part space_part c.args.objects.now c.args.number.0 (λ _. cells)) c.copy_cells.ensures
    ∙ part_written space_part c.args.objects.now c.args.number.0 (with_cells c.args.at c.args.piece.now) c.in-Some.cells.now (sym c.in-Some.ensures.value)
