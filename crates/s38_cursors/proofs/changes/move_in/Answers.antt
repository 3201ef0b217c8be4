use Rattle.std.proofs.Common.{sym, ap, ◌∙◌}
use Rattle.s38_rules.specs.declared.cursor.Cursor.{Cursor}
use Rattle.s38_rules.specs.families.CursorSeeks.{moved_to}
use Rattle.s38_rules.specs.state.Parts.{cursor_part, over_part}
use Rattle.s38_rules.proofs.PartLaws.{part_kept, part_written}
use Rattle.s38_cursors.proofs.changes.move_in.Goals as goal

pub returns-in-Some : goal.returns-in-Some
returns-in-Some c =
    ap (λ (x : Cursor). over_part cursor_part c.args.objects.now c.args.number.0 (λ _. x)) c.move_cursor.ensures
    ∙ part_written cursor_part c.args.objects.now c.args.number.0 (moved_to c.args.to) c.in-Some.cursor.now (sym c.in-Some.ensures.value)

pub returns-in_default : goal.returns-in_default
returns-in_default c = sym (part_kept cursor_part c.args.objects.now c.args.number.0 (moved_to c.args.to) (sym c.in_default.ensures.value))
