use Rattle.std.specs.Prelude.{None}
use Rattle.s38_rules.specs.families.EntryChanges.{change_at}
use Rattle.s38_rules.specs.families.Cursors.{cursor_named}
use Rattle.s38_cursors.proofs.CursorLaws.{current_met}
use Rattle.s38_cursors.proofs.InsertLaws.{logged_table}
use Rattle.s38_cursors.proofs.entries.deldsen.Goals as goal

pub delete_at-requires : goal.delete_at-requires
delete_at-requires c =
    let s = c.args.world.now in
    let ops = c.args.operands.now in
    let cursor = cursor_named s.held ops 1 in
    rw (c.in-Ok.ensures.ok, c.cursor_in-cursor.ensures, logged_table s c.args.process cursor.block.0 (change_at s.held ops None) cursor.space.0)
    (current_met s c.args.process ops None c.requires)
