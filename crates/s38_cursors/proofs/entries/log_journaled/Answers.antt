use Rattle.std.specs.Option.{option_copied}
use Rattle.s38_cursors.proofs.CursorLaws.{current_free, current_room}
use Rattle.s38_cursors.proofs.entries.log_journaled.Goals as goal

pub log_change-requires-clause-free : goal.log_change-requires-clause-free
log_change-requires-clause-free c =
    rw (c.in-Ok.ensures, c.cursor_in-cursor.ensures) (current_free c.args.world.now c.args.process c.args.operands.now (option_copied c.args.entry) c.requires)

pub log_change-requires-clause-room : goal.log_change-requires-clause-room
log_change-requires-clause-room c =
    rw (c.in-Ok.ensures, c.cursor_in-cursor.ensures) (current_room c.args.world.now c.args.process c.args.operands.now (option_copied c.args.entry) c.requires)
