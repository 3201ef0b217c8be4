use Rattle.std.proofs.Common.{◌≡◌}
use Rattle.s38_programs.specs.Rooms.{room_after}
use Rattle.s38_programs.proofs.templates.room_after.Given as goal

abbrev pub invariant-loop-line : goal.invariant-loop-line
invariant-loop-line l = room_after l.fn.room l.fn.lines ≡ room_after l.left l.line-iterator
