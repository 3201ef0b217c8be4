use Rattle.s38_turn.specs.Calls.{IsIdle, Knows}
use Rattle.s38_turn.proofs.tickets.draw.Given as goal

abbrev pub invariant-loop : goal.invariant-loop
invariant-loop g l = IsIdle l.fn.board.table_id l.fn.board.key.machine.value l.seat × Knows l.initial.seat l.seat
