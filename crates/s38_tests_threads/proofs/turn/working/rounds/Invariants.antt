use Rattle.s38_turn.specs.Seats.{IsSeatOf}
use Rattle.s38_tests_threads.specs.turn.Seating.{HasStill}
use Rattle.s38_tests_threads.proofs.turn.working.rounds.Given as goal

abbrev pub invariant-loop-process : goal.invariant-loop-process
invariant-loop-process g l = IsSeatOf l.fn.turn l.seat × HasStill l.fn.seat.lists l.seat.lists
