use Rattle.std.proofs.Common.{◌≡◌, ℕ}
use Rattle.s38_turn.specs.Lists.{has}
use Rattle.s38_turn.specs.Seats.{IsSeatOf}
use Rattle.s38_tests_threads.proofs.turn.working.work.Given as goal

abbrev pub invariant-loop : goal.invariant-loop
invariant-loop g l = IsSeatOf l.fn.turn l.seat × ((p : ℕ) → has p l.seat.lists ≡ has p l.fn.seat.lists)
