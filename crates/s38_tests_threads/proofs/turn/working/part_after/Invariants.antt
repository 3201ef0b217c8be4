use Rattle.std.proofs.Common.{◌-◌, ◌+◌, ◌≤◌, ◌<◌}
use Rattle.s38_turn.specs.Seats.{IsSeatOf}
use Rattle.s38_tests_threads.specs.turn.Seating.{HasThese}
use Rattle.s38_tests_threads.proofs.turn.working.part_after.Given as goal

abbrev pub invariant-loop-from : goal.invariant-loop-from
invariant-loop-from l = IsSeatOf l.fn.turn l.seat × IsSeatOf l.fn.turn l.other × (l.fn.middle < l.from) × (l.from ≤ l.fn.last) × HasThese 1 (l.from - 1) l.seat.lists × HasThese l.from l.fn.last l.other.lists

abbrev pub decreases-loop-from : goal.decreases-loop-from
decreases-loop-from l = l.from
