use Rattle.std.proofs.Common.{◌≡◌, length}
use Rattle.std.specs.Prelude.{find}
use Rattle.s38_locks.specs.Locks.{IsInOrder, hinders}
use Rattle.s38_locks.proofs.locks.hindrance.Given as goal

abbrev pub invariant-loop-lock : goal.invariant-loop-lock
invariant-loop-lock l = IsInOrder l.rest × (find (hinders l.process l.state) l.rest ≡ find (hinders l.process l.state) l.locks)

abbrev pub decreases-loop-lock : goal.decreases-loop-lock
decreases-loop-lock l = length l.rest
