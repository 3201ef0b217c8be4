use Rattle.std.proofs.Common.{◌≤◌, ◌-◌, length}
use Rattle.s38_locks.proofs.locks.enough.Given as goal

abbrev pub invariant-loop-other : goal.invariant-loop-other
invariant-loop-other l = 1 ≤ l.end

abbrev pub decreases-loop-other : goal.decreases-loop-other
decreases-loop-other l = length l.locks - l.end
