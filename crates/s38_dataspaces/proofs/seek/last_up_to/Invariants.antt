use Rattle.std.proofs.Common.{◌≡◌, ◌≤◌}
use Rattle.s38_dataspaces.specs.Seeks.{last_up_to}
use Rattle.s38_dataspaces.proofs.seek.last_up_to.Given as goal

abbrev pub invariant-loop-at : goal.invariant-loop-at
invariant-loop-at l = (last_up_to l.flags l.at ≡ last_up_to l.flags l.fn.most) × (l.at ≤ l.fn.most)

abbrev pub decreases-loop-at : goal.decreases-loop-at
decreases-loop-at l = l.at
