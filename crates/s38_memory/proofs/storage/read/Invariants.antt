use Rattle.std.proofs.Common.{◌≡◌, ◌-◌, ◌≤◌, length, take, drop}
use Rattle.s38_memory.specs.Tagged.{bytes_in}
use Rattle.s38_memory.proofs.storage.read.Given as goal

abbrev pub invariant-loop-done : goal.invariant-loop-done
invariant-loop-done l =
    record { within : l.done ≤ length l.into; front : take l.done l.into ≡ take l.done (drop l.at (bytes_in l.cells)) }

abbrev pub decreases-loop-done : goal.decreases-loop-done
decreases-loop-done l = length l.into - l.done
