use Rattle.std.proofs.Common.{◌≡◌, ◌≤◌, ◌-◌, length, replicate}
use Rattle.s38_rights_cache.specs.Numbers.{no_numbers}
use Rattle.s38_rights_cache.proofs.numbers.no_numbers.Given as goal

abbrev pub invariant-loop-made : goal.invariant-loop-made
invariant-loop-made l = record {
  fresh : l.made.items ≡ replicate (length l.made.items) no_numbers;
  few : length l.made.items ≤ l.processes;
}

abbrev pub decreases-loop-made : goal.decreases-loop-made
decreases-loop-made l = l.processes - length l.made.items
