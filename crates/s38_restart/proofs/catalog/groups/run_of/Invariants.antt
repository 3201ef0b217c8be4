use Rattle.std.proofs.Common.{◌≡◌, ◌++◌, drop, take}
use Rattle.s38_restart.specs.catalog.Runs.{run}
use Rattle.s38_restart.proofs.catalog.groups.run_of.Given as goal

abbrev pub invariant-loop-at : goal.invariant-loop-at
invariant-loop-at l = run l.number l.parts ≡ take l.at l.parts ++ run l.number (drop l.at l.parts)
