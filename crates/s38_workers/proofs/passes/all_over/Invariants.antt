use Rattle.std.proofs.Common.{All, take}
use Rattle.s38_workers.specs.Runs.{IsOver}
use Rattle.s38_workers.proofs.passes.all_over.Given as goal

abbrev pub invariant-loop-runner : goal.invariant-loop-runner
invariant-loop-runner g l = All IsOver (take l.runner-index l.runners)
