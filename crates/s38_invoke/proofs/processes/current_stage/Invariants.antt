use Rattle.std.proofs.Common.{◌≡◌, drop}
use Rattle.s38_invoke.proofs.StageLaws.{least_from}
use Rattle.s38_invoke.proofs.processes.current_stage.Given as goal

abbrev pub invariant-loop-x : goal.invariant-loop-x
invariant-loop-x l = least_from l.least (drop l.x-index l.entries) ≡ least_from 65535 l.entries
