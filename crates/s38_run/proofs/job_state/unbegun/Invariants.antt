use Rattle.std.proofs.Common.{◌≡◌, take}
use Rattle.s38_run.specs.Running.{unbegun}
use Rattle.s38_run.proofs.job_state.unbegun.Given as goal

abbrev pub invariant-loop : goal.invariant-loop
invariant-loop l = l.states.items ≡ unbegun (take l.index l.jobs)
