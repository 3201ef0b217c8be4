use Rattle.std.proofs.Common.{◌≡◌, ◌≤◌, ◌-◌}
use Rattle.s38_process.specs.LocalRun.{after_local_run}
use Rattle.s38_process.specs.Progress.{process_state}
use Rattle.s38_process.proofs.local_run.run_locally.Given as goal

abbrev pub invariant-steps : goal.invariant-steps
invariant-steps l = (after_local_run (process_state l.invocations l.budget l.progress) ≡ after_local_run (process_state l.initial.invocations l.budget l.initial.progress)) × (l.progress.done ≤ l.budget)

abbrev pub decreases-steps : goal.decreases-steps
decreases-steps l = l.budget - l.progress.done
