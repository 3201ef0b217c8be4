use Rattle.std.proofs.Common.{◌≡◌, length}
use Rattle.s38_tests_threads.proofs.workers.given.jobs_of.Given as goal

abbrev pub invariant-loop-stage : goal.invariant-loop-stage
invariant-loop-stage l = (length l.jobs.items ≡ l.stage-index) × (length l.made.items ≡ l.stage-index)
