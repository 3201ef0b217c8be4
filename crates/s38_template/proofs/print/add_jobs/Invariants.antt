use Rattle.std.proofs.Common.{◌≡◌, ◌++◌, drop}
use Rattle.s38_template.specs.Printing.{printed_jobs}
use Rattle.s38_template.proofs.print.add_jobs.Given as goal

abbrev pub invariant-loop-job : goal.invariant-loop-job
invariant-loop-job l = l.text.items ++ printed_jobs l.before (drop l.job-index l.jobs) ≡ l.initial.text.items ++ printed_jobs 0 l.jobs
