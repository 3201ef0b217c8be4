use Rattle.std.proofs.Common.{◌≡◌, take}
use Rattle.s38_rules.specs.state.Opening.{process_entries}
use Rattle.s38_machine.proofs.opening.process_entries.Given as goal

abbrev pub invariant-loop-job : goal.invariant-loop-job
invariant-loop-job l = l.made.items ≡ process_entries (take l.job-index l.jobs)
