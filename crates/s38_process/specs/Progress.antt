-- How far a process has come, beside its invocations.
use Rattle.std.specs.Prelude.{ℕ}
use Rattle.s38_process.specs.Invocations.{Stack}
use Rattle.s38_process.specs.Process.{ProcessState}
use Rattle.s38_process.specs.declared.progress.Progress.{Progress}

abbrev pub process_state : Stack → ℕ → Progress → ProcessState
process_state stack budget p = record { stack = stack; done = p.done; budget = budget; status = p.status }
