-- How far the jobs have come, while they are run.
use Rattle.std.specs.Prelude.{◌≡◌, ℕ, ◌-◌, ◌<◌, ◌≤◌, true, List, Option, Some, None, Result, Ok, Err, slice_get}
use Rattle.s38_code.specs.declared.deck.Job.{Job}
use Rattle.s38_code.specs.declared.made.CreateResult.{CreateResult}
use Rattle.s38_code.specs.declared.step.StepFault.{StepFault}
use Rattle.s38_code.specs.declared.step.StepFault.TheVariants as faults
use Rattle.s38_process.specs.declared.status.Status.TheVariants.{Ended}
use Rattle.s38_process.specs.Process.{ProcessState, fresh}
use Rattle.s38_process.specs.AfterReply.{RanFrom, process_after}
use Rattle.s38_turn.specs.declared.item.Item.{Item}
use Rattle.s38_turn.specs.Items.{entries_in}
use Rattle.s38_turn.specs.Lists.{has, list_of}
use Rattle.s38_turn.specs.Seats.{IsSeatOf, TurnView}
use Rattle.s38_workers.specs.Asking.{NotedFrom}
use Rattle.s38_workers.specs.declared.hearer.Heard.{Heard}
use Rattle.s38_workers.specs.declared.hearer.Heard.TheVariants.{GoesOn}
use Rattle.s38_workers.specs.declared.runner.Progress.{Progress}
use Rattle.s38_workers.specs.declared.runner.Progress.TheVariants.{Unbegun, Running, Over, Failed}
use Rattle.s38_workers.specs.declared.runner.Runner.{Runner}

-- a job whose process has begun, if it had not
abbrev pub begun : CreateResult → ℕ → Progress → Progress
begun made budget Unbegun = Running (record { process = fresh made budget; heard = Ok GoesOn })
begun made budget (Running hearer) = Running hearer
begun made budget Over = Over
begun made budget (Failed fault) = Failed fault

-- how far a job has come after what its process was told
abbrev pub progress_after : Result (Option Heard) StepFault → Progress → Progress
progress_after (Err fault) old = Failed fault
progress_after (Ok None) old = Over
progress_after (Ok (Some heard)) old = old

-- a process that its entries have brought there is so far; Halted says that the machine has stopped
abbrev pub IsSoFar : Type 0 → ProcessState → Progress → ProcessState → Type 0
IsSoFar Halted there Unbegun d = d ≡ there
IsSoFar Halted there (Running hearer) d = hearer.process ≡ there
IsSoFar Halted there Over d = there.status ≡ Ended
IsSoFar Halted there (Failed faults.Stopped) d = Halted
IsSoFar Halted there (Failed faults.NoMemory) d = Unit {0}

-- the items of a job's process are by its program, and it is so far
pub record IsByProgramSoFar (Halted : Type 0) (made : CreateResult) (budget : ℕ) (items : List Item) (progress : Progress) : Type 0 where
  pub by_program : RanFrom (fresh made budget) (entries_in items)
  pub noted : NotedFrom (fresh made budget) items
  pub so_far : IsSoFar Halted (process_after (fresh made budget) (entries_in items)) progress (fresh made budget)

-- a job went on: where its process was as its items say, it is so now
pub record Moved (Halted : Type 0) (old : Progress) (items : List Item) (new : Progress) (items' : List Item) : Type 0 where
  pub stands : (made : CreateResult) (budget : ℕ) → IsByProgramSoFar Halted made budget items old → IsByProgramSoFar Halted made budget items' new

-- a job between two events
pub record IsRunning {M : Type 0} (Halted : Type 0) (turn : TurnView M) (made : List CreateResult) (jobs : List Job) (runner : Runner M) : Type 0 where
  pub seat : IsSeatOf turn runner.seat
  pub first : 0 < runner.number
  pub last : runner.number ≤ turn.processes
  -- its seat has its process, and no other
  pub own : has runner.number runner.seat.lists ≡ true
  pub alone : (process : ℕ) → has process runner.seat.lists ≡ true → process ≡ runner.number
  pub stands : (job : Job) (one : CreateResult) → slice_get jobs (runner.number - 1) ≡ Some job → slice_get made (runner.number - 1) ≡ Some one
      → IsByProgramSoFar Halted one job.budget (list_of runner.number runner.seat.lists) runner.progress

-- the same job, further on
pub record IsFurther {M : Type 0} (Halted : Type 0) (turn : TurnView M) (made : List CreateResult) (jobs : List Job) (old new : Runner M) : Type 0 where
  pub running : IsRunning Halted turn made jobs new
  pub number : new.number ≡ old.number
