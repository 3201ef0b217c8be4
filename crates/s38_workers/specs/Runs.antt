-- Whole runs on threads.
use Rattle.std.specs.Prelude.{◌≡◌, ℕ, ◌+◌, ◌<◌, ◌≤◌, true, List, [], Some, length, slice_get, slice_index_or, take}
use Rattle.s38_code.specs.declared.deck.Job.{Job}
use Rattle.s38_code.specs.declared.entry.Entry.{Entry}
use Rattle.s38_code.specs.declared.event.Event.{Event}
use Rattle.s38_code.specs.declared.made.CreateResult.{CreateResult}
use Rattle.s38_code.specs.declared.step.StepFault.{StepFault}
use Rattle.s38_run.specs.Whole.{AsksNext}
use Rattle.s38_turn.specs.declared.view.ProcessList.{ProcessList}
use Rattle.s38_turn.specs.Lists.{has, list_of}
use Rattle.s38_turn.specs.Seats.{IsSeatOf, SeatView, TurnView}
use Rattle.s38_workers.specs.Going.{IsByProgramSoFar, IsFurther, IsRunning}
use Rattle.s38_workers.specs.declared.runner.Progress.TheVariants.{Over, Failed}
use Rattle.s38_workers.specs.declared.runner.Runner.{Runner}

-- ---- passes

-- each job is further on
abbrev pub AreFurther : {M : Type 0} → Type 0 → TurnView M → List CreateResult → List Job → List (Runner M) → List (Runner M) → Type 0
AreFurther {M} Halted turn made jobs old new = (k : ℕ) (d : Runner M) → k < length old → IsFurther Halted turn made jobs (slice_index_or old k d) (slice_index_or new k d)

-- the process of the job has ended
pub record IsOver {M : Type 0} (runner : Runner M) : Type 0 where
  pub is : runner.progress ≡ Over

-- some job has failed by this fault
pub record HasFailed {M : Type 0} (fault : StepFault) (runners : List (Runner M)) : Type 0 where
  pub place : ℕ
  pub within : place < length runners
  pub is : (d : Runner M) → (slice_index_or runners place d).progress ≡ Failed fault

-- ---- seats

-- the processes after the first ones are left, without items
pub record AreLeft (people at : ℕ) (lists : List ProcessList) : Type 0 where
  pub those : (process : ℕ) → at < process → process ≤ people → has process lists ≡ true
  pub none : (process : ℕ) → has process lists ≡ true → (at < process) × (process ≤ people)
  pub empty : (process : ℕ) → list_of process lists ≡ []

-- the jobs at their places: each is that of its process
pub record AreSeated {M : Type 0} (Halted : Type 0) (turn : TurnView M) (made : List CreateResult) (jobs : List Job) (runners : List (Runner M)) : Type 0 where
  pub each : (k : ℕ) (d : Runner M) → k < length runners → IsRunning Halted turn made jobs (slice_index_or runners k d)
  pub number : (k : ℕ) (d : Runner M) → k < length runners → (slice_index_or runners k d).number ≡ k + 1

-- the list of a process is that of the job
pub record HasRun {M : Type 0} (Halted : Type 0) (made : List CreateResult) (jobs : List Job) (k : ℕ) (runner : Runner M) (lists : List ProcessList) : Type 0 where
  pub has_it : has (k + 1) lists ≡ true
  pub stands : (job : Job) (one : CreateResult) → slice_get jobs k ≡ Some job → slice_get made k ≡ Some one → IsByProgramSoFar Halted one job.budget (list_of (k + 1) lists) runner.progress

-- of all jobs some are left, and the seat has the processes of the others
pub record AreGathered {M : Type 0} (Halted : Type 0) (turn : TurnView M) (made : List CreateResult) (jobs : List Job) (all left : List (Runner M)) (seat : SeatView M) : Type 0 where
  pub seat_of : IsSeatOf turn seat
  pub left_is : left ≡ take (length left) all
  pub count : length left ≤ length all
  pub none : (process : ℕ) → has process seat.lists ≡ true → length left < process
  pub last : (process : ℕ) → has process seat.lists ≡ true → process ≤ turn.processes
  pub each : (k : ℕ) (d : Runner M) → length left ≤ k → k < length all → HasRun Halted made jobs k (slice_index_or all k d) seat.lists

-- ---- the call that was answered Stopped

-- a call of one of the jobs' processes, for what this process asks next after its entries
pub record IsNextOf (made : List CreateResult) (jobs : List Job) (history : List Entry) (call : ℕ × Event) : Type 0 where
  pub first : 0 < call.0
  pub last : call.0 ≤ length jobs
  pub asks : AsksNext made jobs history call.0 call.1
