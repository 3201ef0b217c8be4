-- Whole runs: each job's entries are what its program asks after the replies before them, up to its end; where its
-- template was refused, the end is by that.
use Rattle.std.specs.Prelude.{◌≡◌, ℕ, ◌+◌, ◌-◌, IsTrue, List, [], Option, Some, length, slice_get}
use Rattle.s38_code.specs.declared.deck.Job.{Job}
use Rattle.s38_code.specs.declared.entry.Entry.{Entry}
use Rattle.s38_code.specs.declared.event.Event.{Event}
use Rattle.s38_code.specs.declared.made.CreateResult.{CreateResult}
use Rattle.s38_code.specs.History.{entries_of}
use Rattle.s38_machine.specs.Stored.{stored_state_of}
use Rattle.s38_rules.specs.step.Legal.{IsSound, Leads, Run}
use Rattle.s38_rules.specs.state.State.{State}
use Rattle.s38_process.specs.Process.{event_of, fresh}
use Rattle.s38_process.specs.AfterReply.{RanFrom, ends_by_finish, process_after}
use Rattle.s38_run.specs.Picked.{Picked, chosen}

-- ---- the beginning

-- the state in which jobs find a machine that has the objects, the templates and the room of this one
abbrev pub opened_for : State → List Job → State
opened_for s jobs = stored_state_of s.room s.held s.templates jobs

-- the run of these jobs has no entry yet
pub record IsBegun (jobs : List Job) (m : Run) : Type 0 where
  pub sound : IsSound m
  pub opened : m.origin ≡ opened_for m.origin jobs
  pub empty : m.history ≡ []

-- ---- the entries of the jobs

-- an event is what a process asks next, after its entries
abbrev pub AsksNext : List CreateResult → List Job → List Entry → ℕ → Event → Type 0
AsksNext made jobs history process event = (job : Job) (one : CreateResult) → slice_get jobs (process - 1) ≡ Some job → slice_get made (process - 1) ≡ Some one
    → event_of (process_after (fresh one job.budget) (entries_of process history)) ≡ Some event

-- the entries of each job's process are by its program
pub record AllByProgram (made : List CreateResult) (jobs : List Job) (history : List Entry) : Type 0 where
  pub each : (k : ℕ) (job : Job) (one : CreateResult) → slice_get jobs k ≡ Some job → slice_get made k ≡ Some one → RanFrom (fresh one job.budget) (entries_of (k + 1) history)

-- the entries of one process, from its start to its end
pub record RanWhole (made : CreateResult) (budget : ℕ) (entries : List Entry) : Type 0 where
  pub by_program : RanFrom (fresh made budget) entries
  pub whole : IsTrue (ends_by_finish entries)

-- each job ran whole, by what creation made of its template, at its place
pub record AllRan (made : List CreateResult) (jobs : List Job) (history : List Entry) : Type 0 where
  pub each : (k : ℕ) (job : Job) (one : CreateResult) → slice_get jobs k ≡ Some job → slice_get made k ≡ Some one → RanWhole one job.budget (entries_of (k + 1) history)

-- a sound machine has run the jobs whole by so many picks
pub record WasRun (made : List CreateResult) (jobs : List Job) (picks : ℕ → List ℕ) (m : Run) : Type 0 where
  pub sound : IsSound m
  pub picked : Picked (picks (length m.history)) m.origin m.history
  pub ran : AllRan made jobs m.history

-- ---- a machine that stopped

-- the call that was answered Stopped: that of the process that the pick chooses, for what this process asks next
pub record WasHalted (made : List CreateResult) (jobs : List Job) (pick : ℕ) (m : Run) (call : Option (ℕ × Event)) : Type 0 where
  pub process : ℕ
  pub event : Event
  pub is : call ≡ Some (process, event)
  pub state : State
  pub led : Leads m.origin [] m.history state
  pub picked : chosen state pick ≡ Some process
  pub asks : AsksNext made jobs m.history process event
