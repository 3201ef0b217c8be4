-- One turn: what a process asks and is answered, and who is ready after it.
use Rattle.std.specs.Prelude.{◌≡◌, ℕ, ◌≤◌, ◌==◌, ◌⊎◌, Bool, not, List, filter, Option, Some, if◌then◌else◌}
use Rattle.s38_code.specs.declared.event.Event.{Event}
use Rattle.s38_code.specs.declared.event.Event.TheVariants.{Start, Act, Finish}
use Rattle.s38_code.specs.declared.made.CreateResult.{CreateResult}
use Rattle.s38_code.specs.declared.reply.Reply.{Reply}
use Rattle.s38_code.specs.declared.reply.Reply.TheVariants.{Done, Signal, MustWait}
use Rattle.s38_process.specs.declared.status.Status.TheVariants.{Running, Ended}
use Rattle.s38_rules.specs.state.State.{State, ready_list}
use Rattle.s38_rules.specs.step.Step.{step}
use Rattle.s38_rules.specs.step.Legal.{Run, after}
use Rattle.s38_process.specs.Process.{ProcessState, event_of, fresh}
use Rattle.s38_process.specs.AfterReply.{absorbed}
use Rattle.s38_run.specs.declared.job_state.JobState.{JobState}
use Rattle.s38_run.specs.declared.job_state.JobState.TheVariants as states
use Rattle.s38_run.specs.declared.outcome.Outcome.{Outcome}
use Rattle.s38_run.specs.declared.outcome.Outcome.TheVariants as outcomes

-- what a reply is for those that are ready
abbrev pub outcome_by : Reply → Outcome
outcome_by (Done vs) = outcomes.Changed
outcome_by (Signal x) = outcomes.Refused
outcome_by MustWait = outcomes.Waits

-- what an event and its reply are for those that are ready
abbrev pub outcome_of : Event → Reply → Outcome
outcome_of Start reply = outcome_by reply
outcome_of (Act depth request) reply = outcome_by reply
outcome_of (Finish cause) reply = outcomes.Finished

-- one event was asked, and answered
pub record Turned (number : ℕ) (m : Run) (d : ProcessState) (o : Outcome) (m' : Run) (d' : ProcessState) : Type 0 where
  pub event : Event
  pub asks : event_of d ≡ Some event
  pub machine : m' ≡ after m m'.moment number event
  pub later : m.moment ≤ m'.moment
  pub process : d' ≡ absorbed d (step m.state number event).reply
  pub outcome : o ≡ outcome_of event (step m.state number event).reply

-- nothing was entered
pub record IsAsBefore (m m' : Run) : Type 0 where
  pub origin : m'.origin ≡ m.origin
  pub history : m'.history ≡ m.history

-- what a process asks was answered
pub record WasAnswered (number : ℕ) (m : Run) (d : ProcessState) (m' : Run) : Type 0 where
  pub event : Event
  pub asks : event_of d ≡ Some event
  pub machine : m' ≡ after m m'.moment number event
  pub later : m.moment ≤ m'.moment

-- a turn was broken off, before its answer or after it
abbrev pub BrokeOff : ℕ → Run → ProcessState → Run → Type 0
BrokeOff number m d m' = IsAsBefore m m' ⊎ WasAnswered number m d m'

-- what a process asks was answered Stopped
pub record WasStopped (number : ℕ) (m : Run) (d : ProcessState) (m' : Run) (call : Option (ℕ × Event)) : Type 0 where
  pub event : Event
  pub asks : event_of d ≡ Some event
  pub is : call ≡ Some (number, event)
  pub same : IsAsBefore m m'

-- the process of a job; it is fresh before its first turn
abbrev pub doing : CreateResult → ℕ → JobState → ProcessState
doing made budget states.Unbegun = fresh made budget
doing made budget (states.Running process) = process
doing made budget states.Over = record (fresh made budget) { status = Ended }

-- the process of a job took a turn, and is in its place
pub record WentInPlace (number : ℕ) (m : Run) (d : ProcessState) (outcome : Outcome) (m' : Run) (new : JobState) : Type 0 where
  pub process : ProcessState
  pub turned : Turned number m d outcome m' process
  pub state : new ≡ states.Running process

-- how far a job has come after a turn; its process is kept up to its end
abbrev pub job_after : Outcome → ProcessState → JobState
job_after outcomes.Finished process = states.Over
job_after outcomes.Waits process = states.Running process
job_after outcomes.Refused process = states.Running process
job_after outcomes.Changed process = states.Running process

-- a job took a turn
pub record TookTurn (number : ℕ) (made : CreateResult) (budget : ℕ) (m : Run) (old : JobState) (outcome : Outcome) (m' : Run) (new : JobState) : Type 0 where
  pub process : ProcessState
  pub turned : Turned number m (doing made budget old) outcome m' process
  pub state : new ≡ job_after outcome process

-- who is ready after a turn, by who was before it, and by whether some process waited then
abbrev pub ready_after : State → ℕ → Bool → Outcome → List ℕ → List ℕ
ready_after s process waited outcomes.Finished ready = ready_list s
ready_after s process waited outcomes.Waits ready = filter (λ q. not (process == q)) ready
ready_after s process waited outcomes.Refused ready = ready
ready_after s process waited outcomes.Changed ready = if waited then ready_list s else ready
