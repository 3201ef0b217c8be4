-- How far the jobs have come, while they are run.
use Rattle.std.specs.Prelude.{◌≡◌, ◌≢◌, ℕ, ◌+◌, ◌-◌, ◌*◌, ◌<◌, ◌⊎◌, Bool, true, MatchBool, List, [], ◌∷◌, ◌++◌, length, map, slice_get, slice_index_or, Option, Some}
use Rattle.s38_code.specs.declared.deck.Job.{Job}
use Rattle.s38_code.specs.declared.entry.Entry.{Entry}
use Rattle.s38_code.specs.declared.event.Event.{Event}
use Rattle.s38_code.specs.declared.made.CreateResult.{CreateResult}
use Rattle.s38_code.specs.History.{entries_of}
use Rattle.s38_rules.specs.declared.process.ProcessEntry.{ProcessEntry}
use Rattle.s38_process.specs.declared.status.Status.{Status}
use Rattle.s38_process.specs.declared.status.Status.TheVariants.{Fresh, Running, Ending, Ended}
use Rattle.s38_rules.specs.state.State.{ready_list}
use Rattle.s38_rules.specs.step.Legal.{Run, IsSound, after}
use Rattle.s38_process.specs.Process.{ProcessState, fresh}
use Rattle.s38_process.specs.AfterReply.{RanFrom, ends_by_finish, process_after}
use Rattle.s38_run.specs.Picked.{Picked}
use Rattle.s38_run.specs.Pickers.{after_picks, picks_of}
use Rattle.s38_run.specs.Whole.{AllByProgram, AllRan, AsksNext, WasHalted, opened_for}
use Rattle.s38_run.specs.declared.job_state.JobState.{JobState}
use Rattle.s38_run.specs.declared.job_state.JobState.TheVariants as states
use Rattle.s38_run.specs.Turns.{IsAsBefore, doing}

-- ---- one process

-- how many events a process asks at most before its end, but for those that it asks again
abbrev pub left_by : ProcessState → Status → ℕ
left_by d Fresh = d.budget + 3
left_by d Running = d.budget - d.done + 2
left_by d (Ending cause) = 1
left_by d Ended = 0

abbrev pub left : ProcessState → ℕ
left d = left_by d d.status

-- the other processes are as they were
pub record OthersStay (xs ys : List ProcessEntry) (at : ℕ) : Type 0 where
  pub count : length ys ≡ length xs
  pub same : (k : ℕ) (d : ProcessEntry) → k ≢ at → slice_index_or ys k d ≡ slice_index_or xs k d

-- the process at a place has ended
pub record HasEnded (xs : List ProcessEntry) (at : ℕ) : Type 0 where
  pub is : (d : ProcessEntry) → (slice_index_or xs at d).ended ≡ true

-- ---- all jobs

-- before the first turn
abbrev pub unbegun : List Job → List JobState
unbegun jobs = map (λ job. states.Unbegun) jobs

-- the entries are what a job's process asked up to here: it has ended, or is in this state
pub record AskedSoFar (made : CreateResult) (budget : ℕ) (ended : Bool) (entries : List Entry) (state : JobState) : Type 0 where
  pub by_program : RanFrom (fresh made budget) entries
  pub is : MatchBool ended (ends_by_finish entries ≡ true)
      ((process_after (fresh made budget) entries ≡ doing made budget state) × ((doing made budget state).status ≢ Ended))

pub record EachAskedSoFar (made : List CreateResult) (jobs : List Job) (m : Run) (states : List JobState) : Type 0 where
  pub each : (k : ℕ) (x : ProcessEntry) (job : Job) (one : CreateResult) (state : JobState) → slice_get m.state.processes k ≡ Some x → slice_get jobs k ≡ Some job → slice_get made k ≡ Some one
      → slice_get states k ≡ Some state → AskedSoFar one job.budget x.ended (entries_of (k + 1) m.history) state

-- between two turns
pub record IsBetween (made : List CreateResult) (jobs : List Job) (m : Run) (states : List JobState) (list : List ℕ) : Type 0 where
  pub sound : IsSound m
  pub opened : m.origin ≡ opened_for m.origin jobs
  pub count_made : length made ≡ length jobs
  pub count_states : length states ≡ length jobs
  pub ready : list ≡ ready_list m.state
  pub awake : ready_list m.state ≡ [] → m.state.waiting ≡ []
  pub each : EachAskedSoFar made jobs m states

-- how many events a job asks at most
abbrev pub left_of : Job → JobState → ℕ
left_of job states.Unbegun = job.budget + 3
left_of job (states.Running process) = left process
left_of job states.Over = 0

abbrev pub left_in_all : List Job → List JobState → ℕ
left_in_all [] more = 0
left_in_all (job ∷ jobs) [] = 0
left_in_all (job ∷ jobs) (state ∷ more) = left_of job state + left_in_all jobs more

-- how many turns there are at most: each brings a process nearer to its end, or makes one wait until then
abbrev pub turns_left : List Job → List JobState → List ℕ → ℕ
turns_left jobs all ready = left_in_all jobs all * (length jobs + 1) + length ready

-- one turn was taken, by the process at a place of those that were ready
pub record WentOn (made : List CreateResult) (jobs : List Job) (m : Run) (all : List JobState) (ready : List ℕ) (place : ℕ) (m' : Run) (all' : List JobState) (ready' : List ℕ) : Type 0 where
  pub between : IsBetween made jobs m' all' ready'
  pub origin : m'.origin ≡ m.origin
  pub entry : Entry
  pub added : m'.history ≡ m.history ++ entry ∷ []
  pub by : slice_get ready place ≡ Some entry.process
  pub fewer : turns_left jobs all' ready' < turns_left jobs all ready

-- an entry was added, by the process at a place of those that were ready
pub record HasAdded (m : Run) (ready : List ℕ) (place : ℕ) (m' : Run) : Type 0 where
  pub entry : Entry
  pub added : m'.history ≡ m.history ++ entry ∷ []
  pub by : slice_get ready place ≡ Some entry.process

-- the turn of the process at a place of those that were ready was broken off
pub record CameOff (made : List CreateResult) (jobs : List Job) (m : Run) (ready : List ℕ) (place : ℕ) (m' : Run) : Type 0 where
  pub origin : m'.origin ≡ m.origin
  pub by_program : AllByProgram made jobs m'.history
  pub history : (m'.history ≡ m.history) ⊎ HasAdded m ready place m'

-- the machine stopped at the turn of the process at a place of those that were ready
pub record CameToHalt (made : List CreateResult) (jobs : List Job) (m : Run) (ready : List ℕ) (place : ℕ) (m' : Run) (call : Option (ℕ × Event)) : Type 0 where
  pub same : IsAsBefore m m'
  pub process : ℕ
  pub event : Event
  pub is : call ≡ Some (process, event)
  pub by : slice_get ready place ≡ Some process
  pub asks : AsksNext made jobs m.history process event

-- ---- whole runs

-- the jobs were run from the first machine up to another, by the picks from x on
pub record RanSoFar {S : Type 0} (answer : S → ℕ) (after : S → S) (x : S) (made : List CreateResult) (jobs : List Job) (m m' : Run) : Type 0 where
  pub origin : m'.origin ≡ m.origin
  pub picked : Picked (picks_of answer after (length m'.history) x) m'.origin m'.history
  pub by_program : AllByProgram made jobs m'.history

-- and each is over, after the picks up to y
pub record IsOver {S : Type 0} (after : S → S) (x y : S) (made : List CreateResult) (jobs : List Job) (m : Run) : Type 0 where
  pub sound : IsSound m
  pub picker : y ≡ after_picks after (length m.history) x
  pub ran : AllRan made jobs m.history

-- or the machine has stopped, at the turn that the next pick from x on chooses
abbrev pub HasHalted : {S : Type 0} → (S → ℕ) → (S → S) → S → List CreateResult → List Job → Run → Option (ℕ × Event) → Type 0
HasHalted answer after x made jobs m call = WasHalted made jobs (answer (after_picks after (length m.history) x)) m call
