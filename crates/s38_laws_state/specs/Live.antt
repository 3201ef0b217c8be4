-- A process that has ended leaves nothing: who holds a lock or a unit of changes has started and has not ended, and who
-- waits has not ended.
use Rattle.std.specs.Prelude.{◌≡◌, ◌<◌, ℕ, ◌+◌, ◌-◌, Bool, true, false, not, ◌&&◌, ◌||◌, All, IsTrue, List, [], ◌∷◌, Option, Some, None, is_some, slice_get}
use Rattle.s38_code.specs.declared.deck.Job.{Job}
use Rattle.s38_code.specs.declared.entry.Entry.{Entry}
use Rattle.s38_code.specs.declared.event.Event.{Event}
use Rattle.s38_code.specs.declared.event.Event.TheVariants.{Start, Act, Finish}
use Rattle.s38_code.specs.declared.made.CreateResult.{CreateResult}
use Rattle.s38_code.specs.History.{entries_of}
use Rattle.s38_commits.specs.Unit.{CommitUnit}
use Rattle.s38_locks.specs.Locks.{Lock}
use Rattle.s38_process.specs.Process.{fresh}
use Rattle.s38_process.specs.AfterReply.{RanFrom, ends_by_finish}
use Rattle.s38_rules.specs.declared.process.ProcessEntry.{ProcessEntry}
use Rattle.s38_rules.specs.families.Locking.{is_going_in}
use Rattle.s38_rules.specs.state.State.{State, is_early}
use Rattle.s38_rules.specs.step.Step.{step}

-- ---- a process

-- the process of a number, from 1 on, has started and has not ended
pub record IsAlive (processes : List ProcessEntry) (process : ℕ) : Type 0 where
  pub first : 0 < process
  pub going : IsTrue (is_going_in (slice_get processes (process - 1)))

-- a process is there that has not ended
abbrev pub is_open_in : Option ProcessEntry → Bool
is_open_in None = false
is_open_in (Some x) = not x.ended

-- it has not ended, and has started, or an earlier stage has not ended
abbrev pub is_pending_in : List ProcessEntry → Option ProcessEntry → Bool
is_pending_in processes None = false
is_pending_in processes (Some x) = not x.ended && (is_some x.started || is_early processes x.job.stage)

-- the process of a number may wait: it has not ended, and has started, or waits for the stages before its own
pub record MayWait (processes : List ProcessEntry) (process : ℕ) : Type 0 where
  pub first : 0 < process
  pub standing : IsTrue (is_pending_in processes (slice_get processes (process - 1)))

-- ---- a state

-- an object's locks are of processes that are alive
abbrev pub AreHeld : List ProcessEntry → ℕ × List Lock → Type 0
AreHeld processes e = All (λ lock. IsAlive processes lock.0) e.1

-- a unit of changes is of a process that is alive
abbrev pub IsOfLiving : List ProcessEntry → ℕ × CommitUnit → Type 0
IsOfLiving processes e = IsAlive processes e.1.process

-- a process that has ended leaves nothing
pub record IsLive (s : State) : Type 0 where
  pub locks : All (AreHeld s.processes) s.locks
  pub units : All (IsOfLiving s.processes) s.units
  pub waiting : All (MayWait s.processes) s.waiting

-- ---- what is asked of events

-- an instruction comes from a process that is alive, and a start from one that has not ended
abbrev pub ComesFrom : List ProcessEntry → ℕ → Event → Type 0
ComesFrom processes process Start = IsTrue (is_open_in (slice_get processes (process - 1)))
ComesFrom processes process (Act depth request) = IsAlive processes process
ComesFrom processes process (Finish cause) = Unit {0}

-- the entries are what a process of some program asks, from its start on
pub record RanFresh (budget : ℕ) (entries : List Entry) : Type 0 where
  pub made : CreateResult
  pub ran : RanFrom (fresh made budget) entries

-- so each job has its entries
pub record AreRunByJobs (jobs : List Job) (history : List Entry) : Type 0 where
  pub each : (k : ℕ) (job : Job) → slice_get jobs k ≡ Some job → RanFresh job.budget (entries_of (k + 1) history)

-- each job's entries are the whole run of a process of some program
pub record AreWholeRuns (jobs : List Job) (history : List Entry) : Type 0 where
  pub runs : AreRunByJobs jobs history
  pub whole : (k : ℕ) (job : Job) → slice_get jobs k ≡ Some job → IsTrue (ends_by_finish (entries_of (k + 1) history))

-- every process has ended; nothing is locked, no unit of changes is open, and nobody waits
pub record HasNothingLeft (s : State) : Type 0 where
  pub ended : All (λ x. x.ended ≡ true) s.processes
  pub locks : s.locks ≡ []
  pub units : s.units ≡ []
  pub waiting : s.waiting ≡ []
