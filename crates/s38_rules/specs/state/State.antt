-- The machine's state: its objects, the deck's templates, and its processes.
use Rattle.std.specs.Prelude.{ℕ, ◌+◌, ◌-◌, ◌==◌, Bool, true, false, ◌&&◌, ◌||◌, not, filter, length, List, [], ◌∷◌, Option, Some, None, slice_get, slice_set, nat_lt}
use Rattle.std.specs.List.{list_any, range_with_len}
use Rattle.s38_commits.specs.Units.{UnitMap}
use Rattle.s38_locks.specs.Table.{Table}
use Rattle.s38_code.specs.declared.made.CheckedTemplate.{CheckedTemplate}
use Rattle.s38_rules.specs.declared.process.ProcessEntry.{ProcessEntry}
use Rattle.s38_rules.specs.declared.process.Started.{Started}
use Rattle.s38_rules.specs.state.Held.{Held}
use Rattle.s38_rules.specs.store.Room.{Room}

pub record State : Type 0 where
  pub held : Held
  -- the greatest image of an object's body, in bytes
  pub limit : ℕ
  -- the deck's templates, in order, each with what creation makes of it
  pub templates : List CheckedTemplate
  -- that of job k is at place k - 1
  pub processes : List ProcessEntry
  -- which processes wait
  pub waiting : List ℕ
  -- which processes hold which locks of which objects
  pub locks : Table
  -- which commit blocks have a unit of changes that is not committed
  pub units : UnitMap
  -- what the store has room for; none without a store
  pub room : Option Room

-- ---- processes

abbrev pub process_entry : State → ℕ → Option ProcessEntry
process_entry s process = slice_get s.processes (process - 1)

abbrev pub set_process : State → ℕ → ProcessEntry → State
set_process s process x = record s { processes = slice_set s.processes (process - 1) x }

abbrev pub started_in : Option ProcessEntry → Option Started
started_in None = None
started_in (Some x) = x.started

abbrev pub started : State → ℕ → Option Started
started s process = started_in (process_entry s process)

abbrev pub waits : State → ℕ → Bool
waits s process = list_any (λ w. w == process) s.waiting

abbrev pub runs_before : ℕ → ProcessEntry → Bool
runs_before stage x = not x.ended && nat_lt x.job.stage stage

-- some process of an earlier stage has not ended, so this stage is not the current one
abbrev pub is_early : List ProcessEntry → ℕ → Bool
is_early xs stage = list_any (runs_before stage) xs

-- a process is ready where it has not ended, is of the current stage, and does not wait
abbrev pub ready_in : State → ℕ → Option ProcessEntry → Bool
ready_in s process None = false
ready_in s process (Some x) = not x.ended && (not (is_early s.processes x.job.stage) && not (waits s process))

abbrev pub ready : State → ℕ → Bool
ready s process = ready_in s process (process_entry s process)

-- the processes that are ready, in order of number
abbrev pub ready_list : State → List ℕ
ready_list s = filter (ready s) (range_with_len 1 (length s.processes))

-- of the processes from a number on no other is ready
abbrev pub no_other_ready : State → ℕ → ℕ → List ProcessEntry → Bool
no_other_ready s process number [] = true
no_other_ready s process number (x ∷ xs) =
    ((number == process) || not (ready_in s number (Some x))) && no_other_ready s process (number + 1) xs

-- no other process is ready: each other of the current stage waits or has ended
abbrev pub is_last_ready : State → ℕ → Bool
is_last_ready s process = no_other_ready s process 1 s.processes
