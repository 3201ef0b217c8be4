-- What a world has beside a machine's state, so that rights which were found are used again: how often authority
-- changed, the numbers of the frames of each process, and a place for each process.
use Rattle.std.specs.Prelude.{ℕ, ◌-◌, false, List, Option, Some, None, length, replicate, slice_get}
use Rattle.s38_rules.specs.state.Invocations.{frames_used, stack_of}
use Rattle.s38_rules.specs.state.State.{State}
use Rattle.s38_rights_cache.specs.declared.found.Verified.{Verified}
use Rattle.s38_rights_cache.specs.declared.found.Visits.{Visits}
use Rattle.s38_rights_cache.specs.Numbers.{FrameNumbers, frames_in, no_numbers, number_at}

pub record WorldState : Type 0 where
  pub state : State
  -- how often authority changed
  pub authority : ℕ
  -- those of process k are at place k - 1
  pub frames : List FrameNumbers
  pub places : List (Option Verified)
  -- the rows that were visited to find rights
  pub visits : Visits

-- ---- what there is of a process

abbrev pub frames_of : WorldState → ℕ → FrameNumbers
frames_of w process = frames_in (slice_get w.frames (process - 1))

abbrev pub place_in : Option (Option Verified) → Option Verified
place_in None = None
place_in (Some place) = place

abbrev pub place_of : WorldState → ℕ → Option Verified
place_of w process = place_in (slice_get w.places (process - 1))

-- the number of the last frame in use at a depth
abbrev pub frame_of : WorldState → ℕ → ℕ → ℕ
frame_of w process depth = number_at (frames_used depth (stack_of w.state process)) (frames_of w process).numbers

-- ---- where nothing was done yet

-- no row was visited
abbrev pub no_visits : Visits
no_visits = record { count = 0; spent = false }

-- authority never changed, no process has a frame, and nothing was found
abbrev pub begun_world : State → WorldState
begun_world s = record {
  state = s;
  authority = 0;
  frames = replicate (length s.processes) no_numbers;
  places = replicate (length s.processes) None;
  visits = no_visits;
}
