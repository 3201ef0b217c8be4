-- How counts, frame numbers and places follow an event that took effect, by what it changed.
use Rattle.std.specs.Prelude.{ℕ, ◌-◌, Bool, true, false, ◌&&◌, ◌||◌, List, None, if◌then◌else◌, length, slice_set}
use Rattle.s38_base.specs.Faults.{counted}
use Rattle.s38_base.specs.Ids.{same_kind}
use Rattle.s38_base.specs.declared.id.Kind.TheVariants as kinds
use Rattle.s38_base.specs.declared.op.Op.TheVariants.{Callx, Despg, Grant, Modup, Retract, Xctl, Xfro}
use Rattle.s38_base.specs.declared.op.Op.{Op}
use Rattle.s38_code.specs.declared.event.Event.{Event}
use Rattle.s38_code.specs.declared.event.Event.TheVariants.{Start, Act, Finish}
use Rattle.s38_rules.specs.families.Changes.{Changes, Framed, Gone, Made, OnAccess, Profiled, Then}
use Rattle.s38_rules.specs.state.Invocations.{stack_of}
use Rattle.s38_rules.specs.families.Rows.{row}
use Rattle.s38_rules.specs.state.State.{State}
use Rattle.s38_rights_cache.specs.Numbers.{FrameNumbers, begun_numbers, renumbered}
use Rattle.s38_rights_cache.specs.Worlds.{WorldState, frames_of}

-- what a change of authority is: an object's owner, rights or rows change, a user has other special authorities, or a
-- program is gone
abbrev pub changes_authority : Changes → Bool
changes_authority (OnAccess n f) = true
changes_authority (Profiled n special limit) = true
changes_authority (Gone kind n) = same_kind kind kinds.Program
changes_authority (Then a b) = changes_authority a || changes_authority b
changes_authority _ = false

-- the instructions by which authority changes
abbrev pub is_of_authority : Op → Bool
is_of_authority Modup = true
is_of_authority Grant = true
is_of_authority Retract = true
is_of_authority Xfro = true
is_of_authority Despg = true
is_of_authority _ = false

-- the process has other frames
abbrev pub changes_frames : Changes → Bool
changes_frames (Framed f) = true
changes_frames (Then a b) = changes_frames a || changes_frames b
changes_frames _ = false

-- the instructions that store a frame
abbrev pub is_of_frames : Op → Bool
is_of_frames Callx = true
is_of_frames Xctl = true
is_of_frames _ = false

-- neither owners, rights and rows of objects nor the special authorities of users are others, no object is new or gone, and
-- no process has other frames
abbrev pub is_quiet : Changes → Bool
is_quiet (OnAccess n f) = false
is_quiet (Profiled n special limit) = false
is_quiet (Made owner made body) = false
is_quiet (Gone kind n) = false
is_quiet (Framed f) = false
is_quiet (Then a b) = is_quiet a && is_quiet b
is_quiet _ = true

-- the last frame of a process is new
abbrev pub with_new_frame : WorldState → ℕ → State → List FrameNumbers
with_new_frame w process t = slice_set w.frames (process - 1) (renumbered (length (stack_of t process) - 1) (frames_of w process))

-- after a change, which led to a state
abbrev pub world_after_change : WorldState → ℕ → Changes → State → WorldState
world_after_change w process x t = record {
  state = t;
  authority = if changes_authority x then counted w.authority else w.authority;
  frames = if changes_frames x then with_new_frame w process t else w.frames;
  places = w.places;
  visits = w.visits;
}

-- the same by the instruction
abbrev pub world_after_op : WorldState → ℕ → Op → State → WorldState
world_after_op w process op t = record {
  state = t;
  authority = if is_of_authority op then counted w.authority else w.authority;
  frames = if is_of_frames op then with_new_frame w process t else w.frames;
  places = w.places;
  visits = w.visits;
}

-- a process that starts has its first frame, and nothing was found for it
abbrev pub world_after_start : WorldState → ℕ → State → WorldState
world_after_start w process t = record {
  state = t;
  authority = w.authority;
  frames = slice_set w.frames (process - 1) (begun_numbers (frames_of w process));
  places = slice_set w.places (process - 1) None;
  visits = w.visits;
}

-- after an event that took effect, which led to a state
unfoldable pub world_after_event : WorldState → ℕ → Event → State → WorldState
world_after_event w process Start t = world_after_start w process t
world_after_event w process (Act depth request) t = world_after_change w process ((row request.op).changes w.state process depth request) t
world_after_event w process (Finish cause) t = record w { state = t }
