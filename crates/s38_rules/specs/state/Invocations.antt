-- The invocations of a process: the numbers of their programs, the newest last. The first is 0, the job's own
-- template. A process that has come back says a lesser depth, and the frames after it no longer count.
use Rattle.std.specs.Prelude.{ℕ, ◌-◌, List, [], ◌∷◌, ◌++◌, length, take, min, Option, Some, None}
use Rattle.s38_base.specs.declared.id.ObjNum.{ObjNum}
use Rattle.s38_rules.specs.declared.process.ProcessEntry.{ProcessEntry}
use Rattle.s38_rules.specs.declared.process.Started.{Started}
use Rattle.s38_rules.specs.state.State.{State, process_entry, set_process, started}

-- how many frames there are at most
abbrev pub most_frames : ℕ
most_frames = 64

abbrev pub stack_in : Option Started → List ObjNum
stack_in None = []
stack_in (Some p) = p.stack

abbrev pub stack_of : State → ℕ → List ObjNum
stack_of s process = stack_in (started s process)

-- how many frames count at a depth
abbrev pub frames_used : ℕ → List ObjNum → ℕ
frames_used depth frames = min depth (length frames)

-- they are the first ones
abbrev pub in_use : ℕ → List ObjNum → List ObjNum
in_use depth frames = take (frames_used depth frames) frames

-- the frames that counted, and one more
abbrev pub pushed : ℕ → ObjNum → List ObjNum → List ObjNum
pushed depth program frames = in_use depth frames ++ program ∷ []

-- the frames that counted, with another program in place of the last
abbrev pub replaced : ℕ → ObjNum → List ObjNum → List ObjNum
replaced depth program frames = take (frames_used depth frames - 1) frames ++ program ∷ []

-- ---- other frames of a process, and nothing else

abbrev pub restacked : (List ObjNum → List ObjNum) → Option Started → Option Started
restacked f None = None
restacked f (Some p) = Some (record p { stack = f p.stack })

abbrev pub with_stack : (List ObjNum → List ObjNum) → ProcessEntry → ProcessEntry
with_stack f x = record x { started = restacked f x.started }

abbrev pub restack_at : (List ObjNum → List ObjNum) → State → ℕ → Option ProcessEntry → State
restack_at f s process None = s
restack_at f s process (Some x) = set_process s process (with_stack f x)

abbrev pub restack : (List ObjNum → List ObjNum) → State → ℕ → State
restack f s process = restack_at f s process (process_entry s process)
