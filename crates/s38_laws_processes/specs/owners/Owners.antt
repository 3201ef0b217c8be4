-- Whose programs a process runs: the frames that the machine keeps of it are those of the programs in which it is, so
-- the owners that act are the owners of these programs.
use Rattle.std.specs.Prelude.{◌≡◌, ◌<◌, ◌≤◌, ◌⊎◌, ℕ, ◌+◌, List, [], ◌∷◌, ◌++◌, length, map, Option, Some, None, is_some, slice_get, true}
use Rattle.std.specs.Option.{option_map}
use Rattle.s38_base.specs.declared.id.ObjNum.{ObjNum}
use Rattle.s38_code.specs.declared.entry.Entry.{Entry}
use Rattle.s38_code.specs.declared.event.Event.{Event}
use Rattle.s38_code.specs.declared.event.Event.TheVariants.{Start, Act, Finish}
use Rattle.s38_code.specs.declared.made.CreateResult.{CreateResult}
use Rattle.s38_code.specs.declared.made.CreateResult.TheVariants.{Created}
use Rattle.s38_code.specs.History.{entries_of}
use Rattle.s38_process.specs.Invocations.{Stack, depth_of}
use Rattle.s38_process.specs.declared.status.Status.TheVariants.{Running}
use Rattle.s38_process.specs.Process.{ProcessState}
use Rattle.s38_process.specs.AfterReply.{process_after}
use Rattle.s38_rules.specs.declared.object.Object.{Object}
use Rattle.s38_rules.specs.state.Held.{Held, object}
use Rattle.s38_rules.specs.state.Invocations.{in_use, stack_of}
use Rattle.s38_rules.specs.families.Calls.{code_of}
use Rattle.s38_rules.specs.state.State.{State, started}
use Rattle.s38_rules.specs.step.Step.{step}

-- ---- frames and programs

-- the number was given, and an object that has it is this program; a number is never given again, so no other object
-- ever has it
pub record WasGivenTo (h : Held) (n : ℕ) (program : CreateResult) : Type 0 where
  pub some : 1 ≤ n
  pub given : n < h.next
  pub is : (o : Object) → object h n ≡ Some o → option_map Created (code_of o.body) ≡ Some program

-- 0 is the frame of the job's own template, and another number that of the object of a program
abbrev pub IsFrameOf : Held → CreateResult → ObjNum → CreateResult → Type 0
IsFrameOf h own frame program = ((frame.0 ≡ 0) × (program ≡ own)) ⊎ WasGivenTo h frame.0 program

abbrev pub IsProgramAt : Held → CreateResult → Option ObjNum → CreateResult → Type 0
IsProgramAt h own None program = ⊥
IsProgramAt h own (Some frame) program = IsFrameOf h own frame program

-- of programs, the newest first, each has the frame after those of its callers
abbrev pub AreFramesOf : Held → CreateResult → List ObjNum → List CreateResult → Type 0
AreFramesOf h own frames [] = Unit {0}
AreFramesOf h own frames (program ∷ callers) = IsProgramAt h own (slice_get frames (length callers)) program × AreFramesOf h own frames callers

-- the programs of the invocations, the newest first
abbrev pub programs_of : Stack → List CreateResult
programs_of s = s.top.made ∷ map (λ invocation. invocation.made) s.callers

-- the frames are as many as the invocations, and each is that of its program
pub record Agree (h : Held) (own : CreateResult) (frames : List ObjNum) (s : Stack) : Type 0 where
  pub count : length frames ≡ depth_of s
  pub each : AreFramesOf h own frames (programs_of s)

-- ---- over a history

-- a process that runs has started, and the frames of one that has started, as far as they are in use at its depth, are
-- those of its invocations
pub record IsOwned (s : State) (p : ℕ) (own : CreateResult) (d : ProcessState) : Type 0 where
  pub begun : d.status ≡ Running → is_some (started s p) ≡ true
  pub agree : is_some (started s p) ≡ true → Agree s.held own (in_use (depth_of d.stack) (stack_of s p)) d.stack

abbrev pub OwnersAgree : List ProcessState → List Entry → State → Type 0
OwnersAgree processes before s = (k : ℕ) (d : ProcessState) → slice_get processes k ≡ Some d → IsOwned s (k + 1) d.stack.top.made (process_after d (entries_of (k + 1) before))

-- an instruction is asked at the depth of its process, so the owners that act are those of frames of its invocations
abbrev pub ActsFor : State → ℕ → CreateResult → Stack → Event → Type 0
ActsFor s p own stack (Act depth request) = (depth ≡ depth_of stack) × Agree s.held own (in_use depth (stack_of s p)) stack
ActsFor s p own stack Start = Unit {0}
ActsFor s p own stack (Finish cause) = Unit {0}

abbrev pub IsActedFor : List ProcessState → List Entry → State → Entry → Type 0
IsActedFor processes before s e = (k : ℕ) (d : ProcessState) → slice_get processes k ≡ Some d → e.process ≡ k + 1
    → ActsFor s e.process d.stack.top.made (process_after d (entries_of (k + 1) before)).stack e.event

-- so it is in each state on the way
abbrev pub AllOwnersAgree : List ProcessState → State → List Entry → List Entry → Type 0
AllOwnersAgree processes s before [] = OwnersAgree processes before s
AllOwnersAgree processes s before (e ∷ es) =
    OwnersAgree processes before s × IsActedFor processes before s e × AllOwnersAgree processes (step s e.process e.event).state (before ++ e ∷ []) es
