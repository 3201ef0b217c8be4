-- What a process keeps to, whatever its programs do: each of its invocations is within its program, and each name
-- means a variable that holds what it declares. So no local instruction meets an operand of another class.
use Rattle.std.specs.Prelude.{◌≡◌, ◌<◌, ◌≤◌, ℕ, ◌-◌, Bool, true, false, List, [], ◌∷◌, length, slice_get, take, Option, Some, None}
use Rattle.s38_base.specs.declared.op.Op.{Op}
use Rattle.s38_base.specs.declared.op.Op.TheVariants.{Callx, Xctl}
use Rattle.s38_code.specs.Operations.{classes}
use Rattle.s38_code.specs.declared.class.Class.{Class}
use Rattle.s38_code.specs.declared.program.Arg.{Arg}
use Rattle.s38_code.specs.declared.program.Form.{Form}
use Rattle.s38_code.specs.declared.program.Form.TheVariants as forms
use Rattle.s38_code.specs.declared.program.Instruction.{Instruction}
use Rattle.s38_code.specs.declared.program.Program.{Program}
use Rattle.s38_code.specs.declared.program.Row.{Row}
use Rattle.s38_code.specs.declared.reply.Reply.{Reply}
use Rattle.s38_code.specs.declared.reply.Reply.TheVariants as replies
use Rattle.s38_code.specs.declared.reply.Val.{Val}
use Rattle.s38_local.specs.Law.{FrameIsInRange, HavePlaces, Shape, shape_for, shape_of, shapes_of}
use Rattle.s38_local.specs.Variables.{item_place}
use Rattle.s38_odt.specs.Suited.{AreSuited}
use Rattle.s38_process.specs.declared.invocation.Invocation.{Invocation}
use Rattle.s38_process.specs.Invocations.{Stack, argument_places, arguments_in, instruction_of, instructions_in, program_rows_in}
use Rattle.s38_process.specs.Process.{ProcessState}
use Rattle.s38_process.specs.AfterReply.{program_returned}
use Rattle.s38_process.specs.Replies.{merged, takes_value}

-- ---- invocations

-- a parameter lies before the variables of its own invocation, among those of its callers
abbrev pub IsLent : ℕ → Form → Option ℕ → Type 0
IsLent base (forms.Parm k attr) home = (place : ℕ) × ((home ≡ Some place) × (place < base))
IsLent base _ home = Unit {0}

-- an invocation among variables of these shapes, which are its callers' and its own
pub record IsLawfulInvocation (shapes : List Shape) (top : Invocation) : Type 0 where
  pub program : AreSuited (program_rows_in top.made) (instructions_in top.made)
  pub within : FrameIsInRange (length (instructions_in top.made)) top.frame
  pub held : HavePlaces (program_rows_in top.made) top.frame.homes shapes
  pub lent : (k : ℕ) (row : Row) → slice_get (program_rows_in top.made) k ≡ Some row → IsLent top.frame.base row.form (slice_get top.frame.homes k)
  pub base : top.frame.base ≤ length shapes

-- all of them, the newest first; when one ends, its variables end
abbrev pub AreLawfulFrom : List Shape → Invocation → List Invocation → Type 0
AreLawfulFrom shapes top [] = IsLawfulInvocation shapes top
AreLawfulFrom shapes top (caller ∷ more) = IsLawfulInvocation shapes top × AreLawfulFrom (take top.frame.base shapes) caller more

abbrev pub IsLawfulStack : Stack → Type 0
IsLawfulStack s = AreLawfulFrom (shapes_of s.values) s.top s.callers

abbrev pub IsLawful : ProcessState → Type 0
IsLawful d = IsLawfulStack d.stack

-- ---- replies that suit what was asked

-- an argument holds what the parameter declares
abbrev pub IsPassed : List Shape → List ℕ → Form → Type 0
IsPassed shapes places (forms.Parm k attr) = (place : ℕ) × ((slice_get places (k - 1) ≡ Some place) × (slice_get shapes place ≡ Some (shape_for attr)))
IsPassed shapes places _ = Unit {0}

-- a program that a call goes into: it is one that creation makes, and the arguments are its parameters
pub record SuitsCall (s : Stack) (arguments : List Arg) (program : Program) : Type 0 where
  pub suited : AreSuited program.rows program.code
  pub passed : (k : ℕ) (row : Row) → slice_get program.rows k ≡ Some row
      → IsPassed (shapes_of s.values) (argument_places s.top.frame.homes (length s.values) arguments) row.form

-- a value that goes to a variable is such as the variable holds
abbrev pub SuitsPlace : Op → List Val → Option ℕ → Val → Type 0
SuitsPlace op values None v = Unit {0}
SuitsPlace op values (Some place) v = (old : Val) → slice_get values place ≡ Some old → shape_of (merged op (Some old) v) ≡ shape_of old

-- one or the other, by a test
abbrev pub Either : Bool → Type 0 → Type 0 → Type 0
Either true A B = A
Either false A B = B

-- so are all, each for its receiver in order
abbrev pub SuitValues : Op → List Row → List ℕ → List Val → List Class → List Arg → List Val → Type 0
SuitValues op rows homes values (class ∷ more) (arg ∷ rest) (v ∷ vs) =
    Either (takes_value rows class arg)
    (SuitsPlace op values (item_place homes (Some arg)) v × SuitValues op rows homes values more rest vs)
    (SuitValues op rows homes values more rest (v ∷ vs))
SuitValues op rows homes values _ _ _ = Unit {0}

abbrev pub SuitsHere : Stack → Instruction → List Val → Type 0
SuitsHere s i vs = SuitValues i.op (program_rows_in s.top.made) s.top.frame.homes s.values (classes i.op) i.args vs

abbrev pub SuitsInto : Stack → Instruction → List Val → Op → Option Program → Type 0
SuitsInto s i vs Callx (Some program) = SuitsCall s (arguments_in (Some i)) program × SuitsHere s i vs
SuitsInto s i vs Xctl (Some program) = SuitsCall s (arguments_in (Some i)) program
SuitsInto s i vs op came = SuitsHere s i vs

abbrev pub SuitsBy : Stack → Option Instruction → List Val → Type 0
SuitsBy s None vs = Unit {0}
SuitsBy s (Some i) vs = SuitsInto s i vs i.op (program_returned vs)

-- a reply to what the newest invocation asks; a signal and a wait suit
abbrev pub SuitsReply : ProcessState → Reply → Type 0
SuitsReply d (replies.Done vs) = SuitsBy d.stack (instruction_of d.stack.top) vs
SuitsReply d (replies.Signal x) = Unit {0}
SuitsReply d replies.MustWait = Unit {0}
