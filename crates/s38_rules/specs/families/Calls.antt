-- CALLX and XCTL hand a program, whose parameters the arguments fit, to the process that asks, which goes on in it.
use Rattle.std.specs.Prelude.{ℕ, Bool, true, false, not, ◌&&◌, List, [], ◌∷◌, drop, Option, Some, None, nat_le}
use Rattle.std.specs.Option.{option_map}
use Rattle.s38_base.specs.declared.attr.Attr.{Attr}
use Rattle.s38_base.specs.declared.attr.Attr.TheVariants as attrs
use Rattle.s38_base.specs.declared.exception.Exception.{Exception}
use Rattle.s38_base.specs.declared.id.Kind.TheVariants as kinds
use Rattle.s38_base.specs.declared.words.Category.TheVariants.{Read}
use Rattle.s38_base.specs.Exceptions as exceptions
use Rattle.s38_base.specs.RightNames as rights
use Rattle.s38_base.specs.Attributes.{same_attr}
use Rattle.s38_base.specs.Signals.{fails, first}
use Rattle.s38_code.specs.declared.operand.Operand.{Operand}
use Rattle.s38_code.specs.declared.operand.Operand.TheVariants as operands
use Rattle.s38_code.specs.declared.program.Form.{Form}
use Rattle.s38_code.specs.declared.program.Form.TheVariants as forms
use Rattle.s38_code.specs.declared.program.Program.{Program}
use Rattle.s38_code.specs.declared.program.Row.{Row}
use Rattle.s38_code.specs.declared.reply.Val.{Val}
use Rattle.s38_code.specs.declared.reply.Val.TheVariants as vals
use Rattle.s38_rules.specs.declared.need.Need.{Need}
use Rattle.s38_rules.specs.declared.need.Sought.TheVariants.{Of}
use Rattle.s38_rules.specs.declared.object.Body.{Body}
use Rattle.s38_rules.specs.declared.object.Body.TheVariants as bodies
use Rattle.s38_rules.specs.declared.object.Object.{Object}
use Rattle.s38_rules.specs.families.Changes.{Changes, Framed}
use Rattle.s38_rules.specs.state.Held.{Held, object}
use Rattle.s38_rules.specs.families.Instruction.{Instruction, inert}
use Rattle.s38_rules.specs.state.Invocations.{frames_used, most_frames, pushed, replaced, stack_of}
use Rattle.s38_rules.specs.ask.Needs.{on_object}
use Rattle.s38_rules.specs.ask.Operands.{target}
use Rattle.s38_rules.specs.state.State.{State}

abbrev pub code_of : Body → Option Program
code_of (bodies.Program program) = Some program
code_of _ = None

abbrev pub code_in : Option Object → Option Program
code_in None = None
code_in (Some o) = code_of o.body

-- the program that operand 1 names
abbrev pub program_at : Held → List Operand → Option Program
program_at h ops = code_in (object h (target h ops 1))

abbrev pub with_parameter : Form → List Attr → List Attr
with_parameter (forms.Parm k attr) more = attr ∷ more
with_parameter _ more = more

-- the attributes of a program's parameters, in order of declaration
abbrev pub parameters_in : List Row → List Attr
parameters_in [] = []
parameters_in (row ∷ rows) = with_parameter row.form (parameters_in rows)

abbrev pub parameters_of : Option Program → List Attr
parameters_of None = []
parameters_of (Some program) = parameters_in program.rows

-- an argument of this attribute: the bytes of a scalar, or a pointer
abbrev pub is_argument : Attr → Operand → Bool
is_argument attr (operands.Value given bytes) = same_attr attr given
is_argument attr (operands.Ptr p) = same_attr attr attrs.Pointer
is_argument attr _ = false

-- the arguments are the parameters, in number and attributes
abbrev pub are_arguments : List Attr → List Operand → Bool
are_arguments [] [] = true
are_arguments (attr ∷ attributes) (argument ∷ more) = is_argument attr argument && are_arguments attributes more
are_arguments _ _ = false

-- operand 1 is the program, and the arguments come after it
abbrev pub argument_rule : Held → List Operand → Option Exception
argument_rule h ops = fails (not (are_arguments (parameters_of (program_at h ops)) (drop 1 ops))) exceptions.argument_mismatch 1

abbrev pub frame_rule : State → ℕ → ℕ → Option Exception
frame_rule s p d = fails (nat_le most_frames (frames_used d (stack_of s p))) exceptions.limit_exceeded 0

-- RETRIEVE on the program, which is read
unfoldable pub call_needs : List Need
call_needs = on_object 1 (Of kinds.Program) rights.retrieve (Some Read)

-- the arguments suit, and a frame is left
unfoldable pub callx_fails : State → ℕ → ℕ → List Operand → Option Exception
callx_fails s p d ops = first (argument_rule s.held ops) (frame_rule s p d)

unfoldable pub xctl_fails : Held → List Operand → Option Exception
xctl_fails h ops = argument_rule h ops

-- the program itself
unfoldable pub call_gives : Held → List Operand → Option Val
call_gives h ops = option_map vals.Code (program_at h ops)

-- the program comes after the frames that count
abbrev pub callx_changes : Held → ℕ → List Operand → Changes
callx_changes h d ops = Framed (pushed d (record { 0 = target h ops 1 }))

-- the program takes the place of the last frame that counts
abbrev pub xctl_changes : Held → ℕ → List Operand → Changes
xctl_changes h d ops = Framed (replaced d (record { 0 = target h ops 1 }))

abbrev pub callx : Instruction
callx = record inert {
  needs = λ s p d r. call_needs;
  fails = λ s p d r. callx_fails s p d r.operands;
  gives = λ s p d r. call_gives s.held r.operands;
  changes = λ s p d r. callx_changes s.held d r.operands;
}

abbrev pub xctl : Instruction
xctl = record inert {
  needs = λ s p d r. call_needs;
  fails = λ s p d r. xctl_fails s.held r.operands;
  gives = λ s p d r. call_gives s.held r.operands;
  changes = λ s p d r. xctl_changes s.held d r.operands;
}
