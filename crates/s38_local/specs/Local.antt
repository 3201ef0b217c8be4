-- A local instruction: its operands are items of the invocation and literals, and it changes the variables of its
-- items and the place of the invocation alone. Sources are read before a receiver is written, and a signal leaves all
-- variables as they are.
use Rattle.std.specs.Prelude.{ℕ, ◌-◌, ◌&&◌, ◌||◌, Bool, true, false, not, ℤ, pos, List, length, Option, Some, None, Result, Ok, Err, slice_get, if◌then◌else◌}
use Rattle.std.specs.List.{list_any}
use Rattle.s38_base.specs.declared.exception.Exception.{Exception}
use Rattle.s38_base.specs.declared.op.Op.{Op}
use Rattle.s38_base.specs.declared.op.Op.TheVariants.{B, Calli, Cmpptrt, Modexcpd, Retexcpd, Rtx, Sigexcp}
use Rattle.s38_base.specs.Scalar.{value_of}
use Rattle.s38_base.specs.Signals.{plain}
use Rattle.s38_code.specs.declared.program.Arg.{Arg}
use Rattle.s38_code.specs.declared.program.Arg.TheVariants as args
use Rattle.s38_code.specs.declared.program.Instruction.{Instruction}
use Rattle.s38_code.specs.declared.program.Row.{Row}
use Rattle.s38_code.specs.declared.reply.Val.{Val}
use Rattle.s38_code.specs.declared.reply.Val.TheVariants as vals
use Rattle.s38_compute.specs.declared.given.Given.{Given}
use Rattle.s38_compute.specs.declared.given.Given.TheVariants as givens
use Rattle.s38_compute.specs.Computed.{computed, is_computation}
use Rattle.s38_compute.specs.Readings.{Readings}
use Rattle.s38_local.specs.declared.frame.Frame.{Frame}
use Rattle.s38_local.specs.Frames.{Went, called, code_bytes, exception_code, moves, returned, stays, switched}
use Rattle.s38_local.specs.declared.local_end.LocalEnd.TheVariants as ends
use Rattle.s38_local.specs.Received.{Ran, bytes_put, jump_to, jumps, number_put, ran_on, signals}
use Rattle.s38_local.specs.Variables.{argument_attr, argument_bytes, argument_pointer, form_in, held_at, is_based, item_place, value_put_at}

-- ---- operands, numbered from 1

abbrev pub operand : List Arg → ℕ → Option Arg
operand given k = slice_get given (k - 1)

abbrev pub argument_number : List Row → List ℕ → List Val → Option Arg → Option ℤ
argument_number rows homes values arg = value_of (argument_attr rows arg) (argument_bytes homes values arg)

-- the receiver is operand 1
abbrev pub receiver_of : List ℕ → List Arg → Option ℕ
receiver_of homes given = item_place homes (operand given 1)

abbrev pub argument_word : Option Arg → ℕ
argument_word (Some (args.Word w)) = w
argument_word _ = 0

abbrev pub argument_whole : Option Arg → ℤ
argument_whole (Some (args.Whole z)) = z
argument_whole _ = pos 0

-- what is read among variables
abbrev pub of_variables : List Row → List ℕ → List Val → List Arg → Readings
of_variables rows homes values given = record {
  number = λ k. argument_number rows homes values (operand given k);
  attr = λ k. argument_attr rows (operand given k);
  bytes = λ k. argument_bytes homes values (operand given k);
  pointer = λ k. argument_pointer homes values (operand given k);
  word = λ k. argument_word (operand given k);
  power = argument_whole (operand given 3);
  receiver = argument_attr rows (operand given 1);
  room = length (held_at values (receiver_of homes given));
  held = held_at values (receiver_of homes given);
  keeps_rest = true;
}

-- ---- what an instruction does

-- it goes on elsewhere, or looks at the descriptions of exceptions
abbrev pub is_control : Op → Bool
is_control B = true
is_control Calli = true
is_control Rtx = true
is_control Sigexcp = true
is_control Retexcpd = true
is_control Modexcpd = true
is_control _ = false

-- the operand at which a comparison has its label
abbrev pub label_at : Op → ℕ
label_at Cmpptrt = 3
label_at _ = 4

-- what was computed goes to the receiver, or tells whether to branch
abbrev pub received : List ℕ → List Val → Instruction → Option (Result Given Exception) → Ran
received homes values i None = ran_on values
received homes values i (Some (Err x)) = signals values x
received homes values i (Some (Ok (givens.Number attr z))) = ran_on (number_put values (receiver_of homes i.args) attr z)
received homes values i (Some (Ok (givens.Bytes bytes))) = ran_on (bytes_put values (receiver_of homes i.args) bytes)
received homes values i (Some (Ok (givens.Pointer p))) = ran_on (value_put_at values (receiver_of homes i.args) (vals.Ptr (Some p)))
received homes values i (Some (Ok (givens.Branch taken))) =
    record { end = jumps taken (operand i.args (label_at i.op)); values = values }

-- an instruction that only goes on elsewhere, or looks at the descriptions of exceptions
abbrev pub controlled : Frame → List Val → Instruction → Op → Went
controlled frame values i B = stays frame (record { end = jump_to (operand i.args 1); values = values })
controlled frame values i Calli = moves values (called frame (operand i.args 1))
controlled frame values i Rtx = moves values (returned frame)
controlled frame values i Sigexcp = stays frame (signals values (plain (exception_code (argument_word (operand i.args 1))) 0))
controlled frame values i Retexcpd = stays frame (ran_on (bytes_put values (receiver_of frame.homes i.args) (code_bytes frame.latest)))
controlled frame values i Modexcpd =
    record { end = ends.Next; frame = switched frame (operand i.args 1) (argument_word (operand i.args 2)); values = values }
controlled frame values i op = stays frame (ran_on values)

abbrev pub computed_run : List Row → List ℕ → List Val → Instruction → Ran
computed_run rows homes values i = received homes values i (computed i.op i.round (of_variables rows homes values i.args))

-- what an instruction does to an invocation; one that is not local does nothing, and the end of the code is a return
unfoldable pub run : List Row → Frame → List Val → Option Instruction → Went
run rows frame values None = moves values (returned frame)
run rows frame values (Some i) =
    if is_control i.op then controlled frame values i i.op else stays frame (computed_run rows frame.homes values i)

-- ---- which instructions are local

unfoldable pub is_local_op : Op → Bool
is_local_op op = is_computation op || is_control op

-- an item that lies in a space
abbrev pub lies_in_space : List Row → Arg → Bool
lies_in_space rows (args.Item i) = is_based (form_in (slice_get rows i))
lies_in_space rows _ = false

-- whether some item is declared to lie in a space; where none is, no operand lies in one
abbrev pub declares_space : List Row → Bool
declares_space rows = list_any (λ row. is_based (Some row.form)) rows

-- a local instruction has no operand in a space; with one it is asked of the machine
unfoldable pub is_local : List Row → Instruction → Bool
is_local rows i = is_local_op i.op && not (list_any (lies_in_space rows) i.args)
