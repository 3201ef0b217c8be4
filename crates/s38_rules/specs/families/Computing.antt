-- Computations that the machine does, since an operand lies in a space: what they read at their operands.
use Rattle.std.specs.Prelude.{ℕ, Bool, true, false, ◌||◌, ℤ, pos, List, [], replicate, Option, Some, None, if◌then◌else◌}
use Rattle.s38_base.specs.declared.attr.Attr.{Attr}
use Rattle.s38_base.specs.declared.attr.Attr.TheVariants as attrs
use Rattle.s38_base.specs.declared.exception.Exception.{Exception}
use Rattle.s38_base.specs.declared.op.Op.{Op}
use Rattle.s38_base.specs.declared.op.Op.TheVariants.{Callx, Xctl}
use Rattle.s38_base.specs.RightNames as rights
use Rattle.s38_code.specs.declared.event.Request.{Request}
use Rattle.s38_code.specs.declared.operand.Operand.{Operand}
use Rattle.s38_code.specs.declared.operand.Operand.TheVariants as operands
use Rattle.s38_code.specs.declared.reply.Val.{Val}
use Rattle.s38_compute.specs.Computed.{computed, failure_in, is_branch, moves_pointer, shift_of, value_in}
use Rattle.s38_compute.specs.Readings.{Readings}
use Rattle.s38_rules.specs.declared.need.Named.TheVariants.{Written}
use Rattle.s38_rules.specs.declared.need.Need.{Need}
use Rattle.s38_rules.specs.declared.need.PointerKind.TheVariants as pointer_kinds
use Rattle.s38_rules.specs.declared.need.Sought.TheVariants.{Ignored}
use Rattle.s38_rules.specs.state.Held.{Held}
use Rattle.s38_rules.specs.families.Instruction.{Instruction, inert}
use Rattle.s38_rules.specs.ask.Needs.{need}
use Rattle.s38_rules.specs.ask.Operands.{bytes_at, bytes_of, number_at, place, pointer_at, room_at, scalar_attr, word_at}

-- ---- operands

abbrev pub receiver_attr : Option Operand → Attr
receiver_attr (Some (operands.Receiver attr)) = attr
receiver_attr (Some (operands.InSpace base offset attr)) = attr
receiver_attr _ = attrs.Chars 0

abbrev pub power_of : Option Operand → ℤ
power_of (Some (operands.Whole z)) = z
power_of _ = pos 0

-- what the receiver holds; what is in a variable the machine neither knows nor needs
abbrev pub held_in : Held → List Operand → Option Operand → List ℕ
held_in h ops (Some (operands.InSpace base offset attr)) = bytes_of h (place ops 1)
held_in h ops _ = replicate (room_at ops 1) 0

-- a copy gives the bytes alone that it copies: a variable keeps its others, and so does a space
abbrev pub of_operands : Held → List Operand → Readings
of_operands h ops =
    record {
      number = number_at h ops;
      attr = λ k. scalar_attr (place ops k);
      bytes = bytes_at h ops;
      pointer = pointer_at h ops;
      word = word_at ops;
      power = power_of (place ops 3);
      receiver = receiver_attr (place ops 1);
      room = room_at ops 1;
      held = held_in h ops (place ops 1);
      keeps_rest = false;
    }

-- ---- the family: what is computed is the computation's own

-- a space pointer, whose object is not looked at
abbrev pub offset_needs : List Need
offset_needs = need 2 Written pointer_kinds.Space Ignored rights.no_rights None

unfoldable pub computing_needs : Op → List Need
computing_needs op = if moves_pointer op then offset_needs else []

unfoldable pub computing_fails : Held → Request → Option Exception
computing_fails h r = failure_in (computed r.op r.round (of_operands h r.operands))

unfoldable pub computing_gives : Held → Request → Option Val
computing_gives h r = value_in (computed r.op r.round (of_operands h r.operands))

abbrev pub computing : Instruction
computing = record inert {
  needs = λ s p d r. computing_needs r.op;
  fails = λ s p d r. computing_fails s.held r;
  gives = λ s p d r. computing_gives s.held r;
}

-- ---- where a value goes

-- a call gives the program that is called
abbrev pub is_call : Op → Bool
is_call Callx = true
is_call Xctl = true
is_call _ = false

-- the operand that gets the value of an instruction; that of a branch and of a call comes back with the reply
abbrev pub receiver_at : Op → List Operand → Option Operand
receiver_at op ops = if is_branch op || is_call op then None else place ops 1

-- a copy at the right goes so many bytes past the beginning of its receiver
abbrev pub shift_at : Held → Op → List Operand → ℕ
shift_at h op ops = shift_of op (of_operands h ops)
