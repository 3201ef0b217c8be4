-- What holds of every pointer that lies somewhere: in a variable, in a space, among what is asked, in what comes back.
use Rattle.std.specs.Prelude.{ℕ, All, List, Option, Some, None}
use Rattle.s38_base.specs.declared.id.ObjNum.{ObjNum}
use Rattle.s38_base.specs.declared.pointer.Pointer.{Pointer}
use Rattle.s38_base.specs.declared.pointer.Pointer.TheVariants as pointers
use Rattle.s38_code.specs.declared.event.Event.{Event}
use Rattle.s38_code.specs.declared.event.Event.TheVariants.{Start, Act, Finish}
use Rattle.s38_code.specs.declared.operand.Operand.{Operand}
use Rattle.s38_code.specs.declared.operand.Operand.TheVariants as operands
use Rattle.s38_code.specs.declared.reply.Reply.{Reply}
use Rattle.s38_code.specs.declared.reply.Reply.TheVariants.{Done, Signal, MustWait}
use Rattle.s38_code.specs.declared.reply.Val.{Val}
use Rattle.s38_code.specs.declared.reply.Val.TheVariants as vals
use Rattle.s38_memory.specs.declared.cell.Cell.{Cell}
use Rattle.s38_memory.specs.declared.cell.Cell.TheVariants.{Bytes, Tagged}
use Rattle.s38_rules.specs.declared.object.Body.{Body}
use Rattle.s38_rules.specs.declared.object.Body.TheVariants as bodies
use Rattle.s38_rules.specs.declared.object.Object.{Object}

abbrev pub OfPointer : (Pointer → Type 0) → Option Pointer → Type 0
OfPointer q None = Unit {0}
OfPointer q (Some p) = q p

abbrev pub OfCell : (Pointer → Type 0) → Cell → Type 0
OfCell q (Bytes bytes) = Unit {0}
OfCell q (Tagged p) = q p

abbrev pub OfCells : (Pointer → Type 0) → List Cell → Type 0
OfCells q cells = All (OfCell q) cells

abbrev pub OfBody : (Pointer → Type 0) → Body → Type 0
OfBody q (bodies.Space cells) = OfCells q cells
OfBody q _ = Unit {0}

abbrev pub OfObject : (Pointer → Type 0) → Object → Type 0
OfObject q o = OfBody q o.body

abbrev pub OfObjects : (Pointer → Type 0) → List Object → Type 0
OfObjects q os = All (OfObject q) os

abbrev pub OfVal : (Pointer → Type 0) → Val → Type 0
OfVal q (vals.Ptr p) = OfPointer q p
OfVal q _ = Unit {0}

abbrev pub OfVals : (Pointer → Type 0) → List Val → Type 0
OfVals q vs = All (OfVal q) vs

abbrev pub OfReply : (Pointer → Type 0) → Reply → Type 0
OfReply q (Done vs) = OfVals q vs
OfReply q (Signal x) = Unit {0}
OfReply q MustWait = Unit {0}

abbrev pub OfOperand : (Pointer → Type 0) → Operand → Type 0
OfOperand q (operands.Ptr p) = OfPointer q p
OfOperand q (operands.InSpace base offset attr) = OfPointer q base
OfOperand q _ = Unit {0}

abbrev pub OfEvent : (Pointer → Type 0) → Event → Type 0
OfEvent q Start = Unit {0}
OfEvent q (Act depth request) = All (OfOperand q) request.operands
OfEvent q (Finish cause) = Unit {0}

-- what holds of a pointer holds of each space pointer into the same object
abbrev pub IsClosed : (Pointer → Type 0) → Type 0
IsClosed q = (object : ObjNum) (offset other : ℕ) → q (pointers.Space object offset) → q (pointers.Space object other)
