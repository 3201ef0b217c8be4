-- What an instruction asks of the machine, with the values of the variables put in.
use Rattle.std.specs.Prelude.{ℕ, Bool, true, false, List, [], ◌∷◌, Option, Some, None, slice_get}
use Rattle.s38_base.specs.declared.attr.Attr.{Attr}
use Rattle.s38_base.specs.declared.attr.Attr.TheVariants as attrs
use Rattle.s38_code.specs.Operations.{classes}
use Rattle.s38_code.specs.declared.class.Class.{Class}
use Rattle.s38_code.specs.declared.class.Class.TheVariants.{NumberReceiver, BytesReceiver, PointerReceiver, CellsReceiver}
use Rattle.s38_code.specs.declared.event.Request.{Request}
use Rattle.s38_code.specs.declared.operand.Operand.{Operand}
use Rattle.s38_code.specs.declared.operand.Operand.TheVariants as operands
use Rattle.s38_code.specs.declared.program.Arg.{Arg}
use Rattle.s38_code.specs.declared.program.Arg.TheVariants as args
use Rattle.s38_code.specs.declared.program.Form.{Form}
use Rattle.s38_code.specs.declared.program.Form.TheVariants as forms
use Rattle.s38_code.specs.declared.program.Instruction.{Instruction}
use Rattle.s38_code.specs.declared.program.Row.{Row}
use Rattle.s38_code.specs.declared.reply.Val.{Val}
use Rattle.s38_local.specs.Variables.{form_in, value_bytes, value_of_item, value_pointer}

abbrev pub is_receiver : Class → Bool
is_receiver NumberReceiver = true
is_receiver BytesReceiver = true
is_receiver PointerReceiver = true
is_receiver CellsReceiver = true
is_receiver _ = false

-- a variable that is read: its pointer, or its bytes
abbrev pub operand_source : Attr → Option Val → Operand
operand_source attrs.Pointer v = operands.Ptr (value_pointer v)
operand_source attr v = operands.Value attr (value_bytes v)

abbrev pub item_operand : Bool → Attr → Option Val → Operand
item_operand true attr v = operands.Receiver attr
item_operand false attr v = operand_source attr v

-- an item with a base lies in the space of the base's pointer
abbrev pub item_by : List ℕ → List Val → Bool → ℕ → Option Form → Operand
item_by homes values receiver i (Some (forms.Based base offset attr)) = operands.InSpace (value_pointer (value_of_item homes values base)) offset attr
item_by homes values receiver i (Some (forms.Local attr first)) = item_operand receiver attr (value_of_item homes values i)
item_by homes values receiver i (Some (forms.Parm k attr)) = item_operand receiver attr (value_of_item homes values i)
item_by homes values receiver i (Some (forms.Handler code at)) = item_operand receiver attrs.Pointer (value_of_item homes values i)
item_by homes values receiver i None = item_operand receiver attrs.Pointer (value_of_item homes values i)

-- an argument as the machine gets it
abbrev pub operand_of : List Row → List ℕ → List Val → Class → Arg → Operand
operand_of rows homes values class (args.Item i) = item_by homes values (is_receiver class) i (form_in (slice_get rows i))
operand_of rows homes values class (args.Literal attr bytes) = operands.Value attr bytes
operand_of rows homes values class (args.Whole z) = operands.Whole z
operand_of rows homes values class (args.Jump at) = operands.Nothing
operand_of rows homes values class (args.Word w) = operands.Word w
operand_of rows homes values class (args.Ident id) = operands.Ident id
operand_of rows homes values class (args.Text name) = operands.Text name
operand_of rows homes values class (args.Attrs attributes) = operands.Attrs attributes
operand_of rows homes values class args.Nothing = operands.Nothing
operand_of rows homes values class args.MachineContext = operands.MachineContext
operand_of rows homes values class args.ContextList = operands.ContextList

abbrev pub operands_of : List Row → List ℕ → List Val → List Class → List Arg → List Operand
operands_of rows homes values (class ∷ more) (arg ∷ rest) = operand_of rows homes values class arg ∷ operands_of rows homes values more rest
operands_of rows homes values _ _ = []

unfoldable pub request_of : List Row → List ℕ → List Val → Instruction → Request
request_of rows homes values i = record { op = i.op; round = i.round; operands = operands_of rows homes values (classes i.op) i.args }
