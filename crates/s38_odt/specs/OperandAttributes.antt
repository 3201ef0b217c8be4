-- The attributes of operands, and the forms of the items that they name.
use Rattle.std.specs.Prelude.{ℕ, ◌%◌, Bool, true, false, not, ◌==◌, List, slice_get, Option, Some, None}
use Rattle.std.specs.Option.{option_and_then}
use Rattle.s38_base.specs.Attributes.{is_numeric, is_pointer_attr}
use Rattle.s38_base.specs.declared.attr.Attr.{Attr}
use Rattle.s38_base.specs.declared.attr.Attr.TheVariants.{Packed, Zoned, Binary, Chars, Pointer}
use Rattle.s38_code.specs.declared.class.Class.TheVariants.{Handler}
use Rattle.s38_code.specs.declared.program.Arg.{Arg}
use Rattle.s38_code.specs.declared.program.Arg.TheVariants as args
use Rattle.s38_code.specs.declared.program.Form.{Form}
use Rattle.s38_code.specs.declared.program.Form.TheVariants as forms
use Rattle.s38_code.specs.declared.program.Row.{Row}

-- a description of an exception has none
abbrev pub form_attr : Form → Option Attr
form_attr (forms.Local attr first) = Some attr
form_attr (forms.Parm k attr) = Some attr
form_attr (forms.Based base offset attr) = Some attr
form_attr (forms.Handler code at) = None

abbrev pub row_attr : List Row → ℕ → Option Attr
row_attr rows item = option_and_then (λ row. form_attr row.form) (slice_get rows item)

-- the attribute of an item
abbrev pub item_attr : List Row → Arg → Option Attr
item_attr rows (args.Item item) = row_attr rows item
item_attr rows _ = None

-- the attribute of an item or a literal
abbrev pub operand_attr : List Row → Arg → Option Attr
operand_attr rows (args.Item item) = row_attr rows item
operand_attr rows (args.Literal attr bytes) = Some attr
operand_attr rows _ = None

abbrev pub is_numeric_attr : Option Attr → Bool
is_numeric_attr None = false
is_numeric_attr (Some attr) = is_numeric attr

-- every attribute but a pointer's
abbrev pub are_bytes : Option Attr → Bool
are_bytes None = false
are_bytes (Some attr) = not (is_pointer_attr attr)

abbrev pub is_attr_of_pointer : Option Attr → Bool
is_attr_of_pointer None = false
is_attr_of_pointer (Some attr) = is_pointer_attr attr

-- the declaration of an item
abbrev pub item_row : List Row → Arg → Option Row
item_row rows (args.Item item) = slice_get rows item
item_row rows _ = None

-- bytes that fill cells
abbrev pub are_cells : Attr → Bool
are_cells (Packed digits fraction) = false
are_cells (Zoned digits fraction) = false
are_cells (Binary size) = false
are_cells (Chars len) = len % 16 == 0
are_cells Pointer = true

-- a pointer, or bytes in a space that fill cells
abbrev pub has_cells : Form → Bool
has_cells (forms.Local attr first) = is_pointer_attr attr
has_cells (forms.Parm k attr) = is_pointer_attr attr
has_cells (forms.Based base offset attr) = are_cells attr
has_cells (forms.Handler code at) = false

abbrev pub is_handler : Form → Bool
is_handler (forms.Local attr first) = false
is_handler (forms.Parm k attr) = false
is_handler (forms.Based base offset attr) = false
is_handler (forms.Handler code at) = true

-- a variable or a parameter can be passed on
abbrev pub can_be_passed : Form → Bool
can_be_passed (forms.Local attr first) = true
can_be_passed (forms.Parm k attr) = true
can_be_passed (forms.Based base offset attr) = false
can_be_passed (forms.Handler code at) = false
