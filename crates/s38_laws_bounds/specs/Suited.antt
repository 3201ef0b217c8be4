-- What creation of programs sees to in the operands of an instruction, as far as a write into a space depends on it.
use Rattle.std.specs.Prelude.{◌==◌, ◌%◌, Bool, true, false, ◌&&◌, IsTrue, List, [], ◌∷◌, not}
use Rattle.s38_base.specs.declared.attr.Attr.{Attr}
use Rattle.s38_base.specs.declared.attr.Attr.TheVariants as attrs
use Rattle.s38_base.specs.Limits.{cell_bytes}
use Rattle.s38_base.specs.Attributes.{is_pointer_attr, length_of}
use Rattle.s38_code.specs.Operations.{classes, operand_rule}
use Rattle.s38_code.specs.declared.class.Class.{Class}
use Rattle.s38_code.specs.declared.class.Class.TheVariants.{PointerReceiver, CellsSource, CellsReceiver, Constant}
use Rattle.s38_code.specs.declared.class.Constant.TheVariants.{Attribute}
use Rattle.s38_code.specs.declared.event.Request.{Request}
use Rattle.s38_code.specs.declared.operand.Operand.{Operand}
use Rattle.s38_code.specs.declared.operand.Operand.TheVariants as operands
use Rattle.s38_code.specs.declared.rule.OperandRule.{OperandRule}
use Rattle.s38_code.specs.declared.rule.OperandRule.TheVariants.{EqualLengths, ShortBinary}

-- the attribute of an operand, or the one that the operand is
abbrev pub attr_of : Operand → Attr
attr_of (operands.Value attr bytes) = attr
attr_of (operands.Receiver attr) = attr
attr_of (operands.InSpace base offset attr) = attr
attr_of (operands.Ptr p) = attrs.Pointer
attr_of (operands.Attrs (attr ∷ [])) = attr
attr_of _ = attrs.Chars 0

-- its bytes fill cells
abbrev pub fills_cells : Operand → Bool
fills_cells x = length_of (attr_of x) % cell_bytes == 0

-- cells are read there: a pointer of a variable, or an item in a space
abbrev pub has_cells_of : Operand → Bool
has_cells_of (operands.Ptr p) = true
has_cells_of (operands.InSpace base offset attr) = true
has_cells_of _ = false

-- a pointer goes to a pointer, cells are copied between what has cells, and an attribute that is in a program is that
-- of a scalar
abbrev pub suits : Class → Operand → Bool
suits PointerReceiver x = is_pointer_attr (attr_of x)
suits CellsReceiver x = fills_cells x
suits CellsSource x = has_cells_of x
suits (Constant Attribute) x = not (is_pointer_attr (attr_of x))
suits _ x = true

abbrev pub all_suit : List Class → List Operand → Bool
all_suit (class ∷ more) (x ∷ xs) = suits class x && all_suit more xs
all_suit _ _ = true

abbrev pub same_length : List Operand → Bool
same_length (x ∷ y ∷ more) = length_of (attr_of x) == length_of (attr_of y)
same_length _ = false

abbrev pub has_two_bytes : List Operand → Bool
has_two_bytes (x ∷ more) = length_of (attr_of x) == 2
has_two_bytes _ = false

-- two operands are equally long, and what gets a short binary number has two bytes
abbrev pub keeps_rule : OperandRule → List Operand → Bool
keeps_rule EqualLengths ops = same_length ops
keeps_rule ShortBinary ops = has_two_bytes ops
keeps_rule _ ops = true

-- the operands suit the table of operations
pub record SuitsTable (r : Request) : Type 0 where
  pub classes : IsTrue (all_suit (classes r.op) r.operands)
  pub ruled : IsTrue (keeps_rule (operand_rule r.op) r.operands)
