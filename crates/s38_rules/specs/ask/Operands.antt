-- What an operand says, over the objects that are there. Operands are numbered from 1; what an instruction does
-- not have reads as nothing.
use Rattle.std.specs.Prelude.{ℕ, ◌-◌, ◌/◌, ◌%◌, ◌^◌, ◌==◌, Bool, true, false, ℤ, pos, List, [], ◌∷◌, Option, Some, None, bit_and, length, slice_get, if◌then◌else◌}
use Rattle.s38_base.specs.declared.attr.Attr.{Attr}
use Rattle.s38_base.specs.declared.attr.Attr.TheVariants as attrs
use Rattle.s38_base.specs.declared.id.Id.{Id}
use Rattle.s38_base.specs.declared.pointer.Pointer.{Pointer}
use Rattle.s38_base.specs.Pointers.{start_of, target_of}
use Rattle.s38_base.specs.RightNames as rights
use Rattle.s38_base.specs.Scalar.{value_of}
use Rattle.s38_base.specs.Attributes.{fraction_of, is_pointer_attr, length_of}
use Rattle.s38_memory.specs.declared.cell.Cell.{Cell}
use Rattle.s38_code.specs.declared.operand.Operand.{Operand}
use Rattle.s38_code.specs.declared.operand.Operand.TheVariants as operands
use Rattle.s38_rules.specs.state.Held.{Held}
use Rattle.s38_rules.specs.state.PartsAt.{cells_at, on_space}
use Rattle.s38_rules.specs.state.Cells.{bytes_there, cell_for, cells_there, pointer_there, with_cells}

abbrev pub place : List Operand → ℕ → Option Operand
place ops k = slice_get ops (k - 1)

-- a pointer in a space lies in a cell
abbrev pub pointer_in : List Cell → ℕ → Attr → Option Pointer
pointer_in cells at attr = if is_pointer_attr attr then pointer_there cells at else None

abbrev pub pointer_of : Held → Option Operand → Option Pointer
pointer_of h (Some (operands.Ptr p)) = p
pointer_of h (Some (operands.InSpace base offset attr)) = pointer_in (cells_at h (target_of base)) (start_of base offset) attr
pointer_of h _ = None

-- the pointer that is used
abbrev pub pointer_at : Held → List Operand → ℕ → Option Pointer
pointer_at h ops k = pointer_of h (place ops k)

abbrev pub bytes_of : Held → Option Operand → List ℕ
bytes_of h (Some (operands.Value attr bytes)) = bytes
bytes_of h (Some (operands.InSpace base offset attr)) = bytes_there (cells_at h (target_of base)) (start_of base offset) (length_of attr)
bytes_of h _ = []

-- the bytes that are read
abbrev pub bytes_at : Held → List Operand → ℕ → List ℕ
bytes_at h ops k = bytes_of h (place ops k)

-- how many they are
abbrev pub size_at : Held → List Operand → ℕ → ℕ
size_at h ops k = length (bytes_at h ops k)

abbrev pub is_given_in : Option Operand → Bool
is_given_in (Some operands.Nothing) = false
is_given_in None = false
is_given_in _ = true

-- the operand is there, and is not `*NONE`
abbrev pub is_given : List Operand → ℕ → Bool
is_given ops k = is_given_in (place ops k)

abbrev pub is_list_in : Option Operand → Bool
is_list_in (Some operands.ContextList) = true
is_list_in _ = false

-- the operand is `*LIST`
abbrev pub is_list : List Operand → ℕ → Bool
is_list ops k = is_list_in (place ops k)

abbrev pub is_machine_in : Option Operand → Bool
is_machine_in (Some operands.MachineContext) = true
is_machine_in _ = false

-- the operand is `*MACHINE`
abbrev pub is_machine : List Operand → ℕ → Bool
is_machine ops k = is_machine_in (place ops k)

abbrev pub word_of : Option Operand → ℕ
word_of (Some (operands.Word w)) = w
word_of _ = 0

-- the number of a word
abbrev pub word_at : List Operand → ℕ → ℕ
word_at ops k = word_of (place ops k)

-- a word of rights: its eight bits
abbrev pub rights_at : List Operand → ℕ → ℕ
rights_at ops k = bit_and (word_at ops k) rights.all_rights

abbrev pub id_of : Option Operand → Option Id
id_of (Some (operands.Ident id)) = Some id
id_of _ = None

abbrev pub id_at : List Operand → ℕ → Option Id
id_at ops k = id_of (place ops k)

abbrev pub room_of : Option Operand → ℕ
room_of (Some (operands.Receiver attr)) = length_of attr
room_of (Some (operands.InSpace base offset attr)) = length_of attr
room_of _ = 0

-- how many bytes the receiver takes
abbrev pub room_at : List Operand → ℕ → ℕ
room_at ops k = room_of (place ops k)

-- a whole number that is written; 0 for another operand
abbrev pub whole_of : Option Operand → ℕ
whole_of (Some (operands.Whole (pos n))) = n
whole_of _ = 0

abbrev pub whole_at : List Operand → ℕ → ℕ
whole_at ops k = whole_of (place ops k)

-- the attribute of a list of one
abbrev pub attr_of : Option Operand → Attr
attr_of (Some (operands.Attrs (attr ∷ []))) = attr
attr_of _ = attrs.Chars 0

abbrev pub attr_at : List Operand → ℕ → Attr
attr_at ops k = attr_of (place ops k)

-- ---- numbers

abbrev pub scalar_attr : Option Operand → Attr
scalar_attr (Some (operands.Value attr bytes)) = attr
scalar_attr (Some (operands.InSpace base offset attr)) = attr
scalar_attr _ = attrs.Chars 0

-- the number that is read, in units of its last digit; none where its bytes have no value
abbrev pub number_at : Held → List Operand → ℕ → Option ℤ
number_at h ops k = value_of (scalar_attr (place ops k)) (bytes_at h ops k)

-- a count that so many units are, with so many digits after the point: 0 where that is no whole number above 0
abbrev pub count_of : ℕ → Option ℤ → ℕ
count_of fraction (Some (pos units)) = if units % 10 ^ fraction == 0 then units / 10 ^ fraction else 0
count_of fraction _ = 0

-- the count that a number is; 0 where it is none
abbrev pub count_at : Held → List Operand → ℕ → ℕ
count_at h ops k = count_of (fraction_of (scalar_attr (place ops k))) (number_at h ops k)

-- ---- cells

abbrev pub cells_of : Held → Option Operand → List Cell
cells_of h (Some (operands.Ptr p)) = cell_for p ∷ []
cells_of h (Some (operands.InSpace base offset attr)) = cells_there (cells_at h (target_of base)) (start_of base offset) (length_of attr)
cells_of h _ = []

-- the cells that are read, a pointer of a variable as one cell
abbrev pub source_cells : Held → List Operand → ℕ → List Cell
source_cells h ops k = cells_of h (place ops k)

-- cells go with their tags into the space in which an operand lies
abbrev pub cells_put : Held → Option Operand → List Cell → Held
cells_put h (Some (operands.InSpace base offset attr)) piece = on_space h (target_of base) (with_cells (start_of base offset) piece)
cells_put h _ piece = h

-- ---- targets

-- the number of the object that the used pointer names, 0 for none
abbrev pub target : Held → List Operand → ℕ → ℕ
target h ops k = target_of (pointer_at h ops k)
