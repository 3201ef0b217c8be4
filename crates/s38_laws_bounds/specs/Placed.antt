-- What is put into a space lies inside it: the value that an instruction gives to a receiver there, and cells that are
-- copied there.
use Rattle.std.specs.Prelude.{◌≡◌, ℕ, ◌+◌, ◌*◌, Bool, true, false, ◌&&◌, IsTrue, List, length, Option, Some, None}
use Rattle.s38_base.specs.declared.pointer.Pointer.{Pointer}
use Rattle.s38_base.specs.Limits.{cell_bytes}
use Rattle.s38_base.specs.Pointers.{is_storable, start_of, target_of}
use Rattle.s38_base.specs.Attributes.{length_of}
use Rattle.s38_code.specs.declared.event.Request.{Request}
use Rattle.s38_code.specs.declared.operand.Operand.{Operand}
use Rattle.s38_code.specs.declared.operand.Operand.TheVariants as operands
use Rattle.s38_code.specs.declared.reply.Val.{Val}
use Rattle.s38_code.specs.declared.reply.Val.TheVariants as vals
use Rattle.s38_memory.specs.declared.cell.Cell.{Cell}
use Rattle.s38_rules.specs.families.Changes.{CellsPut, Changes, Gone, Resized, Then, done}
use Rattle.s38_rules.specs.families.Computing.{receiver_at, shift_at}
use Rattle.s38_rules.specs.state.Held.{Held}
use Rattle.s38_rules.specs.families.Rows.{row}
use Rattle.s38_rules.specs.state.State.{State}
use Rattle.s38_laws_bounds.specs.Inside.{has_bytes, has_cells}

-- ---- changes

-- no space is cut, and no object is destroyed
abbrev pub leaves_spaces : Changes → Bool
leaves_spaces (Resized n bytes) = false
leaves_spaces (Gone kind n) = false
leaves_spaces (Then a b) = leaves_spaces a && leaves_spaces b
leaves_spaces _ = true

-- what lies inside a space still lies there
abbrev pub KeepsBytes : Held → Held → Type 0
KeepsBytes h k = (n at len : ℕ) → has_bytes h n at len ≡ true → has_bytes k n at len ≡ true

-- cells that are copied fill the operand in a space that gets them, and lie inside that space
abbrev pub AreCellsPlaced : Held → Option Operand → List Cell → Type 0
AreCellsPlaced h (Some (operands.InSpace base offset attr)) cells =
    (cell_bytes * length cells ≡ length_of attr) × IsTrue (has_cells h (target_of base) (start_of base offset) (length_of attr))
AreCellsPlaced h _ cells = Unit {0}

-- so do those that a change copies
abbrev pub ArePlaced : State → ℕ → Changes → Type 0
ArePlaced s p (CellsPut operand cells) = AreCellsPlaced s.held operand cells
ArePlaced s p (Then a b) = ArePlaced s p a × ArePlaced (done s p a) p b
ArePlaced s p _ = Unit {0}

-- ---- values

-- a cell can hold it: no pointer, or a pointer that has an image
abbrev pub is_cell_value : Option Pointer → Bool
is_cell_value None = true
is_cell_value (Some p) = is_storable p

-- a value lies inside from a place on: all of its bytes, or the cell that is to hold a pointer; other values go into no
-- space
abbrev pub has_value : Held → ℕ → ℕ → Val → Bool
has_value h n at (vals.Bytes bytes) = has_bytes h n at (length bytes)
has_value h n at (vals.Ptr p) = has_cells h n at cell_bytes && is_cell_value p
has_value h n at _ = false

-- the value that goes to a receiver in a space, so many bytes past its beginning, lies inside
abbrev pub IsValuePlaced : Held → ℕ → Option Operand → Option Val → Type 0
IsValuePlaced h shift (Some (operands.InSpace base offset attr)) (Some v) = IsTrue (has_value h (target_of base) (start_of base offset + shift) v)
IsValuePlaced h shift _ _ = Unit {0}

-- so it does for an instruction, in the state after what the instruction changes
abbrev pub IsPlaced : State → ℕ → ℕ → Request → Type 0
IsPlaced s p d r =
    IsValuePlaced (done s p ((row r.op).changes s p d r)).held (shift_at s.held r.op r.operands) (receiver_at r.op r.operands) ((row r.op).gives s p d r)
