-- What a caller may rely on in declarations that were checked.
use Rattle.std.specs.Prelude.{◌≡◌, ◌≤◌, ℕ, ◌+◌, IsTrue, List, take, length, slice_get, Some, if◌then◌else◌}
use Rattle.s38_base.specs.Attributes.{is_bounded, is_pointer_attr, length_of}
use Rattle.s38_base.specs.declared.attr.Attr.{Attr}
use Rattle.s38_code.specs.declared.program.Form.{Form}
use Rattle.s38_code.specs.declared.program.Form.TheVariants.{Local, Parm, Based, Handler}
use Rattle.s38_code.specs.declared.program.Row.{Row}
use Rattle.s38_odt.specs.Table.{is_base_row, parameter_count}

-- how many bytes a variable begins with: none for a pointer
abbrev pub first_length : Attr → ℕ
first_length attr = if is_pointer_attr attr then 0 else length_of attr

-- its attribute keeps the bounds of a declaration, and it begins with as many bytes as the attribute has
pub record IsVariable (attr : Attr) (first : List ℕ) : Type 0 where
  pub bounded : IsTrue (is_bounded attr)
  pub begun : length first ≡ first_length attr

-- its attribute keeps the bounds of a declaration, and its number, of 1 to 16, is the next one
pub record IsNextParameter (before : List Row) (k : ℕ) (attr : Attr) : Type 0 where
  pub bounded : IsTrue (is_bounded attr)
  pub few : k ≤ 16
  pub next : k ≡ parameter_count before + 1

-- its base is a pointer that was declared before it
pub record IsBased (before : List Row) (base offset : ℕ) (attr : Attr) : Type 0 where
  pub bounded : IsTrue (is_bounded attr)
  pub near : offset ≤ 16777216
  pub declared : IsTrue (is_base_row (slice_get before base))

-- of a form, by the number of the instructions and by the rows before it; control goes on at an instruction, or
-- past the last
abbrev pub IsForm : ℕ → List Row → Form → Type 0
IsForm count before (Local attr first) = IsVariable attr first
IsForm count before (Parm k attr) = IsNextParameter before k attr
IsForm count before (Based base offset attr) = IsBased before base offset attr
IsForm count before (Handler code at) = at ≤ count

-- each row has its form by the rows before it, where there are so many instructions
pub record AreFormed (count : ℕ) (rows : List Row) : Type 0 where
  pub each : (k : ℕ) (row : Row) → slice_get rows k ≡ Some row → IsForm count (take k rows) row.form
