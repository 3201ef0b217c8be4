-- What a pointer says: the object that it names, the rights that it carries, the byte to which it points.
use Rattle.std.specs.Prelude.{ℕ, ◌+◌, Bool, true, not, Option, Some, None}
use Rattle.s38_base.specs.declared.pointer.Pointer.{Pointer}
use Rattle.s38_base.specs.declared.pointer.Pointer.TheVariants as pointers
use Rattle.s38_base.specs.Attributes.{is_pointer_attr}
use Rattle.s38_base.specs.RightNames as rights

abbrev pub object_of : Pointer → ℕ
object_of (pointers.System object carried) = object.0
object_of (pointers.Space object offset) = object.0
object_of (pointers.Item object offset attr) = object.0

abbrev pub carried_by : Pointer → ℕ
carried_by (pointers.System object carried) = carried.0
carried_by (pointers.Space object offset) = rights.no_rights
carried_by (pointers.Item object offset attr) = rights.no_rights

abbrev pub offset_of : Pointer → ℕ
offset_of (pointers.System object carried) = 0
offset_of (pointers.Space object offset) = offset
offset_of (pointers.Item object offset attr) = offset

-- the object of a pointer, 0 without one
abbrev pub target_of : Option Pointer → ℕ
target_of None = 0
target_of (Some p) = object_of p

-- the rights that it carries, none without one
abbrev pub carried_in : Option Pointer → ℕ
carried_in None = rights.no_rights
carried_in (Some p) = carried_by p

-- the first byte of an item at an offset from its base
abbrev pub start_of : Option Pointer → ℕ → ℕ
start_of None offset = offset
start_of (Some p) offset = offset_of p + offset

-- a cell holds any pointer but one to an item that is a pointer
abbrev pub is_storable : Pointer → Bool
is_storable (pointers.System object carried) = true
is_storable (pointers.Space object offset) = true
is_storable (pointers.Item object offset attr) = not (is_pointer_attr attr)
