-- What lies inside a space: so many bytes, a cell, an item, an operand.
use Rattle.std.specs.Prelude.{ℕ, Bool, ◌&&◌, ◌||◌, IsTrue, is_some, not}
use Rattle.s38_base.specs.declared.attr.Attr.{Attr}
use Rattle.s38_base.specs.Pointers.{start_of, target_of}
use Rattle.s38_base.specs.Attributes.{is_pointer_attr, length_of}
use Rattle.s38_code.specs.declared.operand.Operand.{Operand}
use Rattle.s38_code.specs.declared.operand.Operand.TheVariants as operands
use Rattle.s38_memory.specs.Tagged.{is_aligned, is_within}
use Rattle.s38_rules.specs.state.Held.{Held}
use Rattle.s38_rules.specs.state.Parts.{part_at, space_part}
use Rattle.s38_rules.specs.state.PartsAt.{cells_at}

-- the object of a number is a space that is there, and has so many bytes from a place on
abbrev pub has_bytes : Held → ℕ → ℕ → ℕ → Bool
has_bytes h n at len = is_some (part_at space_part h n) && is_within at len (cells_at h n)

-- and they begin with a cell
abbrev pub has_cells : Held → ℕ → ℕ → ℕ → Bool
has_cells h n at len = has_bytes h n at len && is_aligned at

-- an item of this attribute lies there: all its bytes, and a pointer begins with a cell
abbrev pub has_item : Held → ℕ → ℕ → Attr → Bool
has_item h n at attr = has_bytes h n at (length_of attr) && (is_aligned at || not (is_pointer_attr attr))

-- an operand in a space lies inside the space to which its base leads
abbrev pub LiesInside : Held → Operand → Type 0
LiesInside h (operands.InSpace base offset attr) = IsTrue (has_item h (target_of base) (start_of base offset) attr)
LiesInside h _ = Unit {0}
