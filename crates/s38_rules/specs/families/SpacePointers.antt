-- Pointers into spaces, and copies of cells with their tags.
use Rattle.std.specs.Prelude.{Bool, false, not, List, Option, Some, None, if◌then◌else◌}
use Rattle.std.specs.Option.{option_map}
use Rattle.s38_base.specs.declared.exception.Exception.{Exception}
use Rattle.s38_base.specs.declared.id.Kind.TheVariants as kinds
use Rattle.s38_base.specs.declared.pointer.Pointer.TheVariants as pointers
use Rattle.s38_base.specs.Exceptions as exceptions
use Rattle.s38_base.specs.Pointers.{offset_of, start_of}
use Rattle.s38_base.specs.RightNames as rights
use Rattle.s38_base.specs.Attributes.{length_of}
use Rattle.s38_base.specs.Signals.{fails, first}
use Rattle.s38_memory.specs.Tagged.{is_aligned, is_within}
use Rattle.s38_code.specs.declared.operand.Operand.{Operand}
use Rattle.s38_code.specs.declared.operand.Operand.TheVariants as operands
use Rattle.s38_code.specs.declared.reply.Val.{Val}
use Rattle.s38_code.specs.declared.reply.Val.TheVariants as vals
use Rattle.s38_rules.specs.declared.need.Named.TheVariants.{Written}
use Rattle.s38_rules.specs.declared.need.Need.{Need}
use Rattle.s38_rules.specs.declared.need.PointerKind.TheVariants as pointer_kinds
use Rattle.s38_rules.specs.declared.need.Sought.TheVariants.{Of}
use Rattle.s38_rules.specs.state.Cells.{first_pointer}
use Rattle.s38_rules.specs.families.Changes.{CellsPut, Changes}
use Rattle.s38_rules.specs.state.Held.{Held}
use Rattle.s38_rules.specs.families.Instruction.{Instruction, inert}
use Rattle.s38_rules.specs.ask.Needs.{need, on_object}
use Rattle.s38_rules.specs.ask.Operands.{attr_at, place, pointer_at, source_cells, target}
use Rattle.s38_rules.specs.ask.Receivers.{is_in_space}
use Rattle.s38_rules.specs.state.PartsAt.{cells_at}
use Rattle.s38_rules.specs.families.Resolving.{num_of}

-- SPACE on the space
unfoldable pub setsppfp_needs : List Need
setsppfp_needs = on_object 2 (Of kinds.Space) rights.space None

-- a pointer to the first byte of the space
unfoldable pub setsppfp_gives : Held → List Operand → Val
setsppfp_gives h ops = vals.Ptr (option_map (λ p. pointers.Space (num_of p) 0) (pointer_at h ops 2))

abbrev pub setsppfp : Instruction
setsppfp = record inert {
  needs = λ s p d r. setsppfp_needs;
  gives = λ s p d r. Some (setsppfp_gives s.held r.operands);
}

-- a space pointer; it was made under authority
unfoldable pub setdp_needs : List Need
setdp_needs = need 2 Written pointer_kinds.Space (Of kinds.Space) rights.no_rights None

-- the item lies inside the space
unfoldable pub setdp_fails : Held → List Operand → Option Exception
setdp_fails h ops =
    fails (not (is_within (start_of (pointer_at h ops 2) 0) (length_of (attr_at ops 3)) (cells_at h (target h ops 2)))) exceptions.space_addressing 2

-- a pointer to an item of the attribute
unfoldable pub setdp_gives : Held → List Operand → Val
setdp_gives h ops = vals.Ptr (option_map (λ p. pointers.Item (num_of p) (offset_of p) (attr_at ops 3)) (pointer_at h ops 2))

abbrev pub setdp : Instruction
setdp = record inert {
  needs = λ s p d r. setdp_needs;
  fails = λ s p d r. setdp_fails s.held r.operands;
  gives = λ s p d r. Some (setdp_gives s.held r.operands);
}

abbrev pub is_unaligned : Option Operand → Bool
is_unaligned (Some (operands.InSpace base offset attr)) = not (is_aligned (start_of base offset))
is_unaligned _ = false

-- what is copied, and where it goes, begins with a cell
unfoldable pub cpybwp_fails : List Operand → Option Exception
cpybwp_fails ops =
    first (fails (is_unaligned (place ops 1)) exceptions.boundary_alignment 1)
    (fails (is_unaligned (place ops 2)) exceptions.boundary_alignment 2)

-- a variable gets the pointer of the cell
unfoldable pub cpybwp_gives : Held → List Operand → Option Val
cpybwp_gives h ops = if is_in_space (place ops 1) then None else Some (vals.Ptr (first_pointer (source_cells h ops 2)))

-- cells go with their tags into the space
abbrev pub cpybwp_changes : Held → List Operand → Changes
cpybwp_changes h ops = CellsPut (place ops 1) (source_cells h ops 2)

abbrev pub cpybwp : Instruction
cpybwp = record inert {
  fails = λ s p d r. cpybwp_fails r.operands;
  gives = λ s p d r. cpybwp_gives s.held r.operands;
  changes = λ s p d r. cpybwp_changes s.held r.operands;
}
