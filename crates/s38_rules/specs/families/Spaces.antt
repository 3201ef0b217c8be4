-- Spaces: made, lengthened or cut, and destroyed.
use Rattle.std.specs.Prelude.{ℕ, ◌+◌, ◌/◌, ◌%◌, ◌==◌, Bool, not, ◌&&◌, List, [], Option, Some, is_none, nat_le, if◌then◌else◌}
use Rattle.s38_base.specs.declared.exception.Exception.{Exception}
use Rattle.s38_base.specs.declared.id.Kind.TheVariants as kinds
use Rattle.s38_base.specs.declared.op.Op.{Op}
use Rattle.s38_base.specs.declared.op.Op.TheVariants.{Setsppfp, Setdp, Cpybwp, Crts, Mods, Dess}
use Rattle.s38_base.specs.declared.words.Category.TheVariants.{Change}
use Rattle.s38_base.specs.Exceptions as exceptions
use Rattle.s38_base.specs.Limits.{cell_bytes}
use Rattle.s38_base.specs.RightNames as rights
use Rattle.s38_base.specs.Signals.{fails, first}
use Rattle.s38_memory.specs.Tagged.{resized}
use Rattle.s38_code.specs.declared.operand.Operand.{Operand}
use Rattle.s38_rules.specs.declared.creating.Creating.{Creating}
use Rattle.s38_rules.specs.declared.need.Need.{Need}
use Rattle.s38_rules.specs.declared.need.Sought.TheVariants.{Of}
use Rattle.s38_rules.specs.declared.object.Body.TheVariants as bodies
use Rattle.s38_rules.specs.families.Changes.{Changes, Gone, Made, Resized}
use Rattle.s38_rules.specs.families.Creation.{creation_fails, creation_gives, creation_needs, destruction_needs, in_context, pages_rule}
use Rattle.s38_rules.specs.state.Held.{Held, charge_beside, object, owner_in, space_pages}
use Rattle.s38_rules.specs.families.Instruction.{Instruction, inert}
use Rattle.s38_rules.specs.ask.Needs.{on_object}
use Rattle.s38_rules.specs.ask.Operands.{count_at, number_at, target}
use Rattle.s38_rules.specs.state.State.{State}
use Rattle.s38_rules.specs.ask.Users.{user_of}
use Rattle.s38_rules.specs.families.SpacePointers.{setsppfp, setdp, cpybwp}

-- ---- lengths

-- a multiple of 16 bytes, from 16 to the limit of a body
abbrev pub is_space_length : ℕ → ℕ → Bool
is_space_length limit n = nat_le cell_bytes n && (nat_le n limit && (n % cell_bytes == 0))

-- the number at an operand has a value, and is the length of a space
abbrev pub length_rule : State → List Operand → ℕ → Option Exception
length_rule s ops k =
    first (fails (is_none (number_at s.held ops k)) exceptions.decimal_data k)
    (fails (not (is_space_length s.limit (count_at s.held ops k))) exceptions.length_invalid k)

-- the length that an operand says, 0 where it is none of a space
abbrev pub length_at : State → List Operand → ℕ → ℕ
length_at s ops k = if is_space_length s.limit (count_at s.held ops k) then count_at s.held ops k else 0

-- the pages of a space of so many bytes
abbrev pub pages_for_length : ℕ → ℕ
pages_for_length n = 1 + space_pages (n / cell_bytes)

-- ---- CRTS

abbrev pub new_space : State → List Operand → Creating
new_space s ops = in_context kinds.Space (pages_for_length (length_at s ops 5)) s.held ops

unfoldable pub crts_fails : State → ℕ → List Operand → Option Exception
crts_fails s p ops = creation_fails s.held (user_of s p) (new_space s ops) (length_rule s ops 5)

-- a space of zero bytes
abbrev pub crts_changes : State → ℕ → List Operand → Changes
crts_changes s p ops = Made (user_of s p) (new_space s ops) (Some (bodies.Space (resized (length_at s ops 5) [])))

abbrev pub crts : Instruction
crts = record inert {
  needs = λ s p d r. creation_needs r.operands;
  fails = λ s p d r. crts_fails s p r.operands;
  gives = λ s p d r. Some (creation_gives s.held (new_space s r.operands));
  changes = λ s p d r. crts_changes s p r.operands;
}

-- ---- MODS

-- object management on the space
unfoldable pub mods_needs : List Need
mods_needs = on_object 1 (Of kinds.Space) rights.objmgt (Some Change)

-- the owner of an object pays for so many pages of it
unfoldable pub owner_pays : Held → ℕ → ℕ → Option Exception
owner_pays h n pages = pages_rule h (owner_in (object h n)) (charge_beside h.objects n + pages) 0

-- the owner of the space pays for its new length
unfoldable pub mods_fails : State → List Operand → Option Exception
mods_fails s ops = first (length_rule s ops 2) (owner_pays s.held (target s.held ops 1) (pages_for_length (length_at s ops 2)))

-- the space is cut, or lengthened by zero bytes
abbrev pub mods_changes : State → List Operand → Changes
mods_changes s ops = Resized (target s.held ops 1) (length_at s ops 2)

abbrev pub mods : Instruction
mods = record inert {
  needs = λ s p d r. mods_needs;
  fails = λ s p d r. mods_fails s r.operands;
  changes = λ s p d r. mods_changes s r.operands;
}

-- ---- DESS

abbrev pub dess : Instruction
dess = record inert {
  needs = λ s p d r. destruction_needs kinds.Space;
  changes = λ s p d r. Gone kinds.Space (target s.held r.operands 1);
}

-- ---- the family

unfoldable pub spaces_row : Op → Instruction
spaces_row Setsppfp = setsppfp
spaces_row Setdp = setdp
spaces_row Cpybwp = cpybwp
spaces_row Crts = crts
spaces_row Mods = mods
spaces_row Dess = dess
spaces_row _ = inert
