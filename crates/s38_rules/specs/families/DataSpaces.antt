-- Data spaces: made and destroyed; and the rows of all instructions that reach their entries through cursors.
use Rattle.std.specs.Prelude.{ℕ, List, [], ◌∷◌, Option, Some, None, if◌then◌else◌}
use Rattle.s38_base.specs.declared.attr.Attr.{Attr}
use Rattle.s38_base.specs.declared.attr.Attr.TheVariants as attrs
use Rattle.s38_base.specs.declared.exception.Exception.{Exception}
use Rattle.s38_base.specs.declared.id.Kind.TheVariants as kinds
use Rattle.s38_base.specs.declared.op.Op.{Op}
use Rattle.s38_base.specs.declared.op.Op.TheVariants.{Crtds, Crtcr, Setcr, Insdsen, Retdsen, Updsen, Deldsen, Desds, Descr}
use Rattle.s38_base.specs.Exceptions as exceptions
use Rattle.s38_base.specs.Signals.{fails}
use Rattle.s38_commits.specs.Units.{is_space_changed}
use Rattle.s38_dataspaces.specs.Table.{are_fields}
use Rattle.s38_code.specs.declared.operand.Operand.{Operand}
use Rattle.s38_code.specs.declared.operand.Operand.TheVariants as operands
use Rattle.s38_rules.specs.declared.creating.Creating.{Creating}
use Rattle.s38_rules.specs.declared.data_body.DataBody.{DataBody}
use Rattle.s38_rules.specs.declared.object.Body.TheVariants as bodies
use Rattle.s38_rules.specs.families.Changes.{Changes, Gone, Made}
use Rattle.s38_rules.specs.families.Creation.{creation_fails, creation_gives, creation_needs, destruction_needs, in_context}
use Rattle.s38_rules.specs.state.Held.{Held}
use Rattle.s38_rules.specs.families.Instruction.{Instruction, inert}
use Rattle.s38_rules.specs.ask.Operands.{place, target}
use Rattle.s38_rules.specs.state.State.{State}
use Rattle.s38_rules.specs.ask.Users.{user_of}
use Rattle.s38_rules.specs.families.Cursors.{crtcr, descr, retdsen}
use Rattle.s38_rules.specs.families.CursorSeeks.{setcr}
use Rattle.s38_rules.specs.families.EntryChanges.{deldsen, insdsen, updsen}

-- ---- CRTDS

abbrev pub created_data_space : Held → List Operand → Creating
created_data_space h ops = in_context kinds.DataSpace 1 h ops

unfoldable pub crtds_fails : State → ℕ → List Operand → Option Exception
crtds_fails s p ops = creation_fails s.held (user_of s p) (created_data_space s.held ops) None

abbrev pub attributes_of : Option Operand → List Attr
attributes_of (Some (operands.Attrs attributes)) = attributes
attributes_of _ = []

-- fields that a data space may have; for others, which a checked program does not have, one byte
abbrev pub proper_fields : List Attr → List Attr
proper_fields attributes = if are_fields attributes then attributes else attrs.Chars 1 ∷ []

abbrev pub fields_at : List Operand → ℕ → List Attr
fields_at ops k = proper_fields (attributes_of (place ops k))

-- a data space of these fields, without an entry and without a journal
abbrev pub new_data_space : List Operand → DataBody
new_data_space ops = record { space = record { fields = fields_at ops 5; spare = 0; entries = [] }; port = record { 0 = 0 } }

abbrev pub crtds_changes : State → ℕ → List Operand → Changes
crtds_changes s p ops = Made (user_of s p) (created_data_space s.held ops) (Some (bodies.DataSpace (new_data_space ops)))

abbrev pub crtds : Instruction
crtds = record inert {
  needs = λ s p d r. creation_needs r.operands;
  fails = λ s p d r. crtds_fails s p r.operands;
  gives = λ s p d r. Some (creation_gives s.held (created_data_space s.held r.operands));
  changes = λ s p d r. crtds_changes s p r.operands;
}

-- ---- DESDS

-- no unit has a change of one of its entries
unfoldable pub desds_fails : State → List Operand → Option Exception
desds_fails s ops = fails (is_space_changed s.units (target s.held ops 1)) exceptions.object_in_use 1

abbrev pub desds : Instruction
desds = record inert {
  needs = λ s p d r. destruction_needs kinds.DataSpace;
  fails = λ s p d r. desds_fails s r.operands;
  changes = λ s p d r. Gone kinds.DataSpace (target s.held r.operands 1);
}

-- ---- the family

unfoldable pub data_spaces_row : Op → Instruction
data_spaces_row Crtds = crtds
data_spaces_row Desds = desds
data_spaces_row Crtcr = crtcr
data_spaces_row Descr = descr
data_spaces_row Setcr = setcr
data_spaces_row Insdsen = insdsen
data_spaces_row Retdsen = retdsen
data_spaces_row Updsen = updsen
data_spaces_row Deldsen = deldsen
data_spaces_row _ = inert
