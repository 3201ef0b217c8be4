-- Cursors through which the entries of a data space are reached: made and destroyed, and the entry at a cursor read.
use Rattle.std.specs.Prelude.{ℕ, ◌+◌, List, [], ◌++◌, Option, Some, None, is_none, if◌then◌else◌}
use Rattle.s38_base.specs.declared.exception.Exception.{Exception}
use Rattle.s38_base.specs.declared.id.Kind.TheVariants as kinds
use Rattle.s38_base.specs.declared.words.Category.{Category}
use Rattle.s38_base.specs.declared.words.Category.TheVariants.{Read}
use Rattle.s38_base.specs.Exceptions as exceptions
use Rattle.s38_base.specs.RightNames as rights
use Rattle.s38_base.specs.Signals.{fails, first}
use Rattle.s38_dataspaces.specs.Entries.{DataEntry, entry_at}
use Rattle.s38_dataspaces.specs.Table.{DataTable}
use Rattle.s38_code.specs.declared.operand.Operand.{Operand}
use Rattle.s38_code.specs.declared.reply.Val.{Val}
use Rattle.s38_code.specs.declared.reply.Val.TheVariants as vals
use Rattle.s38_rules.specs.declared.creating.Creating.{Creating}
use Rattle.s38_rules.specs.declared.cursor.Cursor.{Cursor}
use Rattle.s38_rules.specs.declared.need.Need.{Need}
use Rattle.s38_rules.specs.declared.need.Sought.TheVariants.{Of}
use Rattle.s38_rules.specs.declared.object.Body.TheVariants as bodies
use Rattle.s38_rules.specs.families.Changes.{Changes, Gone, Made}
use Rattle.s38_rules.specs.families.Changing.{read_rule}
use Rattle.s38_rules.specs.families.Creation.{creation_fails, creation_gives, creation_needs, destruction_needs, in_context}
use Rattle.s38_rules.specs.state.Held.{Held}
use Rattle.s38_rules.specs.families.Instruction.{Instruction, inert}
use Rattle.s38_rules.specs.ask.Needs.{on_implied, on_object}
use Rattle.s38_rules.specs.ask.Operands.{is_given, room_at, target}
use Rattle.s38_rules.specs.ask.Receivers.{fitted}
use Rattle.s38_rules.specs.state.PartsAt.{cursor_at, table_at}
use Rattle.s38_rules.specs.state.State.{State}
use Rattle.s38_rules.specs.ask.Users.{user_of}

abbrev pub created_cursor : Held → List Operand → Creating
created_cursor h ops = in_context kinds.Cursor 1 h ops

-- UPDATE on the commit block, where one is given
unfoldable pub block_needs : List Operand → List Need
block_needs ops = if is_given ops 6 then on_object 6 (Of kinds.Block) rights.update None else []

-- RETRIEVE on the data space
unfoldable pub crtcr_needs : List Operand → List Need
crtcr_needs ops = creation_needs ops ++ (on_object 5 (Of kinds.DataSpace) rights.retrieve None ++ block_needs ops)

unfoldable pub crtcr_fails : State → ℕ → List Operand → Option Exception
crtcr_fails s p ops = creation_fails s.held (user_of s p) (created_cursor s.held ops) None

-- a cursor before the first entry
abbrev pub new_cursor : Held → List Operand → Cursor
new_cursor h ops = record { space = record { 0 = target h ops 5 }; block = record { 0 = target h ops 6 }; position = 0 }

abbrev pub crtcr_changes : State → ℕ → List Operand → Changes
crtcr_changes s p ops = Made (user_of s p) (created_cursor s.held ops) (Some (bodies.Cursor (new_cursor s.held ops)))

abbrev pub crtcr : Instruction
crtcr = record inert {
  needs = λ s p d r. crtcr_needs r.operands;
  fails = λ s p d r. crtcr_fails s p r.operands;
  gives = λ s p d r. Some (creation_gives s.held (created_cursor s.held r.operands));
  changes = λ s p d r. crtcr_changes s p r.operands;
}

abbrev pub descr : Instruction
descr = record inert {
  needs = λ s p d r. destruction_needs kinds.Cursor;
  changes = λ s p d r. Gone kinds.Cursor (target s.held r.operands 1);
}

-- the cursor that an operand names
abbrev pub cursor_named : Held → List Operand → ℕ → Cursor
cursor_named h ops k = cursor_at h (target h ops k)

-- the data space that it goes through
abbrev pub table_of : Held → List Operand → ℕ → DataTable
table_of h ops k = table_at h (cursor_named h ops k).space.0

-- the entry at which it is
abbrev pub current : Held → List Operand → ℕ → DataEntry
current h ops k = entry_at (table_of h ops k).entries (cursor_named h ops k).position

-- RETRIEVE on the cursor, and a right on its data space, which no operand names
unfoldable pub through_cursor : Held → List Operand → ℕ → Category → ℕ → Category → List Need
through_cursor h ops k on_itself right on_space =
    on_object k (Of kinds.Cursor) rights.retrieve (Some on_itself)
    ++ on_implied (cursor_named h ops k).space.0 (Of kinds.DataSpace) right (Some on_space)

-- it is at an ordinal from now on
abbrev pub at_position : ℕ → Cursor → Cursor
at_position position c = record c { position = position }

-- the cursor is at an entry
abbrev pub position_rule : Held → List Operand → ℕ → Option Exception
position_rule h ops k = fails (is_none (current h ops k)) exceptions.position_empty k

-- the cursor is at an entry, and no unit of another process changed it
unfoldable pub retdsen_fails : State → ℕ → List Operand → Option Exception
retdsen_fails s p ops =
    first (position_rule s.held ops 2) (read_rule s.units p (cursor_named s.held ops 2).space.0 (cursor_named s.held ops 2).position)

abbrev pub entry_value : DataEntry → List ℕ
entry_value None = []
entry_value (Some bytes) = bytes

-- the entry, cut or filled with zeros
unfoldable pub retdsen_bytes : Held → List Operand → List ℕ
retdsen_bytes h ops = fitted (room_at ops 1) 0 (entry_value (current h ops 2))

abbrev pub retdsen_gives : Held → List Operand → Val
retdsen_gives h ops = vals.Bytes (retdsen_bytes h ops)

abbrev pub retdsen : Instruction
retdsen = record inert {
  needs = λ s p d r. through_cursor s.held r.operands 2 Read rights.retrieve Read;
  fails = λ s p d r. retdsen_fails s p r.operands;
  gives = λ s p d r. Some (retdsen_gives s.held r.operands);
}
