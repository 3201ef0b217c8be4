-- What an instruction changes, as data: one word for each way in which the state becomes another, and what each word
-- does. The rows of the instructions are written in these words, and a law over all instructions has one case a word.
use Rattle.std.specs.Prelude.{ℕ, List, Option, Some, None}
use Rattle.s38_base.specs.declared.id.Id.{Id}
use Rattle.s38_base.specs.declared.id.Kind.{Kind}
use Rattle.s38_base.specs.declared.id.ObjNum.{ObjNum}
use Rattle.s38_base.specs.declared.rights.Special.{Special}
use Rattle.s38_code.specs.declared.operand.Operand.{Operand}
use Rattle.s38_commits.specs.declared.change.UnitChange.{UnitChange}
use Rattle.s38_commits.specs.Units.{unit_of}
use Rattle.s38_dataspaces.specs.Table.{DataTable}
use Rattle.s38_indexes.specs.Entries.{EntryIndex}
use Rattle.s38_locks.specs.Locks.{Lock}
use Rattle.s38_locks.specs.Table.{with_locks}
use Rattle.s38_memory.specs.declared.cell.Cell.{Cell}
use Rattle.s38_memory.specs.Tagged.{resized}
use Rattle.s38_queues.specs.MessageQueue.{MessageQueue}
use Rattle.s38_rules.specs.declared.creating.Creating.{Creating}
use Rattle.s38_rules.specs.declared.cursor.Cursor.{Cursor}
use Rattle.s38_rules.specs.declared.data_body.DataBody.{DataBody}
use Rattle.s38_rules.specs.declared.object.Body.{Body}
use Rattle.s38_rules.specs.families.Changing.{logged}
use Rattle.s38_rules.specs.families.Creation.{creation_changes, destroyed}
use Rattle.s38_rules.specs.state.Held.{Held, ensured, moved, renamed}
use Rattle.s38_rules.specs.state.Invocations.{restack}
use Rattle.s38_rules.specs.ask.Operands.{cells_put}
use Rattle.s38_rules.specs.state.PartsAt.{on_cursor, on_data, on_index, on_queue, on_space, on_table, set_profile}
use Rattle.s38_rules.specs.state.Access.{Access, on_access}
use Rattle.s38_rules.specs.state.State.{State}
use Rattle.s38_rules.specs.families.Units.{committed, decommitted}

pub data Changes : Type 0 where
  -- nothing changes
  Stays : Changes
  -- the queue, index or cursor of a number is another one
  OnQueue : ℕ → (MessageQueue → MessageQueue) → Changes
  OnIndex : ℕ → (EntryIndex → EntryIndex) → Changes
  OnCursor : ℕ → (Cursor → Cursor) → Changes
  -- the space of a number is cut to so many bytes, or lengthened by zero bytes
  Resized : ℕ → ℕ → Changes
  -- cells, with their tags, are in the space in which an operand lies
  CellsPut : Option Operand → List Cell → Changes
  -- an entry of a data space is another one: the change is logged, and belongs to the unit of a commit block, if one is given
  Entered : ℕ → UnitChange → (DataTable → DataTable) → Changes
  -- the changes of the data space of a number go through a port
  Journaled : ℕ → ℕ → Changes
  -- an object has another owner, other rights of everybody, or other private rows
  OnAccess : ℕ → (Access → Access) → Changes
  -- a user has these special authorities and this limit of pages
  Profiled : ℕ → Special → ℕ → Changes
  -- an object has another identification, where one is given
  Named : ℕ → Option Id → Changes
  -- an object is in another context, or in none
  Moved : ℕ → ObjNum → Changes
  -- an object is one of those on disk
  Ensured : ℕ → Changes
  -- a user owns a new object, where there is a body for it
  Made : ℕ → Creating → Option Body → Changes
  -- an object of a kind is destroyed
  Gone : Kind → ℕ → Changes
  -- the process has other frames
  Framed : (List ObjNum → List ObjNum) → Changes
  -- an object has these locks
  Locked : ℕ → List Lock → Changes
  -- the unit of a commit block has ended, and what it changed stays, or is taken back
  Committed : ℕ → Changes
  Decommitted : ℕ → Changes
  -- one change after another
  Then : Changes → Changes → Changes

-- the changes of a data space go through a port
abbrev pub through_port : ℕ → DataBody → DataBody
through_port port d = record d { port = record { 0 = port } }

abbrev pub renamed_by : Held → ℕ → Option Id → Held
renamed_by h n None = h
renamed_by h n (Some id) = renamed h n id

abbrev pub made_by : Held → ℕ → Creating → Option Body → Held
made_by h owner made None = h
made_by h owner made (Some body) = creation_changes h owner made body

-- an entry of a data space is another one after a change that is logged
abbrev pub with_entry_changed : (DataTable → DataTable) → ℕ → State → State
with_entry_changed f space s = record s { held = on_table s.held space f }

-- what the words do where a process acts
abbrev pub done : State → ℕ → Changes → State
done s p Stays = s
done s p (OnQueue n f) = record s { held = on_queue s.held n f }
done s p (OnIndex n f) = record s { held = on_index s.held n f }
done s p (OnCursor n f) = record s { held = on_cursor s.held n f }
done s p (Resized n bytes) = record s { held = on_space s.held n (resized bytes) }
done s p (CellsPut operand cells) = record s { held = cells_put s.held operand cells }
done s p (Entered block change f) = with_entry_changed f change.space.0 (logged s p block change)
done s p (Journaled n port) = record s { held = on_data s.held n (through_port port) }
done s p (OnAccess n f) = record s { held = on_access s.held n f }
done s p (Profiled n special limit) = record s { held = set_profile s.held n special limit }
done s p (Named n id) = record s { held = renamed_by s.held n id }
done s p (Moved n context) = record s { held = moved s.held n context }
done s p (Ensured n) = record s { held = ensured s.held n }
done s p (Made owner made body) = record s { held = made_by s.held owner made body }
done s p (Gone kind n) = record s { held = destroyed s.held kind n }
done s p (Framed f) = restack f s p
done s p (Locked n held) = record s { locks = with_locks s.locks n held }
done s p (Committed block) = committed s p block (unit_of s.units block)
done s p (Decommitted block) = decommitted s p block (unit_of s.units block)
done s p (Then first second) = done (done s p first) p second
