-- What the object of a number holds, kind by kind: read where the kind was checked before, and changed.
use Rattle.std.specs.Prelude.{ℕ, List, [], Option, Some, None}
use Rattle.std.specs.Option.{unwrap_or}
use Rattle.s38_base.specs.declared.rights.Special.{Special}
use Rattle.s38_memory.specs.declared.cell.Cell.{Cell}
use Rattle.s38_dataspaces.specs.Table.{DataTable}
use Rattle.s38_indexes.specs.Entries.{EntryIndex}
use Rattle.s38_journals.specs.Journals.{JournalList}
use Rattle.s38_queues.specs.MessageQueue.{MessageQueue}
use Rattle.s38_queues.specs.declared.message.Order.TheVariants.{Fifo}
use Rattle.s38_rules.specs.declared.cursor.Cursor.{Cursor}
use Rattle.s38_rules.specs.declared.data_body.DataBody.{DataBody}
use Rattle.s38_rules.specs.state.Held.{Held}
use Rattle.s38_rules.specs.state.Parts.{over_part, part_at, queue_part, space_part, index_part, data_part, cursor_part, journal_part, profile_part}

abbrev pub no_queue : MessageQueue
no_queue = record { order = Fifo; key_len = 0; longest = 0; messages = [] }

-- the queue of a number
abbrev pub queue_at : Held → ℕ → MessageQueue
queue_at h n = unwrap_or (part_at queue_part h n) no_queue

abbrev pub no_index : EntryIndex
no_index = record { longest = 0; entries = [] }

-- the index of a number
abbrev pub index_at : Held → ℕ → EntryIndex
index_at h n = unwrap_or (part_at index_part h n) no_index

abbrev pub no_table : DataTable
no_table = record { fields = []; spare = 0; entries = [] }

abbrev pub table_in : Option DataBody → DataTable
table_in None = no_table
table_in (Some d) = d.space

-- the fields and entries of the data space of a number
abbrev pub table_at : Held → ℕ → DataTable
table_at h n = table_in (part_at data_part h n)

abbrev pub no_cursor : Cursor
no_cursor = record { space = record { 0 = 0 }; block = record { 0 = 0 }; position = 0 }

-- the cursor of a number
abbrev pub cursor_at : Held → ℕ → Cursor
cursor_at h n = unwrap_or (part_at cursor_part h n) no_cursor

abbrev pub no_journal : JournalList
no_journal = record { spare = 0; unforced = 0; entries = [] }

-- the entries of the journal space of a number
abbrev pub journal_at : Held → ℕ → JournalList
journal_at h n = unwrap_or (part_at journal_part h n) no_journal

-- the cells of the space of a number
abbrev pub cells_at : Held → ℕ → List Cell
cells_at h n = unwrap_or (part_at space_part h n) []

-- the queue of a number is another one from now on
abbrev pub on_queue : Held → ℕ → (MessageQueue → MessageQueue) → Held
on_queue h n f = over_part queue_part h n f

-- the index of a number is another one from now on
abbrev pub on_index : Held → ℕ → (EntryIndex → EntryIndex) → Held
on_index h n f = over_part index_part h n f

abbrev pub over_table : (DataTable → DataTable) → DataBody → DataBody
over_table f d = record d { space = f d.space }

-- the entries of the data space of a number are others from now on
abbrev pub on_table : Held → ℕ → (DataTable → DataTable) → Held
on_table h n f = over_part data_part h n (over_table f)

-- what the data space of a number holds is something else from now on
abbrev pub on_data : Held → ℕ → (DataBody → DataBody) → Held
on_data h n f = over_part data_part h n f

-- the entries of the journal space of a number are others from now on
abbrev pub on_journal : Held → ℕ → (JournalList → JournalList) → Held
on_journal h n f = over_part journal_part h n f

-- the cursor of a number is another one from now on
abbrev pub on_cursor : Held → ℕ → (Cursor → Cursor) → Held
on_cursor h n f = over_part cursor_part h n f

-- the cells of the space of a number are others from now on
abbrev pub on_space : Held → ℕ → (List Cell → List Cell) → Held
on_space h n f = over_part space_part h n f

-- a user has these special authorities and this limit from now on
abbrev pub set_profile : Held → ℕ → Special → ℕ → Held
set_profile h n special limit = over_part profile_part h n (λ _. (special, limit))
