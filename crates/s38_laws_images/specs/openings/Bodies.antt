-- What the bodies of objects keep to: the messages of queues and the entries of indexes, and how long an image may be. That of
-- a queue, an index, a space or a data space, and the text of a program, is no longer than the limit of a body; journal spaces
-- have at most 16,777,216 bytes. Other bodies have a few bytes.
use Rattle.std.specs.Prelude.{◌≡◌, ◌+◌, ◌*◌, ◌≤◌, ℕ, All, List, length}
use Rattle.s38_base.specs.Limits.{cell_bytes, furthest, longest_message}
use Rattle.s38_dataspaces.specs.Table as tables
use Rattle.s38_dataspaces.specs.Table.{DataTable}
use Rattle.s38_indexes.specs.Entries as indexes
use Rattle.s38_indexes.specs.Entries.{AreShort, EntryIndex, IsRising}
use Rattle.s38_journals.specs.Journals.{JournalList, entries_len}
use Rattle.s38_memory.specs.declared.cell.Cell.{Cell}
use Rattle.s38_queues.specs.MessageQueue as queues
use Rattle.s38_queues.specs.MessageQueue.{MessageQueue, longest_key}
use Rattle.s38_queues.specs.declared.message.Message.{Message}
use Rattle.s38_rules.specs.families.Indexes.{longest_entry}
use Rattle.s38_rules.specs.store.Room.{program_size}
use Rattle.s38_rules.specs.declared.object.Body.{Body}
use Rattle.s38_rules.specs.declared.object.Body.TheVariants as bodies
use Rattle.s38_rules.specs.declared.object.Object.{Object}

-- a message has a key of one length, and a text that is no longer than the longest
pub record IsMessageOf (key_len longest : ℕ) (m : Message) : Type 0 where
  pub key : length m.key ≡ key_len
  pub text : length m.text ≤ longest

pub record IsQueue (limit : ℕ) (q : MessageQueue) : Type 0 where
  pub key : q.key_len ≤ longest_key
  pub some : 1 ≤ q.longest
  pub most : q.longest ≤ longest_message
  pub messages : All (IsMessageOf q.key_len q.longest) q.messages
  pub image : queues.queue_image_size q.messages ≤ limit

-- no entry is too long, and each comes before all that follow it
pub record IsIndex (limit : ℕ) (index : EntryIndex) : Type 0 where
  pub some : 1 ≤ index.longest
  pub most : index.longest ≤ longest_entry
  pub short : AreShort index.longest index.entries
  pub rising : IsRising index.entries
  pub image : indexes.index_image_size index.entries ≤ limit

-- a space has a cell
pub record IsSpace (limit : ℕ) (cells : List Cell) : Type 0 where
  pub some : 1 ≤ length cells
  pub image : cell_bytes * length cells ≤ limit

-- the image of a data space: its fields and all its ordinals
abbrev pub IsShortTable : ℕ → DataTable → Type 0
IsShortTable limit table = tables.data_space_image_size table.fields (length table.entries) ≤ limit

-- the entries of a journal space, with the room that it keeps for further ones
abbrev pub IsShortJournal : JournalList → Type 0
IsShortJournal journal = entries_len journal.entries + journal.spare ≤ furthest

-- a body under a limit
abbrev pub IsBody : ℕ → Body → Type 0
IsBody limit (bodies.Program p) = program_size p ≤ limit
IsBody limit (bodies.Queue q) = IsQueue limit q
IsBody limit (bodies.Index index) = IsIndex limit index
IsBody limit (bodies.Space cells) = IsSpace limit cells
IsBody limit (bodies.DataSpace d) = IsShortTable limit d.space
IsBody limit (bodies.Journal journal) = IsShortJournal journal
IsBody limit _ = Unit {0}

abbrev pub HoldsBody : ℕ → Object → Type 0
HoldsBody limit o = IsBody limit o.body
