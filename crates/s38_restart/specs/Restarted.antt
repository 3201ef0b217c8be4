-- What a store holds once each data space is followed by its journal space.
use Rattle.std.specs.Prelude.{ℕ, ◌+◌, List, map, Option, Some, None}
use Rattle.std.specs.Option.{option_map}
use Rattle.s38_base.specs.declared.page.Change.{Change}
use Rattle.s38_dataspaces.specs.Table.{DataTable}
use Rattle.s38_durable_state.specs.Following.{extent_in}
use Rattle.s38_restart.specs.catalog.Readings.{object_in_stored}
use Rattle.s38_restart.specs.catalog.Stores.{ceiling_of, objects_stored_in}
use Rattle.s38_image.specs.declared.stored.Stored.{Stored}
use Rattle.s38_journals.specs.Journals.{JournalList}
use Rattle.s38_rules.specs.declared.data_body.DataBody.{DataBody}
use Rattle.s38_rules.specs.declared.object.Object.{Object}
use Rattle.s38_rules.specs.state.Held.{Held, nothing}
use Rattle.s38_rules.specs.state.Journaling.{journal_of_port}
use Rattle.s38_rules.specs.state.Parts.{data_part, over_object}
use Rattle.s38_rules.specs.state.PartsAt.{journal_at, over_table}
use Rattle.s38_rules.specs.store.Room.{Extent}
use Rattle.s38_restart.specs.Redo.{journal_replayed}

abbrev pub number_in_stored : Stored → ℕ
number_in_stored s = s.object.number.0

-- ---- one object

-- the objects of a store, each as its image has it
abbrev pub imaged : List Stored → Held
imaged ss = record nothing { objects = map object_in_stored ss }

-- the table of a number, whose image counts a journal space in up to a sequence, followed by the journal space; where
-- there is none it stays as it is
abbrev pub table_followed : ℕ → ℕ → Option JournalList → DataTable → DataTable
table_followed number image None t = t
table_followed number image (Some journal) t = journal_replayed number image journal.entries t

-- what a data space holds, followed by the journal space of the port that it names
abbrev pub data_followed : Held → ℕ → ℕ → DataBody → DataBody
data_followed h number image d = over_table (table_followed number image (option_map (journal_at h) (journal_of_port h d.port.0))) d

-- a data space followed by its journal space, and any other object as it is
abbrev pub data_space_followed : Held → Stored → Object
data_space_followed h s = over_object data_part (data_followed h s.object.number.0 s.sequence) s.object

abbrev pub with_followed : Held → Stored → Stored
with_followed h s = record s { object = data_space_followed h s }

-- ---- all objects

abbrev pub all_followed : List Stored → List Object
all_followed ss = map (data_space_followed (imaged ss)) ss

-- what all parts of a store hold, each data space followed by its journal space
abbrev pub restarted : ℕ → List Change → Held
restarted limit parts = record {
  objects = all_followed (objects_stored_in limit parts);
  next = ceiling_of parts + 1;
  ceiling = ceiling_of parts;
}

-- the extents of the objects that all parts of a store hold, each as its image has it
abbrev pub extents_kept : ℕ → List Change → List Extent
extents_kept limit parts = map extent_in (objects_stored_in limit parts)
