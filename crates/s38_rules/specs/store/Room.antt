-- What a store has room for. It keeps an object in parts, which are pages: a header, pages of rows, and pages of the image
-- of its body.
use Rattle.std.specs.Prelude.{ℕ, ◌+◌, ◌-◌, ◌*◌, ◌/◌, ◌==◌, Bool, List, length, find, sum_by, Option, Some, None}
use Rattle.s38_base.specs.Limits.{cell_bytes, page_bytes}
use Rattle.s38_dataspaces.specs.Table as tables
use Rattle.s38_indexes.specs.Entries as indexes
use Rattle.s38_journals.specs.Journals.{entries_len}
use Rattle.s38_queues.specs.MessageQueue as queues
use Rattle.s38_code.specs.declared.program.Program.{Program}
use Rattle.s38_rules.specs.declared.object.Body.{Body}
use Rattle.s38_rules.specs.declared.object.Body.TheVariants as bodies
use Rattle.s38_rules.specs.declared.object.Object.{Object}

-- ---- the length of an image, in bytes

abbrev pub line_size : List ℕ → ℕ
line_size line = length line + 1

-- the size of a program's image: its text, each line with its line feed
abbrev pub program_size : Program → ℕ
program_size program = sum_by line_size program.template

-- that of a body
abbrev pub image_len : Body → ℕ
image_len bodies.Context = 0
image_len (bodies.Program program) = program_size program
image_len (bodies.Profile special limit) = 5
image_len (bodies.Space cells) = cell_bytes * length cells
image_len (bodies.Queue q) = queues.queue_image_size q.messages
image_len (bodies.Index index) = indexes.index_image_size index.entries
image_len (bodies.DataSpace d) = tables.data_space_image_size d.space.fields (length d.space.entries)
image_len (bodies.Cursor cursor) = 20
image_len (bodies.Port port) = 8
image_len (bodies.Journal journal) = entries_len journal.entries
image_len (bodies.Block block) = 8

-- that of the row of a user: its number, and its rights
abbrev pub row_len : ℕ
row_len = 9

-- ---- pages

-- how many pages so many bytes begin
abbrev pub pages_begun : ℕ → ℕ
pages_begun len = (len + (page_bytes - 1)) / page_bytes

-- how many pages of rows and of its body the store has of an object
pub record Extent : Type 0 where
  pub number : ℕ
  pub rows : ℕ
  pub body : ℕ

-- the pages of its rows
abbrev pub rows_pages : Object → ℕ
rows_pages o = pages_begun (row_len * length o.rows)

-- those of an object as it is
abbrev pub extent_of : Object → Extent
extent_of o = record { number = o.number.0; rows = rows_pages o; body = pages_begun (image_len o.body) }

-- how many parts a store has for objects, and the extent of each object that it keeps
pub record Room : Type 0 where
  pub parts : ℕ
  pub extents : List Extent

-- the parts of an object: its header, and its pages
abbrev pub parts_of : Extent → ℕ
parts_of x = 1 + (x.rows + x.body)

-- how many further parts a store takes
abbrev pub free : Room → ℕ
free room = room.parts - sum_by parts_of room.extents

abbrev pub is_extent_of : ℕ → Extent → Bool
is_extent_of n x = x.number == n

abbrev pub extent_at : List Extent → ℕ → Option Extent
extent_at extents n = find (is_extent_of n) extents

-- how many parts are new where an extent becomes another; an object that is new has a header too
abbrev pub more_parts : Option Extent → Extent → ℕ
more_parts None new = 1 + (new.rows + new.body)
more_parts (Some old) new = (new.rows - old.rows) + (new.body - old.body)
