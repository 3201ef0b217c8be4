-- What a body of one kind holds: how it is read, and how it is put back. Each kind has one part, and what is said
-- of parts is said once for all kinds.
use Rattle.std.specs.Prelude.{ℕ, List, Option, Some, None}
use Rattle.s38_base.specs.declared.rights.Special.{Special}
use Rattle.s38_memory.specs.declared.cell.Cell.{Cell}
use Rattle.s38_indexes.specs.Entries.{EntryIndex}
use Rattle.s38_journals.specs.Journals.{JournalList}
use Rattle.s38_queues.specs.MessageQueue.{MessageQueue}
use Rattle.s38_rules.specs.declared.block.Block.{Block}
use Rattle.s38_rules.specs.declared.cursor.Cursor.{Cursor}
use Rattle.s38_rules.specs.declared.data_body.DataBody.{DataBody}
use Rattle.s38_rules.specs.declared.object.Object.{Object}
use Rattle.s38_rules.specs.declared.object.Body.{Body}
use Rattle.s38_rules.specs.declared.object.Body.TheVariants as bodies
use Rattle.s38_rules.specs.declared.port.Port.{Port}
use Rattle.s38_rules.specs.state.Held.{Held, change, object}

pub record Part (T : Type 0) : Type 0 where
  -- what the body holds, where it is of the kind
  pub of : Body → Option T
  -- the body that holds this
  pub make : T → Body

abbrev pub over : {T : Type 0} → Part T → (T → T) → Body → Option T → Body
over p f b None = b
over p f b (Some x) = p.make (f x)

-- a body of the kind holds something else from now on, and any other stays
abbrev pub over_body : {T : Type 0} → Part T → (T → T) → Body → Body
over_body p f b = over p f b (p.of b)

abbrev pub over_object : {T : Type 0} → Part T → (T → T) → Object → Object
over_object p f o = record o { body = over_body p f o.body }

-- what the object of a number holds is something else from now on, where it is of the kind
abbrev pub over_part : {T : Type 0} → Part T → Held → ℕ → (T → T) → Held
over_part p h n f = change h n (over_object p f)

abbrev pub part_in : {T : Type 0} → Part T → Option Object → Option T
part_in p None = None
part_in p (Some o) = p.of o.body

-- what the object of a number holds, where it is of the kind
abbrev pub part_at : {T : Type 0} → Part T → Held → ℕ → Option T
part_at p h n = part_in p (object h n)

-- ---- the parts

abbrev pub queue_of : Body → Option MessageQueue
queue_of (bodies.Queue q) = Some q
queue_of _ = None

abbrev pub queue_part : Part MessageQueue
queue_part = record { of = queue_of; make = bodies.Queue }

abbrev pub space_of : Body → Option (List Cell)
space_of (bodies.Space cells) = Some cells
space_of _ = None

abbrev pub space_part : Part (List Cell)
space_part = record { of = space_of; make = bodies.Space }

abbrev pub index_of : Body → Option EntryIndex
index_of (bodies.Index index) = Some index
index_of _ = None

abbrev pub index_part : Part EntryIndex
index_part = record { of = index_of; make = bodies.Index }

abbrev pub data_of : Body → Option DataBody
data_of (bodies.DataSpace held) = Some held
data_of _ = None

abbrev pub data_part : Part DataBody
data_part = record { of = data_of; make = bodies.DataSpace }

abbrev pub cursor_of : Body → Option Cursor
cursor_of (bodies.Cursor cursor) = Some cursor
cursor_of _ = None

abbrev pub cursor_part : Part Cursor
cursor_part = record { of = cursor_of; make = bodies.Cursor }

abbrev pub port_of : Body → Option Port
port_of (bodies.Port port) = Some port
port_of _ = None

abbrev pub port_part : Part Port
port_part = record { of = port_of; make = bodies.Port }

abbrev pub journal_of : Body → Option JournalList
journal_of (bodies.Journal journal) = Some journal
journal_of _ = None

abbrev pub journal_part : Part JournalList
journal_part = record { of = journal_of; make = bodies.Journal }

abbrev pub block_of : Body → Option Block
block_of (bodies.Block block) = Some block
block_of _ = None

abbrev pub block_part : Part Block
block_part = record { of = block_of; make = bodies.Block }

-- the special authorities of a user, and how many pages it may own
abbrev pub profile_of : Body → Option (Special × ℕ)
profile_of (bodies.Profile special limit) = Some (special, limit)
profile_of _ = None

abbrev pub profile_part : Part (Special × ℕ)
profile_part = record { of = profile_of; make = λ x. bodies.Profile x.0 x.1 }
