-- The part of each kind is lawful: what is put is read again, and what is read is all that the body holds.
use Rattle.std.specs.Prelude.{◌≡◌, ℕ, List, Some}
use Rattle.std.proofs.Common.{refl}
use Rattle.s38_base.specs.declared.rights.Special.{Special}
use Rattle.s38_memory.specs.declared.cell.Cell.{Cell}
use Rattle.s38_indexes.specs.Entries.{EntryIndex}
use Rattle.s38_journals.specs.Journals.{JournalList}
use Rattle.s38_queues.specs.MessageQueue.{MessageQueue}
use Rattle.s38_rules.specs.declared.block.Block.{Block}
use Rattle.s38_rules.specs.declared.cursor.Cursor.{Cursor}
use Rattle.s38_rules.specs.declared.data_body.DataBody.{DataBody}
use Rattle.s38_rules.specs.declared.object.Body.{Body}
use Rattle.s38_rules.specs.declared.object.Body.TheVariants as bodies
use Rattle.s38_rules.specs.declared.port.Port.{Port}
use Rattle.s38_rules.specs.state.Parts.{Part, queue_of, queue_part, space_of, space_part, index_of, index_part, data_of, data_part, cursor_of, cursor_part, port_of, port_part, journal_of, journal_part, block_of, block_part, profile_of, profile_part}

-- what is put is read again, and what is read is all that the body holds
pub record IsPart (T : Type 0) (p : Part T) : Type 0 where
  pub got : (x : T) → p.of (p.make x) ≡ Some x
  pub back : (b : Body) (x : T) → p.of b ≡ Some x → b ≡ p.make x

queue_back : (b : Body) (x : MessageQueue) → queue_of b ≡ Some x → b ≡ bodies.Queue x
queue_back (bodies.Queue held) x h = cc
queue_back _ x h = cc

pub queue_lawful : IsPart MessageQueue queue_part
queue_lawful = record { got = λ x. refl; back = queue_back }

space_back : (b : Body) (x : List Cell) → space_of b ≡ Some x → b ≡ bodies.Space x
space_back (bodies.Space held) x h = cc
space_back _ x h = cc

pub space_lawful : IsPart (List Cell) space_part
space_lawful = record { got = λ x. refl; back = space_back }

index_back : (b : Body) (x : EntryIndex) → index_of b ≡ Some x → b ≡ bodies.Index x
index_back (bodies.Index held) x h = cc
index_back _ x h = cc

pub index_lawful : IsPart EntryIndex index_part
index_lawful = record { got = λ x. refl; back = index_back }

data_back : (b : Body) (x : DataBody) → data_of b ≡ Some x → b ≡ bodies.DataSpace x
data_back (bodies.DataSpace held) x h = cc
data_back _ x h = cc

pub data_lawful : IsPart DataBody data_part
data_lawful = record { got = λ x. refl; back = data_back }

cursor_back : (b : Body) (x : Cursor) → cursor_of b ≡ Some x → b ≡ bodies.Cursor x
cursor_back (bodies.Cursor held) x h = cc
cursor_back _ x h = cc

pub cursor_lawful : IsPart Cursor cursor_part
cursor_lawful = record { got = λ x. refl; back = cursor_back }

port_back : (b : Body) (x : Port) → port_of b ≡ Some x → b ≡ bodies.Port x
port_back (bodies.Port held) x h = cc
port_back _ x h = cc

pub port_lawful : IsPart Port port_part
port_lawful = record { got = λ x. refl; back = port_back }

journal_back : (b : Body) (x : JournalList) → journal_of b ≡ Some x → b ≡ bodies.Journal x
journal_back (bodies.Journal held) x h = cc
journal_back _ x h = cc

pub journal_lawful : IsPart JournalList journal_part
journal_lawful = record { got = λ x. refl; back = journal_back }

block_back : (b : Body) (x : Block) → block_of b ≡ Some x → b ≡ bodies.Block x
block_back (bodies.Block held) x h = cc
block_back _ x h = cc

pub block_lawful : IsPart Block block_part
block_lawful = record { got = λ x. refl; back = block_back }

profile_back : (b : Body) (x : Special × ℕ) → profile_of b ≡ Some x → b ≡ bodies.Profile x.0 x.1
profile_back (bodies.Profile special limit) x h = cc
profile_back _ x h = cc

pub profile_lawful : IsPart (Special × ℕ) profile_part
profile_lawful = record { got = λ x. refl; back = profile_back }
