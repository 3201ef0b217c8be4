-- What can be printed of an object as it is now, with every uncommitted change taken back, and in how many parts.
use Rattle.std.specs.Prelude.{ℕ, List, length, None}
use Rattle.s38_base.specs.declared.page.Change.{Change}
use Rattle.s38_commits.specs.Units.{UnitMap}
use Rattle.s38_image.specs.Bodies.{body_bytes, tags_by}
use Rattle.s38_image.specs.PartPlaces.{body_part}
use Rattle.s38_image.specs.Pages.{needed, stream_parts}
use Rattle.s38_image.specs.Settled.{settled_body, settled_sequence}
use Rattle.s38_image.specs.declared.header.Header.{Header}
use Rattle.s38_image_writer.specs.Restoring.{AreRestorable}
use Rattle.s38_rules.specs.state.Held.{kind_of}
use Rattle.s38_rules.specs.store.Room.{extent_of, more_parts}
use Rattle.s38_rules.specs.declared.object.Body.{Body}
use Rattle.s38_rules.specs.declared.object.Body.TheVariants as bodies
use Rattle.s38_rules.specs.declared.object.Object.{Object}

-- ---- what can be printed

-- all uncommitted changes of a body may be taken back
abbrev pub CanSettle : UnitMap → ℕ → Body → Type 0
CanSettle units number (bodies.DataSpace d) = AreRestorable units number d.space
CanSettle units number _ = Unit {0}

-- the header, and the pages of rows and body: all that a store takes of an object that is new to it
abbrev pub part_count : Object → ℕ
part_count o = more_parts None (extent_of o)

-- ---- the pieces of the parts

-- the bytes of a body by its own kind
abbrev pub own_bytes : UnitMap → ℕ → ℕ → Body → List ℕ
own_bytes units number last b = body_bytes (kind_of b) (record { body = settled_body units number b; sequence = settled_sequence last b })

-- the parts of a body by its own kind
abbrev pub own_parts : UnitMap → ℕ → ℕ → Body → List Change
own_parts units number last b =
    stream_parts number body_part (own_bytes units number last b) (tags_by (kind_of b) (settled_body units number b) (needed (length (own_bytes units number last b))))

-- the header of an object whose body has so many bytes
abbrev pub header_with : Object → ℕ → Header
header_with o len = record {
  id = o.id;
  context = o.context;
  owner = o.owner;
  public = o.public;
  rows = length o.rows;
  body = len;
}
