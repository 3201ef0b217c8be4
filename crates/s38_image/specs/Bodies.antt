-- The bodies of the eleven kinds.
use Rattle.std.specs.Prelude.{ℕ, zero, suc, Bool, ◌&&◌, ◌||◌, ◌==◌, List, [], ◌∷◌, length, Option, Some, None, if◌then◌else◌}
use Rattle.s38_base.specs.RightNames as rights
use Rattle.s38_base.specs.declared.id.Kind.{Kind}
use Rattle.s38_base.specs.declared.id.Kind.TheVariants as kinds
use Rattle.s38_base.specs.declared.rights.Special.{Special}
use Rattle.s38_code.specs.declared.program.Program.{Program}
use Rattle.s38_codec.specs.Codec.{Case, Codec, byte, copies, dependent_pair, only, seen}
use Rattle.s38_codec.specs.Formats.{Spelling, all_by, case_by, u32}
use Rattle.s38_image.specs.DataSpaces.{DataParts, data_space}
use Rattle.s38_image.specs.Headers.{object_number_form}
use Rattle.s38_image.specs.Indexes.{index}
use Rattle.s38_image.specs.Journals.{journal}
use Rattle.s38_image.specs.Pages.{needed}
use Rattle.s38_image.specs.Programs.{program_form}
use Rattle.s38_image.specs.Queues.{queue}
use Rattle.s38_image.specs.Spaces.{space_form, space_tags}
use Rattle.s38_journals.specs.Entries.{JournalRecord}
use Rattle.s38_rules.specs.state.Parts as parts
use Rattle.s38_rules.specs.declared.block.Block.{Block}
use Rattle.s38_rules.specs.declared.cursor.Cursor.{Cursor}
use Rattle.s38_rules.specs.declared.object.Body.{Body}
use Rattle.s38_rules.specs.declared.object.Body.TheVariants as bodies
use Rattle.s38_rules.specs.declared.port.Port.{Port}
use Rattle.s38_base.specs.declared.id.ObjNum.{ObjNum}

-- ---- small bodies

-- no bit but those of the two special authorities
abbrev pub is_special_byte : ℕ → Bool
is_special_byte n = ((n == 0) || (n == rights.profile)) || ((n == rights.allobj) || (n == 0xC0))

abbrev pub special_by : ℕ → Special
special_by n = record { 0 = n }

abbrev pub special_bits : Special → ℕ
special_bits s = s.0

abbrev pub special : Codec Special
special = seen special_by special_bits (only is_special_byte byte)

-- the special authorities, and how many pages the user may own
abbrev pub profile_form : Codec (Special × ℕ)
profile_form = dependent_pair special (λ _. u32)

abbrev pub cursor_by : ObjNum × (ObjNum × ℕ) → Cursor
cursor_by x = record { space = x.0; block = x.1.0; position = x.1.1 }

abbrev pub cursor_parts : Cursor → ObjNum × (ObjNum × ℕ)
cursor_parts c = (c.space, (c.block, c.position))

-- the data space, the commit block or 0, and the position
abbrev pub cursor : Codec Cursor
cursor = seen cursor_by cursor_parts (dependent_pair object_number_form (λ _. dependent_pair object_number_form (λ _. u32)))

abbrev pub port_by : ObjNum → Port
port_by n = record { journal = n }

abbrev pub port_number : Port → ObjNum
port_number p = p.journal

abbrev pub port : Codec Port
port = seen port_by port_number object_number_form

abbrev pub block_by : ObjNum → Block
block_by n = record { port = n }

abbrev pub block_number : Block → ObjNum
block_number b = b.port

abbrev pub block : Codec Block
block = seen block_by block_number object_number_form

abbrev pub nothing_of : List ℕ → Option (Unit {0})
nothing_of [] = Some tt
nothing_of (b ∷ bs) = None

-- a context has no bytes
abbrev pub no_bytes : Spelling (Unit {0})
no_bytes = record { print = λ x. []; read = nothing_of }

-- ---- bodies, and the sequence of a data space

-- a body without room that was reserved; of a data space also the last journal entry that is counted in
pub record BodyImage : Type 0 where
  pub body : Body
  pub sequence : ℕ

abbrev pub unsequenced : {T : Type 0} → parts.Part T → ℕ → Body → Option T
unsequenced p zero b = p.of b
unsequenced p (suc n) b = None

-- what a body of a kind holds, where no sequence is said
abbrev pub held_without_sequence : {T : Type 0} → parts.Part T → Case T BodyImage
held_without_sequence p = record { of = λ i. unsequenced p i.sequence i.body; make = λ x. record { body = p.make x; sequence = 0 } }

abbrev pub context_of : Body → Option (Unit {0})
context_of bodies.Context = Some tt
context_of _ = None

abbrev pub context_part : parts.Part (Unit {0})
context_part = record { of = context_of; make = λ x. bodies.Context }

abbrev pub program_of_body : Body → Option Program
program_of_body (bodies.Program p) = Some p
program_of_body _ = None

abbrev pub program_part : parts.Part Program
program_part = record { of = program_of_body; make = bodies.Program }

abbrev pub entries_in : Body → Option (List JournalRecord)
entries_in (bodies.Journal j) = if (j.spare == 0) && (j.unforced == 0) then Some j.entries else None
entries_in _ = None

-- the entries of a journal space, all forced
abbrev pub entries_part : parts.Part (List JournalRecord)
entries_part = record { of = entries_in; make = λ es. bodies.Journal (record { spare = 0; unforced = 0; entries = es }) }

abbrev pub data_in : ℕ → Body → Option DataParts
data_in sequence (bodies.DataSpace d) = if d.space.spare == 0 then Some (d.port.0, (sequence, (d.space.fields, d.space.entries))) else None
data_in sequence _ = None

abbrev pub data_image_part : Case DataParts BodyImage
data_image_part = record {
  of = λ i. data_in i.sequence i.body;
  make = λ x. record {
    body = bodies.DataSpace (record { space = record { fields = x.1.1.0; spare = 0; entries = x.1.1.1 }; port = record { 0 = x.0 } });
    sequence = x.1.0;
  };
}

-- ---- the format of each kind

-- a body of a kind whose pages have these tags
abbrev pub body : Kind → List ℕ → Spelling BodyImage
body kinds.Context tags = case_by (held_without_sequence context_part) no_bytes
body kinds.Program tags = case_by (held_without_sequence program_part) program_form
body kinds.Profile tags = case_by (held_without_sequence parts.profile_part) (all_by profile_form)
body kinds.Space tags = case_by (held_without_sequence parts.space_part) (space_form tags)
body kinds.Queue tags = case_by (held_without_sequence parts.queue_part) (all_by queue)
body kinds.Index tags = case_by (held_without_sequence parts.index_part) (all_by index)
body kinds.DataSpace tags = case_by data_image_part (all_by data_space)
body kinds.Cursor tags = case_by (held_without_sequence parts.cursor_part) (all_by cursor)
body kinds.Port tags = case_by (held_without_sequence parts.port_part) (all_by port)
body kinds.Journal tags = case_by (held_without_sequence entries_part) journal
body kinds.Block tags = case_by (held_without_sequence parts.block_part) (all_by block)

-- the bytes of a body
abbrev pub body_bytes : Kind → BodyImage → List ℕ
body_bytes k i = (body k []).print i

abbrev pub tags_by : Kind → Body → ℕ → List ℕ
tags_by kinds.Space (bodies.Space cells) pages = space_tags cells
tags_by _ _ pages = copies pages 0

-- the tags of its pages: of a space they say which cells are pointers, else they are 0
abbrev pub body_tags : Kind → BodyImage → List ℕ
body_tags k i = tags_by k i.body (needed (length (body_bytes k i)))
