-- What fits the formats: what is read again after it was printed.
use Rattle.std.specs.Prelude.{◌≡◌, ℕ, true, List, [], ◌∷◌, length, take, is_some}
use Rattle.s38_base.specs.Limits.{page_bytes}
use Rattle.s38_base.specs.declared.id.Kind.{Kind}
use Rattle.s38_base.specs.declared.id.Kind.TheVariants as kinds
use Rattle.s38_base.specs.declared.page.Change.{Change}
use Rattle.s38_codec.specs.Codec.{AreBytes, Codec, only, seen, times}
use Rattle.s38_codec.specs.Formats.{FitsCase, fits_from}
use Rattle.s38_image.specs.Bodies.{BodyImage, block, body_tags, context_part, cursor, data_image_part, entries_part, held_without_sequence, port, profile_form, program_part}
use Rattle.s38_image.specs.DataSpaces.{data_space}
use Rattle.s38_image.specs.Headers.{header_by, header_fields, header_format, header_is_within, row_form, users_rise}
use Rattle.s38_image.specs.Images.{image_of, stored_header}
use Rattle.s38_image.specs.Indexes.{index}
use Rattle.s38_image.specs.Journals.{entry}
use Rattle.s38_image.specs.Pages.{bytes_of_page, stream}
use Rattle.s38_image.specs.Programs.{IsCreated}
use Rattle.s38_image.specs.Queues.{queue}
use Rattle.s38_image.specs.Spaces.{cells_by, flags_in, is_some_cell}
use Rattle.s38_image.specs.declared.header.Header.{Header}
use Rattle.s38_image.specs.declared.stored.Stored.{Stored}
use Rattle.s38_memory.specs.declared.cell.Cell.{Cell}
use Rattle.s38_rules.specs.state.Parts as parts
use Rattle.s38_rules.specs.declared.rows.PrivateRow.{PrivateRow}

abbrev pub header_codec : Codec Header
header_codec = seen header_by header_fields header_format

abbrev pub rows_codec : ℕ → Codec (List PrivateRow)
rows_codec n = only users_rise (times n row_form)

-- the cells fit where the tags of their pages are these
pub record FitsSpace (tags : List ℕ) (cs : List Cell) : Type 0 where
  pub some : is_some_cell cs ≡ true
  pub cells : (cells_by (take (length cs) (flags_in tags))).fits cs ≡ true

-- what a body of a kind fits, where its pages have these tags
abbrev pub FitsBody : Kind → List ℕ → BodyImage → Type 0
FitsBody kinds.Context tags i = FitsCase (λ x. Unit {0}) ((held_without_sequence context_part).of i)
FitsBody kinds.Program tags i = FitsCase IsCreated ((held_without_sequence program_part).of i)
FitsBody kinds.Profile tags i = FitsCase (λ x. profile_form.fits x ≡ true) ((held_without_sequence parts.profile_part).of i)
FitsBody kinds.Space tags i = FitsCase (FitsSpace tags) ((held_without_sequence parts.space_part).of i)
FitsBody kinds.Queue tags i = FitsCase (λ x. queue.fits x ≡ true) ((held_without_sequence parts.queue_part).of i)
FitsBody kinds.Index tags i = FitsCase (λ x. index.fits x ≡ true) ((held_without_sequence parts.index_part).of i)
FitsBody kinds.DataSpace tags i = FitsCase (λ x. data_space.fits x ≡ true) (data_image_part.of i)
FitsBody kinds.Cursor tags i = FitsCase (λ x. cursor.fits x ≡ true) ((held_without_sequence parts.cursor_part).of i)
FitsBody kinds.Port tags i = FitsCase (λ x. port.fits x ≡ true) ((held_without_sequence parts.port_part).of i)
FitsBody kinds.Journal tags i = FitsCase (λ x. fits_from entry 1 x ≡ true) ((held_without_sequence entries_part).of i)
FitsBody kinds.Block tags i = FitsCase (λ x. block.fits x ≡ true) ((held_without_sequence parts.block_part).of i)

-- each page is whole
unfoldable pub AreWhole : List Change → Type 0
AreWhole [] = Unit {0}
AreWhole (c ∷ parts) = (is_some c.page ≡ true → length (bytes_of_page c.page) ≡ page_bytes) × AreWhole parts

-- each page has 512 bytes
pub record AreFine (ps : List Change) : Type 0 where
  pub whole : AreWhole ps
  pub bytes : AreBytes (stream ps)

-- what has parts that are read again: an image within a limit of bodies
pub record IsImage (limit : ℕ) (s : Stored) : Type 0 where
  pub on_disk : s.object.on_disk ≡ true
  pub header : header_codec.fits (stored_header s) ≡ true
  pub within : header_is_within limit (stored_header s) ≡ true
  pub rows : (rows_codec (length s.object.rows)).fits s.object.rows ≡ true
  pub body : FitsBody s.object.id.kind (body_tags s.object.id.kind (image_of s)) (image_of s)
