-- The parts of an object, and the object of some parts, or the first part at fault.
use Rattle.std.specs.Prelude.{ℕ, ◌*◌, Bool, true, List, [], ◌∷◌, ◌++◌, length, Option, Some, None, Result, Ok, Err, nat_lt, if◌then◌else◌}
use Rattle.std.specs.List.{list_any, range_with_len}
use Rattle.s38_base.specs.declared.id.Kind.{Kind}
use Rattle.s38_base.specs.declared.page.Change.{Change}
use Rattle.s38_image.specs.Bodies.{BodyImage, body, body_bytes, body_tags}
use Rattle.s38_image.specs.Headers.{header, header_is_within, rows}
use Rattle.s38_image.specs.Pages.{is_page, needed, no_tags, print_parts, read_parts, tags_in}
use Rattle.s38_image.specs.PartPlaces.{body_part, row_bytes, rows_part}
use Rattle.s38_image.specs.declared.header.Header.{Header}
use Rattle.s38_image.specs.declared.stored.Stored.{Stored}
use Rattle.s38_rules.specs.declared.rows.PrivateRow.{PrivateRow}

-- ---- the parts of an object

abbrev pub image_of : Stored → BodyImage
image_of s = record { body = s.object.body; sequence = s.sequence }

abbrev pub stored_header : Stored → Header
stored_header s = record {
  id = s.object.id;
  context = s.object.context;
  owner = s.object.owner;
  public = s.object.public;
  rows = length s.object.rows;
  body = length (body_bytes s.object.id.kind (image_of s));
}

abbrev pub header_parts : Stored → List Change
header_parts s = print_parts s.object.number.0 0 header (no_tags header) (stored_header s)

abbrev pub rows_parts : Stored → List Change
rows_parts s = print_parts s.object.number.0 rows_part (rows (length s.object.rows)) (no_tags (rows (length s.object.rows))) s.object.rows

abbrev pub body_parts : Stored → List Change
body_parts s = print_parts s.object.number.0 body_part (body s.object.id.kind []) (body_tags s.object.id.kind) (image_of s)

-- the header is part 0, the rows are the parts from 1 on, and the body those from 128 on
abbrev pub image_parts : Stored → List Change
image_parts s = header_parts s ++ (rows_parts s ++ body_parts s)

-- ---- reading, with the first part at fault

infixl 10 ◌>>>◌
abbrev pub ◌>>>◌ : {A B : Type 0} → Result A ℕ → (A → Result B ℕ) → Result B ℕ
(Err part) >>> f = Err part
(Ok x) >>> f = f x

abbrev pub or_fault : {A : Type 0} → ℕ → Option A → Result A ℕ
or_fault part None = Err part
or_fault part (Some x) = Ok x

-- the parts below a number that lead a list, and the others
abbrev pub leading : ℕ → List Change → List Change
leading limit [] = []
leading limit (c ∷ parts) = if nat_lt c.key.part limit then c ∷ leading limit parts else []

abbrev pub after_leading : ℕ → List Change → List Change
after_leading limit [] = []
after_leading limit (c ∷ parts) = if nat_lt c.key.part limit then after_leading limit parts else c ∷ parts

abbrev pub has_part : ℕ → List Change → ℕ → Bool
has_part number parts part = list_any (is_page number part) parts

-- the first part that is wanted and not there
abbrev pub first_missing : ℕ → List Change → List ℕ → Result (List ℕ) ℕ
first_missing number parts [] = Ok []
first_missing number parts (part ∷ wanted_parts) = if has_part number parts part then first_missing number parts wanted_parts else Err part

-- the parts of rows and body
abbrev pub wanted_parts : Header → List ℕ
wanted_parts h = range_with_len rows_part (needed (row_bytes * h.rows)) ++ range_with_len body_part (needed h.body)

-- the object that header, rows and body make
abbrev pub made : ℕ → Header → List PrivateRow → BodyImage → Stored
made number h rs i = record {
  object = record {
    number = record { 0 = number };
    id = h.id;
    context = h.context;
    owner = h.owner;
    public = h.public;
    rows = rs;
    on_disk = true;
    body = i.body;
  };
  sequence = i.sequence;
}

-- the body of a kind in so many bytes, from the parts from 128 on
abbrev pub body_in : ℕ → Kind → ℕ → List Change → Option BodyImage
body_in number kind len last = read_parts number body_part (body kind (tags_in last)) (body_tags kind) len last

abbrev pub with_body : ℕ → Header → List PrivateRow → List Change → Result Stored ℕ
with_body number h rs last = or_fault body_part (body_in number h.id.kind h.body last) >>> λ i. Ok (made number h rs i)

-- so many rows, from the parts below 128
abbrev pub rows_in_parts : ℕ → ℕ → List Change → Option (List PrivateRow)
rows_in_parts number count middle = read_parts number rows_part (rows count) (no_tags (rows count)) (row_bytes * count) middle

abbrev pub with_row_parts : ℕ → Header → List Change → List Change → Result Stored ℕ
with_row_parts number h middle last = or_fault rows_part (rows_in_parts number h.rows middle) >>> λ rs. with_body number h rs last

-- no page is missing
abbrev pub with_all_pages : ℕ → List Change → Header → List Change → Result Stored ℕ
with_all_pages number parts h later = first_missing number parts (wanted_parts h) >>> λ _. with_row_parts number h (leading body_part later) (after_leading body_part later)

-- the header, from the parts below 1
abbrev pub header_in_parts : ℕ → List Change → Option Header
header_in_parts number front = read_parts number 0 header (no_tags header) 512 front

abbrev pub limited : ℕ → Header → Result Header ℕ
limited limit h = if header_is_within limit h then Ok h else Err 0

-- header, missing page, rows, body: the object of the parts, or the first part at fault
unfoldable pub object_of_parts : ℕ → ℕ → List Change → Result Stored ℕ
object_of_parts limit number parts =
    or_fault 0 (header_in_parts number (leading rows_part parts)) >>> limited limit >>> λ h. with_all_pages number parts h (after_leading rows_part parts)
