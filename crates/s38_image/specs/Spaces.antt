-- The body of a space: its cells, sixteen bytes each. The tags of the pages say which of them are pointers.
use Rattle.std.specs.Prelude.{ℕ, zero, suc, ◌+◌, ◌*◌, ◌/◌, ◌%◌, Bool, true, false, ◌&&◌, ◌==◌, List, [], ◌∷◌, length, take, drop, map, Option, Some, None, is_some, nat_le}
use Rattle.std.specs.List.{flat_map}
use Rattle.s38_base.specs.declared.pointer.Pointer.{Pointer}
use Rattle.s38_codec.specs.Codec.{Case, Codec, bytes, each, only, under, whole}
use Rattle.s38_codec.specs.Formats.{Spelling}
use Rattle.s38_image.specs.Pages.{needed}
use Rattle.s38_image.specs.PartPlaces.{page_cells}
use Rattle.s38_image.specs.Scalars.{pointer}
use Rattle.s38_memory.specs.Tagged.{bytes_in}
use Rattle.s38_memory.specs.declared.cell.Cell.{Cell}
use Rattle.s38_memory.specs.declared.cell.Cell.TheVariants as cells

-- ---- the tags

abbrev pub cell_pointer : Cell → Option Pointer
cell_pointer (cells.Tagged p) = Some p
cell_pointer (cells.Bytes xs) = None

abbrev pub bytes_held : Cell → Option (List ℕ)
bytes_held (cells.Tagged p) = None
bytes_held (cells.Bytes xs) = Some xs

abbrev pub is_tagged : Cell → Bool
is_tagged c = is_some (cell_pointer c)

abbrev pub bit : Bool → ℕ
bit true = 1
bit false = 0

-- bit k, counted from the least, belongs to cell k
abbrev pub tag_number : List Bool → ℕ
tag_number [] = 0
tag_number (f ∷ fs) = bit f + 2 * tag_number fs

-- of so many pages
unfoldable pub tag_numbers : ℕ → List Bool → List ℕ
tag_numbers zero fs = []
tag_numbers (suc n) fs = tag_number (take page_cells fs) ∷ tag_numbers n (drop page_cells fs)

-- the tags of the pages that hold the cells
abbrev pub space_tags : List Cell → List ℕ
space_tags cs = tag_numbers (needed (16 * length cs)) (map is_tagged cs)

-- the lowest bits of a number
unfoldable pub bits : ℕ → ℕ → List Bool
bits zero t = []
bits (suc n) t = (t % 2 == 1) ∷ bits n (t / 2)

-- which cells of the pages are pointers
abbrev pub flags_in : List ℕ → List Bool
flags_in tags = flat_map (bits page_cells) tags

-- ---- the cells

abbrev pub tagged_part : Case Pointer Cell
tagged_part = record { of = cell_pointer; make = cells.Tagged }

abbrev pub plain_part : Case (List ℕ) Cell
plain_part = record { of = bytes_held; make = cells.Bytes }

-- a cell of which is known whether it is a pointer
abbrev pub cell : Bool → Codec Cell
cell true = under tagged_part pointer
cell false = under plain_part (bytes 16)

abbrev pub cells_by : List Bool → Codec (List Cell)
cells_by flags = each (map cell flags)

-- one at least
abbrev pub is_some_cell : List Cell → Bool
is_some_cell cs = nat_le 1 (length cs) && nat_le (length cs) 1048576

-- the cells of a space whose pages have these tags
abbrev pub space_form : List ℕ → Spelling (List Cell)
space_form tags = record {
  print = λ cs. bytes_in cs;
  read = λ bs. whole (only is_some_cell (cells_by (take (length bs / 16) (flags_in tags)))) bs;
}
