-- What a cell of a space holds: sixteen bytes, or a pointer, which reads as its image.
use Rattle.std.specs.Prelude.{◌≡◌, ℕ, List, length}
use Rattle.s38_memory.specs.declared.cell.Cell.{Cell}
use Rattle.s38_memory.specs.declared.cell.Cell.TheVariants.{Bytes, Tagged}
use Rattle.s38_memory.specs.Image.{HasImage, image}

abbrev pub bytes_of_cell : Cell → List ℕ
bytes_of_cell (Bytes bytes) = bytes
bytes_of_cell (Tagged pointer) = image pointer

-- sixteen bytes, or a pointer that has an image
abbrev pub IsCell : Cell → Type 0
IsCell (Bytes bytes) = length bytes ≡ 16
IsCell (Tagged pointer) = HasImage pointer
