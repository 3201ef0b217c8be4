-- The storage of a space is a list of cells. What its calls give and leave.
use Rattle.std.specs.Prelude.{◌≡◌, ℕ, ◌+◌, ◌-◌, ◌*◌, ◌/◌, ◌%◌, ◌<◌, ◌≤◌, ◌==◌, slice_index_or, Bool, ◌&&◌, List, [], ◌∷◌, ◌++◌, length, take, drop, replicate, All, Option, Some, None, Result, Ok, Err, nat_le, if◌then◌else◌}
use Rattle.std.specs.List.{flat_map, slice_get}
use Rattle.s38_base.specs.declared.pointer.Pointer.{Pointer}
use Rattle.s38_memory.specs.declared.cell.Cell.{Cell}
use Rattle.s38_memory.specs.declared.cell.Cell.TheVariants.{Bytes, Tagged}
use Rattle.s38_memory.specs.declared.fault.MemoryFault.{MemoryFault}
use Rattle.s38_memory.specs.declared.fault.MemoryFault.TheVariants.{Bounds, Alignment, NoPointer}
use Rattle.s38_memory.specs.Cell.{IsCell, bytes_of_cell}

-- one cell at least, and at most 16,777,216 bytes; each holds sixteen bytes or a pointer that has an image
pub record IsStorage (cells : List Cell) : Type 0 where
  pub some : 1 ≤ length cells
  pub most : length cells ≤ 1048576
  pub whole : All IsCell cells

-- a piece over a list, from a place on
abbrev pub overlaid : {X : Type 0} → ℕ → List X → List X → List X
overlaid at piece xs = take at xs ++ (piece ++ drop (at + length piece) xs)

-- what the cells read as
abbrev pub bytes_in : List Cell → List ℕ
bytes_in cells = flat_map bytes_of_cell cells

-- a cell after a piece was written over its bytes: it holds bytes, unless the piece is empty
abbrev pub cell_with_piece : ℕ → List ℕ → Cell → Cell
cell_with_piece at [] cell = cell
cell_with_piece at (b ∷ bs) cell = Bytes (overlaid at (b ∷ bs) (bytes_of_cell cell))

-- cells after a piece was written over them: each takes what falls into it
abbrev pub cells_written : ℕ → List ℕ → List Cell → List Cell
cells_written at piece [] = []
cells_written at piece (cell ∷ cells) = cell_with_piece at (take (16 - at) piece) cell ∷ cells_written (at - 16) (drop (16 - at) piece) cells

-- the cells in a range of bytes
abbrev pub cells_in : ℕ → ℕ → List Cell → List Cell
cells_in at len cells = take (len / 16) (drop (at / 16) cells)

-- cut, or filled up with zero bytes
abbrev pub resized : ℕ → List Cell → List Cell
resized len cells = take (len / 16) cells ++ replicate (len / 16 - length cells) (Bytes (replicate 16 0))

-- a piece of bytes lies within the cells
abbrev pub is_within : ℕ → ℕ → List Cell → Bool
is_within at len cells = nat_le (at + len) (16 * length cells)

abbrev pub is_aligned : ℕ → Bool
is_aligned at = at % 16 == 0

-- nothing is refused, or what is
abbrev pub answer_of_fault : Option MemoryFault → Result (Unit {0}) MemoryFault
answer_of_fault None = Ok tt
answer_of_fault (Some fault) = Err fault

-- why a piece of bytes is refused
abbrev pub piece_fault : ℕ → ℕ → List Cell → Option MemoryFault
piece_fault at len cells = if is_within at len cells then None else Some Bounds

-- why whole cells are refused
abbrev pub cells_fault : ℕ → ℕ → List Cell → Option MemoryFault
cells_fault at len cells = if is_within at len cells then (if is_aligned at then None else Some Alignment) else Some Bounds

-- why a copy of whole cells is refused
abbrev pub copy_fault : ℕ → List Cell → ℕ → List Cell → ℕ → Option MemoryFault
copy_fault to target from source len =
    if is_within to len target && is_within from len source then (if is_aligned to && is_aligned from then None else Some Alignment)
    else Some Bounds

abbrev pub pointer_in_cell : Option Cell → Result Pointer MemoryFault
pointer_in_cell (Some (Tagged pointer)) = Ok pointer
pointer_in_cell _ = Err NoPointer

abbrev pub unless_refused : Option MemoryFault → Result Pointer MemoryFault → Result Pointer MemoryFault
unless_refused None found = found
unless_refused (Some fault) found = Err fault

-- the pointer at a place, or why there is none
abbrev pub pointer_at_offset : ℕ → List Cell → Result Pointer MemoryFault
pointer_at_offset at cells = unless_refused (cells_fault at 16 cells) (pointer_in_cell (slice_get cells (at / 16)))

-- the cell at place k has a byte of the piece
abbrev pub Touches : ℕ → ℕ → ℕ → Type 0
Touches at len k = (at < 16 * k + 16) × (16 * k < at + len) × (0 < len)

abbrev pub IsBytes : Cell → Type 0
IsBytes (Bytes bytes) = Unit {0}
IsBytes (Tagged pointer) = ⊥

-- what a write of bytes means: the cells read as before but for the piece; those that it touches hold bytes,
-- and the others stay, with their tags
pub record IsWritten (at : ℕ) (piece : List ℕ) (old new : List Cell) : Type 0 where
  pub bytes : bytes_in new ≡ overlaid at piece (bytes_in old)
  pub touched : (k : ℕ) (d : Cell) → k < length old → Touches at (length piece) k → IsBytes (slice_index_or new k d)
  pub others : (k : ℕ) (d : Cell) → ¬ Touches at (length piece) k → slice_index_or new k d ≡ slice_index_or old k d
