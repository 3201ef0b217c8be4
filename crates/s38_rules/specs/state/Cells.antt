-- Pieces of a space's cells: what is read there, and what the cells are after something is put there. A piece that
-- leaves the cells reads as nothing and changes nothing; the rules of addresses refuse it before.
use Rattle.std.specs.Prelude.{ℕ, ◌*◌, ◌/◌, Bool, ◌&&◌, List, [], ◌∷◌, length, take, drop, replicate, slice_set, Option, Some, None, Result, Ok, Err, if◌then◌else◌}
use Rattle.s38_base.specs.declared.pointer.Pointer.{Pointer}
use Rattle.s38_base.specs.Limits.{cell_bytes}
use Rattle.s38_base.specs.Pointers.{is_storable}
use Rattle.s38_memory.specs.declared.cell.Cell.{Cell}
use Rattle.s38_memory.specs.declared.cell.Cell.TheVariants.{Bytes, Tagged}
use Rattle.s38_memory.specs.declared.fault.MemoryFault.{MemoryFault}
use Rattle.s38_memory.specs.Tagged.{bytes_in, cells_in, cells_written, is_aligned, is_within, overlaid, pointer_at_offset}

-- ---- what is read

-- a piece of the bytes
abbrev pub bytes_there : List Cell → ℕ → ℕ → List ℕ
bytes_there cells at len = if is_within at len cells then take len (drop at (bytes_in cells)) else []

abbrev pub found_pointer : Result Pointer MemoryFault → Option Pointer
found_pointer (Ok p) = Some p
found_pointer (Err fault) = None

-- the pointer in the cell that begins there; a cell of bytes is none
abbrev pub pointer_there : List Cell → ℕ → Option Pointer
pointer_there cells at = found_pointer (pointer_at_offset at cells)

-- ---- what is put

-- bytes over a piece
abbrev pub with_bytes : ℕ → List ℕ → List Cell → List Cell
with_bytes at bytes cells = if is_within at (length bytes) cells then cells_written at bytes cells else cells

-- there is a cell that begins there
abbrev pub is_cell : ℕ → List Cell → Bool
is_cell at cells = is_within at cell_bytes cells && is_aligned at

-- a pointer into the cell that begins there; no pointer is sixteen zero bytes
abbrev pub with_pointer : ℕ → Option Pointer → List Cell → List Cell
with_pointer at None cells = with_bytes at (replicate cell_bytes 0) cells
with_pointer at (Some p) cells = if is_storable p && is_cell at cells then slice_set cells (at / cell_bytes) (Tagged p) else cells

-- ---- whole cells

-- the cells of a piece; where it does not begin and end with a cell of the space there are none
abbrev pub cells_there : List Cell → ℕ → ℕ → List Cell
cells_there cells at len = if is_within at len cells && is_aligned at then cells_in at len cells else []

-- cells over those that begin there, with their tags
abbrev pub with_cells : ℕ → List Cell → List Cell → List Cell
with_cells at piece cells =
    if is_within at (cell_bytes * length piece) cells && is_aligned at then overlaid (at / cell_bytes) piece cells else cells

-- a cell for a pointer: no pointer is sixteen zero bytes
abbrev pub cell_for : Option Pointer → Cell
cell_for None = Bytes (replicate cell_bytes 0)
cell_for (Some p) = if is_storable p then Tagged p else Bytes (replicate cell_bytes 0)

-- the pointer of the first cell; one of bytes is none
abbrev pub first_pointer : List Cell → Option Pointer
first_pointer [] = None
first_pointer (Tagged p ∷ cells) = Some p
first_pointer (Bytes bytes ∷ cells) = None
