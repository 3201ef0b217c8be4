-- How many cells a space has once something was written, and once it was cut or lengthened.
use Rattle.std.proofs.Common.{◌≡◌, ℕ, ◌+◌, ◌*◌, ◌/◌, ◌-◌, ◌≤◌, Bool, true, false, cond, List, [], ◌∷◌, length, drop, refl, arith, length-append, length-drop, length-set, length-take}
use Rattle.std.proofs.lemmas.Bool.Decides.{nat_tests}
use Rattle.std.proofs.lemmas.List.{length-replicate}
use Rattle.std.specs.Prelude.{Option, Some, None, ◌&&◌, nat_le, slice_set, replicate}
use Rattle.s38_base.specs.declared.pointer.Pointer.{Pointer}
use Rattle.s38_base.specs.Pointers.{is_storable}
use Rattle.s38_memory.specs.declared.cell.Cell.{Cell}
use Rattle.s38_memory.specs.declared.cell.Cell.TheVariants.{Tagged}
use Rattle.s38_memory.specs.Tagged.{cells_written, is_aligned, is_within, overlaid, resized}
use Rattle.s38_rules.specs.state.Cells.{is_cell, with_bytes, with_cells, with_pointer}

written_length : (at : ℕ) (bytes : List ℕ) (cells : List Cell) → length (cells_written at bytes cells) ≡ length cells
written_length at bytes [] = refl
written_length at bytes (cell ∷ cells) = omega (arith, written_length (at - 16) (drop (16 - at) bytes) cells)

pub bytes_length : (at : ℕ) (bytes : List ℕ) (cells : List Cell) → length (with_bytes at bytes cells) ≡ length cells
bytes_length at bytes cells =
    elim (is_within at (length bytes) cells) as (λ b. length (cond b (cells_written at bytes cells) cells) ≡ length cells) [
      | true ↦ written_length at bytes cells
      | false ↦ refl
    ]

pub pointer_length : (at : ℕ) (p : Option Pointer) (cells : List Cell) → length (with_pointer at p cells) ≡ length cells
pointer_length at None cells = bytes_length at (replicate 16 0) cells
pointer_length at (Some p) cells =
    elim (is_storable p && is_cell at cells) as (λ b. length (cond b (slice_set cells (at / 16) (Tagged p)) cells) ≡ length cells) [
      | true ↦ length-set cells (at / 16) (Tagged p)
      | false ↦ refl
    ]

within_le : (a b : ℕ) (r : Bool) → (nat_le a b && r) ≡ true → a ≤ b
within_le a b r h = grind (arith, nat_tests)

overlaid_length : (p : ℕ) (piece cells : List Cell) → p + length piece ≤ length cells → length (overlaid p piece cells) ≡ length cells
overlaid_length p piece cells h = simp (length-append, length-take, length-drop) (omega arith)

pub cells_length : (at : ℕ) (piece cells : List Cell) → length (with_cells at piece cells) ≡ length cells
cells_length at piece cells =
    elim (is_within at (16 * length piece) cells && is_aligned at) as (λ b. (is_within at (16 * length piece) cells && is_aligned at) ≡ b → length (cond b (overlaid (at / 16) piece cells) cells) ≡ length cells) [
      | true ↦ λ q. overlaid_length (at / 16) piece cells (omega (arith, within_le (at + 16 * length piece) (16 * length cells) (is_aligned at) q))
      | false ↦ λ q. refl
    ] refl

pub resized_length : (len : ℕ) (cells : List Cell) → length (resized len cells) ≡ len / 16
resized_length len cells = simp (length-append, length-take, length-replicate) (omega arith)
