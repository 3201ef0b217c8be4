-- Every cell reads as sixteen bytes.
use Rattle.std.proofs.Common.{◌≡◌, ℕ, ◌+◌, ◌*◌, ◌-◌, ◌≤◌, List, [], ◌∷◌, ◌++◌, length, take, drop, All, refl, arith, length-append}
use Rattle.std.proofs.lemmas.List.{length-take-le, length-drop}
use Rattle.std.proofs.lemmas.List.Elements.{All-head, All-tail}
use Rattle.s38_memory.specs.Tagged.{bytes_in}
use Rattle.s38_base.specs.declared.attr.Attr.TheVariants.{Packed, Zoned, Binary, Chars}
use Rattle.s38_base.specs.declared.pointer.Pointer.{Pointer}
use Rattle.s38_base.specs.declared.pointer.Pointer.TheVariants.{System, Space, Item}
use Rattle.s38_memory.specs.declared.cell.Cell.{Cell}
use Rattle.s38_memory.specs.declared.cell.Cell.TheVariants.{Bytes, Tagged}
use Rattle.s38_memory.specs.Cell.{IsCell, bytes_of_cell}
use Rattle.s38_memory.specs.Image.{fields, image}

length-image : (p : Pointer) → length (image p) ≡ 16
unfolding fields
length-image (System object rights) = refl
length-image (Space object offset) = refl
length-image (Item object offset (Packed digits fraction)) = refl
length-image (Item object offset (Zoned digits fraction)) = refl
length-image (Item object offset (Binary size)) = refl
length-image (Item object offset (Chars len)) = refl
length-image (Item object offset _) = refl

pub length-bytes_of : (cell : Cell) → IsCell cell → length (bytes_of_cell cell) ≡ 16
length-bytes_of (Bytes bytes) h = h
length-bytes_of (Tagged pointer) h = length-image pointer

pub length-bytes_in : (cells : List Cell) → All IsCell cells → length (bytes_in cells) ≡ 16 * length cells
length-bytes_in [] all = refl
length-bytes_in (c ∷ cs) all =
    let first : length (bytes_of_cell c) ≡ 16 = length-bytes_of c (All-head IsCell c cs all) in
    let rest : length (bytes_in cs) ≡ 16 * length cs = length-bytes_in cs (All-tail IsCell c cs all) in
    omega (arith, length-append (bytes_of_cell c) (bytes_in cs), first, rest)

-- a piece within the cells reads as so many bytes
pub length-piece : (cells : List Cell) (at len : ℕ) → All IsCell cells → at + len ≤ 16 * length cells
    → length (take len (drop at (bytes_in cells))) ≡ len
length-piece cells at len all fits =
    let whole : length (bytes_in cells) ≡ 16 * length cells = length-bytes_in cells all in
    let behind : length (drop at (bytes_in cells)) ≡ length (bytes_in cells) - at = length-drop at (bytes_in cells) in
    length-take-le len (drop at (bytes_in cells)) (omega (arith, whole, behind, fits))
