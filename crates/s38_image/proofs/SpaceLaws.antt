-- The cells of a space are read as they are printed, with the tags of their pages.
use Rattle.std.proofs.Common.{◌≡◌, ℕ, ◌*◌, ◌/◌, ◌%◌, ◌<◌, Bool, true, false, List, [], ◌∷◌, ◌++◌, length, map, take, Some, refl, sym, ap, subst, ◌∙◌, arith}
use Rattle.std.specs.Prelude.{◌&&◌}
use Rattle.std.proofs.lemmas.Bool.{eqb-true, ltb-true}
use Rattle.std.proofs.lemmas.List.{length-append}
use Rattle.byteorder.specs.Endian.{big_bytes}
use Rattle.s38_image.specs.Fitting.{FitsSpace}
use Rattle.s38_base.specs.declared.id.ObjNum.{ObjNum}
use Rattle.s38_base.specs.declared.attr.Attr.TheVariants as attrs
use Rattle.s38_base.specs.declared.pointer.Pointer.{Pointer}
use Rattle.s38_base.specs.declared.pointer.Pointer.TheVariants as pointers
use Rattle.s38_codec.specs.Codec.{AreBytes, Codec, IsCodec, byte, bytes, fits_each, only, print_each, whole}
use Rattle.s38_codec.specs.Formats.{IsSpelling, u32, u64}
use Rattle.s38_codec.proofs.CodecLaws.{AllCodecs, and_true, both_true, bytes_is, each_is, only_is, under_is, whole_again, whole_exact}
use Rattle.s38_image.proofs.ScalarLaws.{pointer_is, sixteen, three_bytes}
use Rattle.s38_image.specs.Scalars.{is_pointer_image, pointer, pointer_bytes}
use Rattle.s38_image.specs.Spaces.{bytes_held, cell, cell_pointer, cells_by, flags_in, is_some_cell, plain_part, space_form, tagged_part}
use Rattle.s38_memory.specs.Cell.{bytes_of_cell}
use Rattle.s38_memory.specs.Image.{fields, image}
use Rattle.s38_memory.specs.Tagged.{bytes_in}
use Rattle.s38_memory.specs.declared.cell.Cell.{Cell}
use Rattle.s38_memory.specs.declared.cell.Cell.TheVariants as cells

-- ---- a pointer is printed as its image

high_byte : (len : ℕ) → len / 256 < 256 → len / 256 % 256 ≡ len / 256
high_byte len lt = omega arith

two_bytes : (len : ℕ) → len / 256 < 256 → len / 256 ∷ len % 256 ∷ [] ≡ big_bytes 2 len
two_bytes len lt = ap (λ (n : ℕ). n ∷ len % 256 ∷ []) (sym (high_byte len lt))

abbrev tail : ℕ → ℕ → List ℕ
tail offset object = big_bytes 4 offset ++ big_bytes 8 object

-- the first byte of a length is a byte where the pointer fits
length_byte : (object : ObjNum) (offset len : ℕ) → pointer.fits (pointers.Item object offset (attrs.Chars len)) ≡ true → len / 256 < 256
length_byte object offset len h =
    let p = pointer_bytes (pointers.Item object offset (attrs.Chars len)) in
    let f = both_true (is_pointer_image p) (sixteen.fits p) h in
    let g = both_true (byte.fits 3) (three_bytes.fits p.1.0 && (u32.fits offset && u64.fits object.0)) f.1 in
    let d = both_true (three_bytes.fits p.1.0) (u32.fits offset && u64.fits object.0) g.1 in
    let e = both_true (byte.fits 4) (byte.fits (len / 256) && byte.fits (len % 256)) d.0 in
    ltb-true (len / 256) 256 (both_true (byte.fits (len / 256)) (byte.fits (len % 256)) e.1).0

pub pointer_image : (p : Pointer) → pointer.fits p ≡ true → pointer.print p ≡ image p
unfolding fields
pointer_image (pointers.System object rights) h = refl
pointer_image (pointers.Space object offset) h = refl
pointer_image (pointers.Item object offset (attrs.Packed digits fraction)) h = refl
pointer_image (pointers.Item object offset (attrs.Zoned digits fraction)) h = refl
pointer_image (pointers.Item object offset (attrs.Binary size)) h = refl
pointer_image (pointers.Item object offset (attrs.Chars len)) h =
    ap (λ (xs : List ℕ). 3 ∷ 4 ∷ (xs ++ tail offset object.0)) (two_bytes len (length_byte object offset len h))
pointer_image (pointers.Item object offset attrs.Pointer) h = refl

-- ---- the cells

tagged_back : (c : Cell) (p : Pointer) → cell_pointer c ≡ Some p → c ≡ cells.Tagged p
tagged_back (cells.Tagged q) p h = cc
tagged_back (cells.Bytes xs) p h = absurd cc

plain_back : (c : Cell) (xs : List ℕ) → bytes_held c ≡ Some xs → c ≡ cells.Bytes xs
plain_back (cells.Tagged q) xs h = absurd cc
plain_back (cells.Bytes ys) xs h = cc

pub cell_is : (flag : Bool) → IsCodec Cell (cell flag)
cell_is true = under_is tagged_part pointer (record { got = λ x. refl; back = tagged_back }) pointer_is
cell_is false = under_is plain_part (bytes 16) (record { got = λ x. refl; back = plain_back }) (bytes_is 16)

all_cells : (flags : List Bool) → AllCodecs (map cell flags)
unfolding AllCodecs
all_cells [] = tt
all_cells (t ∷ ts) = (cell_is t, all_cells ts)

pub cells_is : (flags : List Bool) → IsCodec (List Cell) (cells_by flags)
cells_is flags = each_is (map cell flags) (all_cells flags)

-- a cell that fits is printed as it reads
cell_bytes : (flag : Bool) (c : Cell) → (cell flag).fits c ≡ true → (cell flag).print c ≡ bytes_of_cell c
cell_bytes true (cells.Tagged p) h = pointer_image p h
cell_bytes true (cells.Bytes xs) h = absurd cc
cell_bytes false (cells.Tagged p) h = absurd cc
cell_bytes false (cells.Bytes xs) h = refl

pub cells_bytes : (flags : List Bool) (cs : List Cell) → (cells_by flags).fits cs ≡ true → (cells_by flags).print cs ≡ bytes_in cs
unfolding print_each fits_each
cells_bytes [] [] h = refl
cells_bytes [] (c ∷ cs) h = absurd cc
cells_bytes (f ∷ fs) [] h = absurd cc
cells_bytes (f ∷ fs) (c ∷ cs) h =
    let g = both_true ((cell f).fits c) (fits_each (map cell fs) cs) h in
    let one = cell_bytes f c g.0 in
    let rest = cells_bytes fs cs g.1 in
    cc

-- ---- a space

pub length_pointer : (p : Pointer) → length (image p) ≡ 16
unfolding fields
length_pointer (pointers.System object rights) = refl
length_pointer (pointers.Space object offset) = refl
length_pointer (pointers.Item object offset (attrs.Packed digits fraction)) = refl
length_pointer (pointers.Item object offset (attrs.Zoned digits fraction)) = refl
length_pointer (pointers.Item object offset (attrs.Binary size)) = refl
length_pointer (pointers.Item object offset (attrs.Chars len)) = refl
length_pointer (pointers.Item object offset attrs.Pointer) = refl

length_cell : (flag : Bool) (c : Cell) → (cell flag).fits c ≡ true → length (bytes_of_cell c) ≡ 16
length_cell true (cells.Tagged p) h = length_pointer p
length_cell true (cells.Bytes xs) h = absurd cc
length_cell false (cells.Tagged p) h = absurd cc
length_cell false (cells.Bytes xs) h = eqb-true (length xs) 16 h

pub length_cells : (flags : List Bool) (cs : List Cell) → (cells_by flags).fits cs ≡ true → length (bytes_in cs) ≡ 16 * length cs
unfolding fits_each
length_cells [] [] h = refl
length_cells [] (c ∷ cs) h = absurd cc
length_cells (f ∷ fs) [] h = absurd cc
length_cells (f ∷ fs) (c ∷ cs) h =
    let g = both_true ((cell f).fits c) (fits_each (map cell fs) cs) h in
    omega (arith, length_cell f c g.0, length_cells fs cs g.1, length-append (bytes_of_cell c) (bytes_in cs))

abbrev space_codec : List Bool → Codec (List Cell)
space_codec flags = only is_some_cell (cells_by flags)

space_codec_is : (flags : List Bool) → IsCodec (List Cell) (space_codec flags)
space_codec_is flags = only_is is_some_cell (cells_by flags) (cells_is flags)

sixteenth : (n m : ℕ) → n ≡ 16 * m → n / 16 ≡ m
sixteenth n m e = omega arith

space_again : (tags : List ℕ) (cs : List Cell) → FitsSpace tags cs → (space_form tags).read (bytes_in cs) ≡ Some cs
space_again tags cs h =
    let flags = take (length cs) (flags_in tags) in
    let count : length (bytes_in cs) / 16 ≡ length cs = sixteenth (length (bytes_in cs)) (length cs) (length_cells flags cs h.cells) in
    let fits : (space_codec flags).fits cs ≡ true = and_true (is_some_cell cs) ((cells_by flags).fits cs) h.some h.cells in
    ap (λ (n : ℕ). whole (space_codec (take n (flags_in tags))) (bytes_in cs)) count
    ∙ ap (whole (space_codec flags)) (sym (cells_bytes flags cs h.cells))
    ∙ whole_again (space_codec flags) (space_codec_is flags) cs fits

space_exact : (tags bs : List ℕ) (cs : List Cell) → AreBytes bs → (space_form tags).read bs ≡ Some cs → (bs ≡ bytes_in cs) × FitsSpace tags cs
space_exact tags bs cs fine e =
    let flags = take (length bs / 16) (flags_in tags) in
    let w = whole_exact (space_codec flags) (space_codec_is flags) bs cs fine e in
    let f = both_true (is_some_cell cs) ((cells_by flags).fits cs) w.1 in
    let printed : bs ≡ bytes_in cs = w.0 ∙ cells_bytes flags cs f.1 in
    let count : length bs / 16 ≡ length cs = sixteenth (length bs) (length cs) (ap length printed ∙ length_cells flags cs f.1) in
    (printed, record { some = f.0; cells = subst (λ (n : ℕ). (cells_by (take n (flags_in tags))).fits cs ≡ true) count f.1 })

pub space_is : (tags : List ℕ) → IsSpelling (List Cell) (space_form tags) (FitsSpace tags)
space_is tags = record { again = space_again tags; exact = space_exact tags }
