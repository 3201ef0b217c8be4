-- What is put into a space, and lies inside it, is what the space reads there.
use Rattle.std.proofs.Common.{◌*◌, ◌++◌, ◌+◌, ◌-◌, ◌/◌, ◌<◌, ◌==◌, ◌∙◌, ◌∷◌, ◌≡◌, ◌≤◌, Bool, List, [], ap, arith, cond, drop, false, get_or, length, length-append, refl, subst, sym, take, true, ℕ}
use Rattle.std.proofs.Math.Seq.{drop-append_seam, take-append_seam}
use Rattle.std.proofs.lemmas.Bool.Decides.{nat_tests}
use Rattle.std.proofs.lemmas.Bool.{and_from, and_parts}
use Rattle.std.proofs.lemmas.List.Elements.{All-head, All-tail}
use Rattle.std.proofs.lemmas.List.{get_or-set_same, length-drop, length-set, length-take}
use Rattle.std.proofs.lemmas.Option.{slice_get-get_or}
use Rattle.std.specs.Option.{option_map, unwrap_or}
use Rattle.std.specs.Prelude.{◌&&◌, All, None, Option, Some, is_some, nat_le, replicate, slice_get, slice_set}
use Rattle.s38_base.specs.Pointers.{is_storable, start_of, target_of}
use Rattle.s38_base.specs.declared.attr.Attr.TheVariants as attrs
use Rattle.s38_base.specs.declared.attr.Attr.{Attr}
use Rattle.s38_base.specs.declared.pointer.Pointer.TheVariants as pointers
use Rattle.s38_base.specs.declared.pointer.Pointer.{Pointer}
use Rattle.s38_code.specs.declared.operand.Operand.TheVariants as operands
use Rattle.s38_code.specs.declared.reply.Val.TheVariants as vals
use Rattle.s38_memory.proofs.Meaning.{bytes_in-written, written-touched}
use Rattle.s38_memory.specs.Cell.{IsCell, bytes_of_cell}
use Rattle.s38_memory.specs.Image.{fields, image}
use Rattle.s38_memory.specs.Tagged.{IsBytes, bytes_in, cells_written, is_aligned, is_within, overlaid, pointer_in_cell, unless_refused}
use Rattle.s38_memory.specs.declared.cell.Cell.TheVariants.{Bytes, Tagged}
use Rattle.s38_memory.specs.declared.cell.Cell.{Cell}
use Rattle.s38_memory.specs.declared.fault.MemoryFault.TheVariants.{Alignment, Bounds}
use Rattle.s38_rules.proofs.ChargeLaws.{object_changed}
use Rattle.s38_rules.specs.state.Cells.{bytes_there, cells_there, found_pointer, is_cell, pointer_there, with_bytes, with_cells, with_pointer}
use Rattle.s38_rules.specs.state.Held.{Held, object}
use Rattle.s38_rules.specs.ask.Operands.{cells_put}
use Rattle.s38_rules.specs.ask.Receivers.{put_value}
use Rattle.s38_rules.specs.state.Parts.{over, over_object, part_at, part_in, space_of, space_part}
use Rattle.s38_rules.specs.state.PartsAt.{cells_at, on_space}
use Rattle.s38_rules.specs.declared.object.Body.TheVariants as bodies
use Rattle.s38_rules.specs.declared.object.Body.{Body}
use Rattle.s38_rules.specs.declared.object.Object.{Object}
use Rattle.s38_laws_bounds.specs.Inside.{has_bytes, has_cells}
use Rattle.s38_laws_bounds.specs.Placed.{has_value}

-- ---- the cells of a space that is there

self : (n : ℕ) → (n == n) ≡ true
self n = grind (arith, nat_tests)

cells_changed : (h : Held) (n : ℕ) (f : List Cell → List Cell) → is_some (part_at space_part h n) ≡ true → cells_at (on_space h n f) n ≡ f (cells_at h n)
cells_changed h n f there =
    ap (λ (x : Option Object). unwrap_or (part_in space_part x) []) (object_changed n n (over_object space_part f) h.objects (λ o. refl)) ∙ by (n == n) (self n) (object h n) there
  where
    body : (b : Body) → is_some (space_of b) ≡ true → unwrap_or (space_of (over space_part f b (space_of b))) [] ≡ f (unwrap_or (space_of b) [])
    body (bodies.Space cells) there = refl
    body _ there = cc

    by : (b : Bool) → b ≡ true → (x : Option Object) → is_some (part_in space_part x) ≡ true
        → unwrap_or (part_in space_part (cond b (option_map (over_object space_part f) x) x)) [] ≡ f (unwrap_or (part_in space_part x) [])
    by true own None there = cc
    by true own (Some o) there = body o.body there
    by false own x there = cc

-- a piece over a list is what is read there
laid : {X : Type 0} (at : ℕ) (piece xs : List X) → at + length piece ≤ length xs → take (length piece) (drop at (overlaid at piece xs)) ≡ piece
laid at piece xs few =
    let front = take at xs in
    let behind = drop (at + length piece) xs in
    let same : length front ≡ at = omega (arith, length-take at xs, few) in
    ap (λ i. take (length piece) (drop i (front ++ (piece ++ behind)))) (sym same) ∙ ap (λ l. take (length piece) l) (drop-append_seam front (piece ++ behind))
    ∙ take-append_seam piece behind

-- ---- bytes

length-image : (pointer : Pointer) → length (image pointer) ≡ 16
unfolding fields
length-image (pointers.System object rights) = refl
length-image (pointers.Space object offset) = refl
length-image (pointers.Item object offset (attrs.Packed digits fraction)) = refl
length-image (pointers.Item object offset (attrs.Zoned digits fraction)) = refl
length-image (pointers.Item object offset (attrs.Binary size)) = refl
length-image (pointers.Item object offset (attrs.Chars len)) = refl
length-image (pointers.Item object offset _) = refl

cell_length : (cell : Cell) → IsCell cell → length (bytes_of_cell cell) ≡ 16
cell_length (Bytes bytes) whole = whole
cell_length (Tagged pointer) whole = length-image pointer

all_length : (cells : List Cell) → All IsCell cells → length (bytes_in cells) ≡ 16 * length cells
all_length [] whole = refl
all_length (c ∷ cs) whole =
    omega (arith, length-append (bytes_of_cell c) (bytes_in cs), cell_length c (All-head IsCell c cs whole), all_length cs (All-tail IsCell c cs whole))

written_length : (at : ℕ) (piece : List ℕ) (cells : List Cell) → length (cells_written at piece cells) ≡ length cells
written_length at piece [] = refl
written_length at piece (c ∷ cs) = omega (arith, written_length (at - 16) (drop (16 - at) piece) cs)

still_within : (at len : ℕ) (old new : List Cell) → length new ≡ length old → is_within at len old ≡ true → is_within at len new ≡ true
still_within at len old new same is = subst (λ n. nat_le (at + len) (16 * n) ≡ true) (sym same) is

fits_there : (at len count : ℕ) → nat_le (at + len) (16 * count) ≡ true → at + len ≤ 16 * count
fits_there at len count is = grind (arith, nat_tests)

written_read : (at : ℕ) (bytes : List ℕ) (cells : List Cell) → is_within at (length bytes) cells ≡ true → All IsCell cells → bytes_there (cells_written at bytes cells) at (length bytes) ≡ bytes
written_read at bytes cells is whole =
    let len = length bytes in
    let new = cells_written at bytes cells in
    let fits = fits_there at len (length cells) is in
    let all = all_length cells whole in
    ap (λ b. cond b (take len (drop at (bytes_in new))) []) (still_within at len cells new (written_length at bytes cells) is)
    ∙ ap (λ l. take len (drop at l)) (bytes_in-written at bytes cells whole fits) ∙ laid at bytes (bytes_in cells) (omega (arith, fits, all))

pub bytes_read : (h : Held) (n at : ℕ) (bytes : List ℕ) → has_value h n at (vals.Bytes bytes) ≡ true → All IsCell (cells_at h n)
    → bytes_there (cells_at (put_value h n at (vals.Bytes bytes)) n) at (length bytes) ≡ bytes
bytes_read h n at bytes inside whole =
    let cells = cells_at h n in
    let both = and_parts (is_some (part_at space_part h n)) (is_within at (length bytes) cells) inside in
    let new : cells_at (put_value h n at (vals.Bytes bytes)) n ≡ cells_written at bytes cells =
    cells_changed h n (with_bytes at bytes) both.0 ∙ ap (λ b. cond b (cells_written at bytes cells) cells) both.1 in
    ap (λ (l : List Cell). bytes_there l at (length bytes)) new ∙ written_read at bytes cells both.1 whole

-- ---- pointers

cell_read : (within aligned : Bool) (cell : Option Cell) (p : Option Pointer) → within ≡ true → aligned ≡ true → found_pointer (pointer_in_cell cell) ≡ p
    → found_pointer (unless_refused (cond within (cond aligned None (Some Alignment)) (Some Bounds)) (pointer_in_cell cell)) ≡ p
cell_read true true cell p one two is = is
cell_read true false cell p one two is = cc
cell_read false aligned cell p one two is = cc

there_read : (new : List Cell) (at : ℕ) (p : Option Pointer) → is_within at 16 new ≡ true → is_aligned at ≡ true → found_pointer (pointer_in_cell (slice_get new (at / 16))) ≡ p → pointer_there new at ≡ p
there_read new at p within aligned is = cell_read (is_within at 16 new) (is_aligned at) (slice_get new (at / 16)) p within aligned is

cell_there : (at count : ℕ) → nat_le (at + 16) (16 * count) ≡ true → at / 16 < count
cell_there at count is = let few = fits_there at 16 count is in omega (arith, few)

tagged_read : (at : ℕ) (p : Pointer) (cells : List Cell) → is_within at 16 cells ≡ true → is_aligned at ≡ true → pointer_there (slice_set cells (at / 16) (Tagged p)) at ≡ Some p
tagged_read at p cells within aligned =
    let k = at / 16 in
    let new = slice_set cells k (Tagged p) in
    let size = length-set cells k (Tagged p) in
    let low : k < length cells = cell_there at (length cells) within in
    let found : slice_get new k ≡ Some (Tagged p) =
    slice_get-get_or new k (Tagged p) (omega (arith, low, size)) ∙ ap (λ (c : Cell). Some c) (get_or-set_same cells k (Tagged p) (Tagged p) low) in
    there_read new at (Some p) (still_within at 16 cells new size within) aligned (ap (λ (c : Option Cell). found_pointer (pointer_in_cell c)) found)

bytes_none : (cell : Cell) → IsBytes cell → found_pointer (pointer_in_cell (Some cell)) ≡ None
bytes_none (Bytes bytes) is = refl
bytes_none (Tagged p) is = absurd is

abbrev no_pointer : List ℕ
no_pointer = replicate 16 0

untagged_read : (at : ℕ) (cells : List Cell) → is_within at 16 cells ≡ true → is_aligned at ≡ true → pointer_there (cells_written at no_pointer cells) at ≡ None
untagged_read at cells within aligned =
    let k = at / 16 in
    let new = cells_written at no_pointer cells in
    let size = written_length at no_pointer cells in
    let low : k < length cells = cell_there at (length cells) within in
    let d : Cell = Bytes [] in
    let bytes = written-touched at no_pointer cells k d low (omega arith, omega arith, omega arith) in
    there_read new at None (still_within at 16 cells new size within) aligned
    (ap (λ (c : Option Cell). found_pointer (pointer_in_cell c)) (slice_get-get_or new k d (omega (arith, low, size))) ∙ bytes_none (get_or new k d) bytes)

pub pointer_read : (h : Held) (n at : ℕ) (p : Option Pointer) → has_value h n at (vals.Ptr p) ≡ true → pointer_there (cells_at (put_value h n at (vals.Ptr p)) n) at ≡ p
pointer_read h n at None inside =
    let cells = cells_at h n in
    let own = and_parts (has_bytes h n at 16) (is_aligned at) (and_parts (has_cells h n at 16) true inside).0 in
    let both = and_parts (is_some (part_at space_part h n)) (is_within at 16 cells) own.0 in
    let new : cells_at (put_value h n at (vals.Ptr None)) n ≡ cells_written at no_pointer cells =
    cells_changed h n (with_pointer at None) both.0 ∙ ap (λ b. cond b (cells_written at no_pointer cells) cells) both.1 in
    ap (λ (l : List Cell). pointer_there l at) new ∙ untagged_read at cells both.1 own.1
pointer_read h n at (Some p) inside =
    let cells = cells_at h n in
    let held = and_parts (has_cells h n at 16) (is_storable p) inside in
    let own = and_parts (has_bytes h n at 16) (is_aligned at) held.0 in
    let both = and_parts (is_some (part_at space_part h n)) (is_within at 16 cells) own.0 in
    let may : (is_storable p && is_cell at cells) ≡ true = and_from (is_storable p) (is_cell at cells) held.1 (and_from (is_within at 16 cells) (is_aligned at) both.1 own.1) in
    let new : cells_at (put_value h n at (vals.Ptr (Some p))) n ≡ slice_set cells (at / 16) (Tagged p) =
    cells_changed h n (with_pointer at (Some p)) both.0 ∙ ap (λ b. cond b (slice_set cells (at / 16) (Tagged p)) cells) may in
    ap (λ (l : List Cell). pointer_there l at) new ∙ tagged_read at p cells both.1 own.1

-- ---- cells

few_cells : (at piece count : ℕ) → nat_le (at + 16 * piece) (16 * count) ≡ true → at / 16 + piece ≤ count
few_cells at piece count is = let few = fits_there at (16 * piece) count is in omega (arith, few)

overlaid_length : (k : ℕ) (piece cells : List Cell) → k + length piece ≤ length cells → length (overlaid k piece cells) ≡ length cells
overlaid_length k piece cells few =
    let behind = drop (k + length piece) cells in
    omega (arith, few, length-append (take k cells) (piece ++ behind), length-append piece behind, length-take k cells, length-drop (k + length piece) cells)

whole_cells : (n : ℕ) → 16 * n / 16 ≡ n
whole_cells n = omega arith

pub cells_read : (h : Held) (base : Option Pointer) (offset : ℕ) (attr : Attr) (piece : List Cell) → has_cells h (target_of base) (start_of base offset) (16 * length piece) ≡ true
    → cells_there (cells_at (cells_put h (Some (operands.InSpace base offset attr)) piece) (target_of base)) (start_of base offset) (16 * length piece) ≡ piece
cells_read h base offset attr piece inside =
    let n = target_of base in
    let at = start_of base offset in
    let cells = cells_at h n in
    let size = 16 * length piece in
    let own = and_parts (has_bytes h n at size) (is_aligned at) inside in
    let both = and_parts (is_some (part_at space_part h n)) (is_within at size cells) own.0 in
    let k = at / 16 in
    let made = overlaid k piece cells in
    let few = few_cells at (length piece) (length cells) both.1 in
    let may : (is_within at size cells && is_aligned at) ≡ true = and_from (is_within at size cells) (is_aligned at) both.1 own.1 in
    let new : cells_at (on_space h n (with_cells at piece)) n ≡ made = cells_changed h n (with_cells at piece) both.0 ∙ ap (λ b. cond b made cells) may in
    let there : (is_within at size made && is_aligned at) ≡ true =
    and_from (is_within at size made) (is_aligned at) (still_within at size cells made (overlaid_length k piece cells few) both.1) own.1 in
    ap (λ (l : List Cell). cells_there l at size) new ∙ ap (λ b. cond b (take (size / 16) (drop k made)) []) there
    ∙ ap (λ i. take i (drop k made)) (whole_cells (length piece)) ∙ laid k piece cells few
