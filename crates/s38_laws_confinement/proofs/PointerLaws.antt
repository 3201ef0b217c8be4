-- What holds of every pointer that lies somewhere holds of what is found and read there, of what lies there once
-- something of which it holds was put, and of what is computed.
use Rattle.std.proofs.Common.{◌*◌, ◌++◌, ◌+◌, ◌-◌, ◌/◌, ◌∷◌, Bool, List, [], drop, length, suc, take, zero, ℕ}
use Rattle.std.proofs.lemmas.Bool.{cond_both}
use Rattle.std.proofs.lemmas.List.Elements.{All-append, All-cons, All-drop, All-head, All-nil, All-replicate, All-set, All-tail, All-take}
use Rattle.std.specs.Option.{unwrap_or}
use Rattle.std.specs.Prelude.{◌&&◌, All, Err, IfSome, None, Ok, Option, Result, Some, find, replicate, slice_get, slice_set, ℤ}
use Rattle.s38_base.specs.Pointers.{is_storable, start_of, target_of}
use Rattle.s38_base.specs.Attributes.{is_pointer_attr, length_of}
use Rattle.s38_base.specs.declared.attr.Attr.{Attr}
use Rattle.s38_base.specs.declared.exception.Exception.{Exception}
use Rattle.s38_base.specs.declared.id.ObjNum.{ObjNum}
use Rattle.s38_base.specs.declared.op.Op.{Op}
use Rattle.s38_base.specs.declared.pointer.Pointer.TheVariants as pointers
use Rattle.s38_base.specs.declared.pointer.Pointer.{Pointer}
use Rattle.s38_code.specs.declared.operand.Operand.TheVariants as operands
use Rattle.s38_code.specs.declared.operand.Operand.{Operand}
use Rattle.s38_compute.specs.Compute.{pointer_moved, pointing}
use Rattle.s38_compute.specs.Computed.{as_branch, as_bytes, as_number, as_pointer, bytes_given, computed, computes_number, computes_string, is_branch, moves_pointer, number_given, pointer_given, test_given, value_in}
use Rattle.s38_compute.specs.Readings.{Readings}
use Rattle.s38_compute.specs.declared.given.Given.{Given}
use Rattle.s38_memory.specs.Tagged.{cell_with_piece, cells_fault, cells_written, is_aligned, is_within, overlaid, pointer_in_cell as pointer_read, resized, unless_refused}
use Rattle.s38_memory.specs.declared.cell.Cell.TheVariants.{Bytes, Tagged}
use Rattle.s38_memory.specs.declared.cell.Cell.{Cell}
use Rattle.s38_memory.specs.declared.fault.MemoryFault.{MemoryFault}
use Rattle.s38_rules.specs.state.Cells.{cell_for, cells_there, first_pointer, found_pointer, is_cell, pointer_there, with_bytes, with_cells, with_pointer}
use Rattle.s38_rules.specs.state.Held.{Held, change_in, has_number, object}
use Rattle.s38_rules.specs.ask.Operands.{cells_of, place, pointer_at, pointer_of, source_cells}
use Rattle.s38_rules.specs.state.Parts.{part_in, space_of, space_part}
use Rattle.s38_rules.specs.state.PartsAt.{cells_at}
use Rattle.s38_rules.specs.declared.object.Body.TheVariants as bodies
use Rattle.s38_rules.specs.declared.object.Body.{Body}
use Rattle.s38_rules.specs.declared.object.Object.{Object}
use Rattle.s38_laws_confinement.specs.OfPointers.{IsClosed, OfBody, OfCell, OfCells, OfObject, OfObjects, OfOperand, OfPointer, OfVal}

-- ---- what is found among things of which something holds

find_of : {X : Type 0} (P : X → Type 0) (test : X → Bool) (xs : List X) → All P xs → IfSome (find test xs) P
find_of P test [] all = tt
find_of P test (x ∷ xs) all =
    cond_both (test x) (Some x) (find test xs) (λ r. IfSome r P) (λ yes. All-head P x xs all) (λ no. find_of P test xs (All-tail P x xs all))

pub get_of : {X : Type 0} (P : X → Type 0) (xs : List X) (k : ℕ) → All P xs → IfSome (slice_get xs k) P
get_of P [] k all = tt
get_of P (x ∷ xs) zero all = All-head P x xs all
get_of P (x ∷ xs) (suc k) all = get_of P xs k (All-tail P x xs all)

-- ---- what is read

body_cells : (q : Pointer → Type 0) (b : Body) → OfBody q b → OfCells q (unwrap_or (space_of b) [])
body_cells q (bodies.Space cells) of = of
body_cells q _ of = All-nil (OfCell q)

cells_in_object : (q : Pointer → Type 0) (r : Option Object) → IfSome r (OfObject q) → OfCells q (unwrap_or (part_in space_part r) [])
cells_in_object q None of = All-nil (OfCell q)
cells_in_object q (Some o) of = body_cells q o.body of

-- the cells of a space
cells_kept : (q : Pointer → Type 0) (h : Held) (n : ℕ) → OfObjects q h.objects → OfCells q (cells_at h n)
cells_kept q h n of = cells_in_object q (object h n) (find_of (OfObject q) (has_number n) h.objects of)

read_of : (q : Pointer → Type 0) (cell : Option Cell) → IfSome cell (OfCell q) → OfPointer q (found_pointer (pointer_read cell))
read_of q (Some (Tagged p)) of = of
read_of q _ of = tt

unless_of : (q : Pointer → Type 0) (fault : Option MemoryFault) (r : Result Pointer MemoryFault) → OfPointer q (found_pointer r) → OfPointer q (found_pointer (unless_refused fault r))
unless_of q None r of = of
unless_of q (Some fault) r of = tt

there_of : (q : Pointer → Type 0) (cells : List Cell) (at : ℕ) → OfCells q cells → OfPointer q (pointer_there cells at)
there_of q cells at of =
    unless_of q (cells_fault at 16 cells) (pointer_read (slice_get cells (at / 16)))
    (read_of q (slice_get cells (at / 16)) (get_of (OfCell q) cells (at / 16) of))

pointer_of_operand : (q : Pointer → Type 0) (h : Held) (x : Option Operand) → OfObjects q h.objects → IfSome x (OfOperand q) → OfPointer q (pointer_of h x)
pointer_of_operand q h (Some (operands.Ptr p)) of asked = asked
pointer_of_operand q h (Some (operands.InSpace base offset attr)) of asked =
    cond_both (is_pointer_attr attr) (pointer_there (cells_at h (target_of base)) (start_of base offset)) None (OfPointer q)
    (λ yes. there_of q (cells_at h (target_of base)) (start_of base offset) (cells_kept q h (target_of base) of)) (λ no. tt)
pointer_of_operand q h _ of asked = tt

-- the pointer that is used
pub pointer_kept : (q : Pointer → Type 0) (h : Held) (ops : List Operand) (k : ℕ) → OfObjects q h.objects → All (OfOperand q) ops → OfPointer q (pointer_at h ops k)
pointer_kept q h ops k of asked = pointer_of_operand q h (place ops k) of (get_of (OfOperand q) ops (k - 1) asked)

cell_of_pointer : (q : Pointer → Type 0) (p : Option Pointer) → OfPointer q p → OfCell q (cell_for p)
cell_of_pointer q None of = tt
cell_of_pointer q (Some p) of = cond_both (is_storable p) (Tagged p) (Bytes (replicate 16 0)) (OfCell q) (λ yes. of) (λ no. tt)

piece_of : (q : Pointer → Type 0) (cells : List Cell) (at len : ℕ) → OfCells q cells → OfCells q (cells_there cells at len)
piece_of q cells at len of =
    cond_both (is_within at len cells && is_aligned at) (take (len / 16) (drop (at / 16) cells)) [] (OfCells q)
    (λ yes. All-take (OfCell q) (len / 16) (drop (at / 16) cells) (All-drop (OfCell q) (at / 16) cells of)) (λ no. All-nil (OfCell q))

cells_of_operand : (q : Pointer → Type 0) (h : Held) (x : Option Operand) → OfObjects q h.objects → IfSome x (OfOperand q) → OfCells q (cells_of h x)
cells_of_operand q h (Some (operands.Ptr p)) of asked = All-cons (OfCell q) (cell_for p) [] (cell_of_pointer q p asked) (All-nil (OfCell q))
cells_of_operand q h (Some (operands.InSpace base offset attr)) of asked =
    piece_of q (cells_at h (target_of base)) (start_of base offset) (length_of attr) (cells_kept q h (target_of base) of)
cells_of_operand q h _ of asked = All-nil (OfCell q)

-- the cells that are read
pub source_kept : (q : Pointer → Type 0) (h : Held) (ops : List Operand) (k : ℕ) → OfObjects q h.objects → All (OfOperand q) ops → OfCells q (source_cells h ops k)
source_kept q h ops k of asked = cells_of_operand q h (place ops k) of (get_of (OfOperand q) ops (k - 1) asked)

pub first_kept : (q : Pointer → Type 0) (cells : List Cell) → OfCells q cells → OfPointer q (first_pointer cells)
first_kept q (Tagged p ∷ cells) of = All-head (OfCell q) (Tagged p) cells of
first_kept q _ of = tt

-- ---- what is put

overwritten_of : (q : Pointer → Type 0) (at : ℕ) (piece : List ℕ) (cell : Cell) → OfCell q cell → OfCell q (cell_with_piece at piece cell)
overwritten_of q at [] cell of = of
overwritten_of q at (b ∷ bs) cell of = tt

written_of : (q : Pointer → Type 0) (at : ℕ) (piece : List ℕ) (cells : List Cell) → OfCells q cells → OfCells q (cells_written at piece cells)
written_of q at piece [] of = of
written_of q at piece (cell ∷ cells) of =
    All-cons (OfCell q) (cell_with_piece at (take (16 - at) piece) cell) (cells_written (at - 16) (drop (16 - at) piece) cells)
    (overwritten_of q at (take (16 - at) piece) cell (All-head (OfCell q) cell cells of))
    (written_of q (at - 16) (drop (16 - at) piece) cells (All-tail (OfCell q) cell cells of))

pub bytes_put : (q : Pointer → Type 0) (at : ℕ) (bytes : List ℕ) (cells : List Cell) → OfCells q cells → OfCells q (with_bytes at bytes cells)
bytes_put q at bytes cells of =
    cond_both (is_within at (length bytes) cells) (cells_written at bytes cells) cells (OfCells q) (λ yes. written_of q at bytes cells of) (λ no. of)

pub pointer_put : (q : Pointer → Type 0) (at : ℕ) (p : Option Pointer) (cells : List Cell) → OfPointer q p → OfCells q cells → OfCells q (with_pointer at p cells)
pointer_put q at None cells given of = bytes_put q at (replicate 16 0) cells of
pointer_put q at (Some p) cells given of =
    cond_both (is_storable p && is_cell at cells) (slice_set cells (at / 16) (Tagged p)) cells (OfCells q) (λ yes. All-set (OfCell q) cells (at / 16) (Tagged p) given of) (λ no. of)

overlaid_of : (q : Pointer → Type 0) (at : ℕ) (piece cells : List Cell) → OfCells q piece → OfCells q cells → OfCells q (overlaid at piece cells)
overlaid_of q at piece cells given of =
    All-append (OfCell q) (take at cells) (piece ++ drop (at + length piece) cells) (All-take (OfCell q) at cells of)
    (All-append (OfCell q) piece (drop (at + length piece) cells) given (All-drop (OfCell q) (at + length piece) cells of))

pub cells_laid : (q : Pointer → Type 0) (at : ℕ) (piece cells : List Cell) → OfCells q piece → OfCells q cells → OfCells q (with_cells at piece cells)
cells_laid q at piece cells given of =
    cond_both (is_within at (16 * length piece) cells && is_aligned at) (overlaid (at / 16) piece cells) cells (OfCells q) (λ yes. overlaid_of q (at / 16) piece cells given of) (λ no. of)

pub resized_of : (q : Pointer → Type 0) (len : ℕ) (cells : List Cell) → OfCells q cells → OfCells q (resized len cells)
resized_of q len cells of =
    All-append (OfCell q) (take (len / 16) cells) (replicate (len / 16 - length cells) (Bytes (replicate 16 0))) (All-take (OfCell q) (len / 16) cells of)
    (All-replicate (OfCell q) (len / 16 - length cells) (Bytes (replicate 16 0)) tt)

-- ---- objects of which one is another

pub change_kept : (q : Pointer → Type 0) (n : ℕ) (f : Object → Object) (os : List Object) → ((o : Object) → OfObject q o → OfObject q (f o)) → OfObjects q os → OfObjects q (change_in os n f)
change_kept q n f [] keeps of = of
change_kept q n f (o ∷ os) keeps of =
    let here = All-head (OfObject q) o os of in
    let more = All-tail (OfObject q) o os of in
    cond_both (has_number n o) (f o ∷ os) (o ∷ change_in os n f) (OfObjects q)
    (λ yes. All-cons (OfObject q) (f o) os (keeps o here) more) (λ no. All-cons (OfObject q) o (change_in os n f) here (change_kept q n f os keeps more))

-- ---- what is computed

abbrev pub OfComputed : (Pointer → Type 0) → Option (Result Given Exception) → Type 0
OfComputed q given = IfSome (value_in given) (OfVal q)

number_of : (q : Pointer → Type 0) (attr : Attr) (z : Result ℤ Exception) → OfComputed q (Some (as_number attr z))
number_of q attr (Ok z) = tt
number_of q attr (Err x) = tt

branch_of : (q : Pointer → Type 0) (taken : Result Bool Exception) → OfComputed q (Some (as_branch taken))
branch_of q (Ok taken) = tt
branch_of q (Err x) = tt

bytes_of : (q : Pointer → Type 0) (bytes : Result (List ℕ) Exception) → OfComputed q (Some (as_bytes bytes))
bytes_of q (Ok bytes) = tt
bytes_of q (Err x) = tt

pointing_of : (q : Pointer → Type 0) → IsClosed q → (object : ObjNum) (offset : ℕ) (to : Option ℕ) → q (pointers.Space object offset) → OfComputed q (Some (as_pointer (pointing object to)))
pointing_of q closed object offset None of = tt
pointing_of q closed object offset (Some to) of = closed object offset to of

-- a pointer that is moved stays one into its object
moved_of : (q : Pointer → Type 0) → IsClosed q → (op : Op) (p : Option Pointer) (attr : Attr) (x : Option ℤ) → OfPointer q p → OfComputed q (Some (as_pointer (pointer_moved op p attr x)))
moved_of q closed op (Some (pointers.Space object offset)) attr (Some x) of = pointing_of q closed object offset _ of
moved_of q closed op _ attr _ of = tt

-- a computation gives a pointer where one is moved alone
pub computed_kept : (q : Pointer → Type 0) → IsClosed q → (op : Op) (round : Bool) (r : Readings) → OfPointer q (r.pointer 2) → OfComputed q (computed op round r)
unfolding computed pointer_given
computed_kept q closed op round r of =
    cond_both (computes_number op) _ _ (OfComputed q) (λ yes. number_of q r.receiver (number_given op round r)) (λ no.
    cond_both (is_branch op) _ _ (OfComputed q) (λ yes. branch_of q (test_given op r)) (λ no.
    cond_both (computes_string op) _ _ (OfComputed q) (λ yes. bytes_of q (bytes_given op r)) (λ no.
    cond_both (moves_pointer op) _ _ (OfComputed q) (λ yes. moved_of q closed op (r.pointer 2) (r.attr 3) (r.number 3) of) (λ no. tt))))
