-- The fields of an entry that lies in a space, one after another.
use Rattle.std.proofs.Common.{◌≡◌, ℕ, ◌+◌, ◌-◌, ◌≤◌, Bool, ◌&&◌, List, [], ◌∷◌, drop, get_or, length, take, true, arith, ap, sym, ◌∙◌, refl}
use Rattle.std.proofs.lemmas.Bool.Decides.{nat_tests}
use Rattle.std.proofs.lemmas.List.{drop-drop, drop-take, take-take}
use Rattle.std.proofs.lemmas.List.Sums.{sum_by-cons}
use Rattle.std.proofs.Math.Seq.{take-length}
use Rattle.s38_base.specs.declared.attr.Attr.{Attr}
use Rattle.s38_base.specs.Attributes.{length_of}
use Rattle.s38_dataspaces.specs.Table.{entry_len}
use Rattle.s38_dataspaces.specs.Values.{have_values, is_valued}
use Rattle.s38_memory.specs.declared.cell.Cell.{Cell}
use Rattle.s38_memory.specs.Tagged.{bytes_in, is_within}
use Rattle.s38_rules.specs.state.Cells.{bytes_there}

-- the first field of a piece
pub first_field : (cells : List Cell) (at len rest : ℕ) → is_within at (len + rest) cells ≡ true
    → take len (take (len + rest) (drop at (bytes_in cells))) ≡ bytes_there cells at len
first_field cells at len rest within =
    let here : is_within at len cells ≡ true = grind (arith, nat_tests, within) in
    rw here (take-take len (len + rest) (drop at (bytes_in cells)) (omega arith))

-- and those after it
pub other_fields : (cells : List Cell) (at len rest : ℕ)
    → drop len (take (len + rest) (drop at (bytes_in cells))) ≡ take rest (drop (at + len) (bytes_in cells))
other_fields cells at len rest =
    drop-take len rest (drop at (bytes_in cells)) ∙ ap (take rest) (drop-drop len at (bytes_in cells))

pub more_within : (cells : List Cell) (at len rest : ℕ) → is_within at (len + rest) cells ≡ true → is_within (at + len) rest cells ≡ true
more_within cells at len rest within = grind (arith, nat_tests, within)

-- a field that may be one, and the others
fields_behind : (field : Attr) (fields : List Attr) (cells : List Cell) (at : ℕ) → is_within at (length_of field + entry_len fields) cells ≡ true
    → have_values (field ∷ fields) (take (length_of field + entry_len fields) (drop at (bytes_in cells)))
    ≡ (is_valued field (bytes_there cells at (length_of field)) && have_values fields (take (entry_len fields) (drop (at + length_of field) (bytes_in cells))))
fields_behind field fields cells at within =
    rw (first_field cells at (length_of field) (entry_len fields) within, other_fields cells at (length_of field) (entry_len fields)) refl

pub fields_left : (fields : List Attr) (cells : List Cell) (at width : ℕ) (default : Attr) (found : Bool) → 1 ≤ length fields
    → is_within at (entry_len fields) cells ≡ true
    → width ≡ length_of (get_or fields 0 default)
    → true ≡ is_valued (get_or fields 0 default) (bytes_there cells at (length_of (get_or fields 0 default)))
    → found ≡ have_values (take (length fields - 1) (drop 1 fields)) (take (entry_len (take (length fields - 1) (drop 1 fields))) (drop (at + width) (bytes_in cells)))
    → found ≡ have_values fields (take (entry_len fields) (drop at (bytes_in cells)))
fields_left [] cells at width default found some within wide valued rest = absurd (omega (arith, some))
fields_left (field ∷ fields) cells at width default found some within wide valued rest =
    let count : length (field ∷ fields) - 1 ≡ length fields = omega arith in
    let total : entry_len (field ∷ fields) ≡ length_of field + entry_len fields = sum_by-cons length_of field fields in
    rw (count, take-length fields, wide) at rest ∙ sym (rw total (fields_behind field fields cells at (rw total at within) ∙ rw (← valued) refl))
