-- Entries that are cut from storage: one more, another one under an ordinal, and one deleted.
use Rattle.std.proofs.Common.{◌≡◌, ℕ, zero, suc, ◌+◌, ◌-◌, ◌*◌, ◌<◌, ◌≤◌, Bool, true, false, List, [], ◌∷◌, ◌++◌, length, get_or, set, take, drop, refl, sym, ◌∙◌, ap, arith, length-drop}
use Rattle.std.proofs.Math.Nat.{suc-mul}
use Rattle.std.proofs.Math.Seq.{take-length, take-append_seam, drop-append_seam}
use Rattle.std.proofs.lemmas.List.{take-append-le, drop-append-le, drop-drop, drop-take, length-take, length-take-le, take-take}
use Rattle.std.proofs.lemmas.Bool.{eq-eqb}
use Rattle.std.specs.List.{list_all}
use Rattle.std.proofs.lemmas.Option.{slice_get_past}
use Rattle.std.specs.Option.{option_flatten}
use Rattle.std.specs.Prelude.{IsTrue, Some, None, ◌==◌, if◌then◌else◌, is_some, map, slice_get}
use Rattle.s38_dataspaces.specs.Entries.{DataEntry, entries_stored, entry_at, has_width}

-- the bytes of a first slot, and those of the others
first_slot : (n w m : ℕ) → m ≡ suc n * w → w ≤ m
first_slot n w m e = let more = e ∙ suc-mul n w in omega arith

later_slots : (n w : ℕ) (bytes : List ℕ) → length bytes ≡ suc n * w → length (drop w bytes) ≡ n * w
later_slots n w bytes e = let more = e ∙ suc-mul n w in omega (arith, length-drop {A = ℕ})

pub stored_pushed : (flags : List Bool) (bytes entry : List ℕ) → length bytes ≡ length flags * length entry → entries_stored (length entry) (flags ++ true ∷ []) (bytes ++ entry) ≡ entries_stored (length entry) flags bytes ++ Some entry ∷ []
stored_pushed [] [] entry e = rw (take-length entry) refl
stored_pushed [] (b ∷ bs) entry e = absurd (omega arith)
stored_pushed (f ∷ flags) bytes entry e =
    let w = length entry in
    let enough = first_slot (length flags) w (length bytes) e in
    rw (take-append-le w bytes entry enough, drop-append-le w bytes entry enough, stored_pushed flags (drop w bytes) entry (later_slots (length flags) w bytes e)) refl

nothing_before : (w : ℕ) → zero * w ≡ 0
nothing_before w = omega arith

one_slot : (w : ℕ) → 0 + w ≡ w
one_slot w = omega arith

-- another entry in a slot
first_written : (w : ℕ) (entry bytes : List ℕ) → length entry ≡ w → take w (entry ++ drop w bytes) ≡ entry
first_written w entry bytes e = rw (sym e) (take-append_seam entry (drop (length entry) bytes))

others_written : (w : ℕ) (entry bytes : List ℕ) → length entry ≡ w → drop w (entry ++ drop w bytes) ≡ drop w bytes
others_written w entry bytes e = rw (sym e) (drop-append_seam entry (drop (length entry) bytes))

later_first : (w n : ℕ) (bytes rest : List ℕ) → w ≤ length bytes → take w (take (n + w) bytes ++ rest) ≡ take w bytes
later_first w n bytes rest enough =
    take-append-le w (take (n + w) bytes) rest (omega (arith, length-take (n + w) bytes))
    ∙ take-take w (n + w) bytes (omega arith)

later_others : (w n m : ℕ) (bytes entry : List ℕ) → w ≤ length bytes → drop w (take (n + w) bytes ++ (entry ++ drop (m + w) bytes)) ≡ take n (drop w bytes) ++ (entry ++ drop m (drop w bytes))
later_others w n m bytes entry enough =
    let front : drop w (take (n + w) bytes) ≡ take n (drop w bytes) =
    ap (λ (k : ℕ). drop w (take k bytes)) (omega arith) ∙ drop-take w n bytes in
    let back : drop m (drop w bytes) ≡ drop (m + w) bytes =
    drop-drop m w bytes ∙ ap (λ (k : ℕ). drop k bytes) (omega arith) in
    drop-append-le w (take (n + w) bytes) (entry ++ drop (m + w) bytes) (omega (arith, length-take (n + w) bytes))
    ∙ rw (front, back) refl

pub stored_written : (flags : List Bool) (bytes entry : List ℕ) (w at : ℕ) → length entry ≡ w → length bytes ≡ length flags * w → at < length flags → entries_stored w (set flags at true) (take (at * w) bytes ++ (entry ++ drop (at * w + w) bytes)) ≡ set (entries_stored w flags bytes) at (Some entry)
stored_written [] bytes entry w at e whole within = absurd (omega arith)
stored_written (f ∷ flags) bytes entry w zero e whole within =
    rw (nothing_before w, one_slot w) (rw (first_written w entry bytes e, others_written w entry bytes e) refl)
stored_written (f ∷ flags) bytes entry w (suc k) e whole within =
    let enough = first_slot (length flags) w (length bytes) whole in
    let next = suc-mul k w in
    rw (next, later_first w (k * w) bytes (entry ++ drop (k * w + w + w) bytes) enough, later_others w (k * w) (k * w + w) bytes entry enough)
    (rw (stored_written flags (drop w bytes) entry w k e (later_slots (length flags) w bytes whole) (omega arith)) refl)

-- a deleted one
pub stored_deleted : (flags : List Bool) (bytes : List ℕ) (w at : ℕ) → entries_stored w (set flags at false) bytes ≡ set (entries_stored w flags bytes) at None
stored_deleted [] bytes w at = refl
stored_deleted (f ∷ flags) bytes w zero = refl
stored_deleted (f ∷ flags) bytes w (suc k) = rw (stored_deleted flags (drop w bytes) w k) refl

-- what a slot holds
pub stored_at : (flags : List Bool) (bytes : List ℕ) (w at : ℕ) → option_flatten (slice_get (entries_stored w flags bytes) at) ≡ (if get_or flags at false then Some (take w (drop (at * w) bytes)) else None)
stored_at [] bytes w at = refl
stored_at (f ∷ flags) bytes w zero = rw (nothing_before w) refl
stored_at (f ∷ flags) bytes w (suc k) =
    let back : drop (k * w) (drop w bytes) ≡ drop (suc k * w) bytes =
    drop-drop (k * w) w bytes ∙ ap (λ (n : ℕ). drop n bytes) (let more = suc-mul k w in omega arith) in
    rw (sym back) (stored_at flags (drop w bytes) w k)

pub stored_count : (flags : List Bool) (bytes : List ℕ) (w : ℕ) → length (entries_stored w flags bytes) ≡ length flags
stored_count [] bytes w = refl
stored_count (f ∷ flags) bytes w = ap suc (stored_count flags (drop w bytes) w)

-- which entries are present
pub stored_presence : (flags : List Bool) (bytes : List ℕ) (w : ℕ) → map (λ (e : DataEntry). is_some e) (entries_stored w flags bytes) ≡ flags
stored_presence [] bytes w = refl
stored_presence (true ∷ flags) bytes w = ap (λ (fs : List Bool). true ∷ fs) (stored_presence flags (drop w bytes) w)
stored_presence (false ∷ flags) bytes w = ap (λ (fs : List Bool). false ∷ fs) (stored_presence flags (drop w bytes) w)

no_less : (k : ℕ) → suc k - 1 ≡ k
no_less k = omega arith

-- the entry of an ordinal, where it is present, is deleted, or there is none
pub found_entry : (flags : List Bool) (bytes : List ℕ) (w at : ℕ) → 0 < at → get_or flags (at - 1) false ≡ true → entry_at (entries_stored w flags bytes) at ≡ Some (take w (drop ((at - 1) * w) bytes))
found_entry flags bytes w zero some e = absurd (omega arith)
found_entry flags bytes w (suc k) some e =
    let here : get_or flags k false ≡ true = ap (λ (n : ℕ). get_or flags n false) (sym (no_less k)) ∙ e in
    stored_at flags bytes w k ∙ rw (here, no_less k) refl

pub missing_entry : (flags : List Bool) (bytes : List ℕ) (w at : ℕ) → get_or flags (at - 1) false ≡ false → entry_at (entries_stored w flags bytes) at ≡ None
missing_entry flags bytes w zero e = refl
missing_entry flags bytes w (suc k) e =
    let here : get_or flags k false ≡ false = ap (λ (n : ℕ). get_or flags n false) (sym (no_less k)) ∙ e in
    stored_at flags bytes w k ∙ rw here refl

pub past_entry : (flags : List Bool) (bytes : List ℕ) (w at : ℕ) → length flags < at → entry_at (entries_stored w flags bytes) at ≡ None
past_entry flags bytes w zero past = refl
past_entry flags bytes w (suc k) past =
    let none = slice_get_past (entries_stored w flags bytes) k (let len = stored_count flags bytes w in omega arith) in
    rw none refl

-- bytes that were written back into a vector of the same length
pub written_back : (n : ℕ) (new old : List ℕ) → length new ≡ n → take n (new ++ drop (length new) old) ≡ new
written_back n new old e = rw (sym e) (take-append_seam new (drop (length new) old))

-- each slot has the width of all
pub stored_widths : (flags : List Bool) (bytes : List ℕ) (w : ℕ) → length bytes ≡ length flags * w → IsTrue (list_all (has_width w) (entries_stored w flags bytes))
stored_widths [] bytes w whole = refl
stored_widths (true ∷ flags) bytes w whole =
    let enough = first_slot (length flags) w (length bytes) whole in
    rw (eq-eqb (length (take w bytes)) w (length-take-le w bytes enough)) (stored_widths flags (drop w bytes) w (later_slots (length flags) w bytes whole))
stored_widths (false ∷ flags) bytes w whole = stored_widths flags (drop w bytes) w (later_slots (length flags) w bytes whole)
