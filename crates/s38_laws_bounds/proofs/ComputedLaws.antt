-- What is computed fits its receiver: a string is as long as what it is written over.
use Rattle.std.proofs.Common.{◌*◌, ◌++◌, ◌+◌, ◌-◌, ◌==◌, ◌≡◌, ◌≤◌, Bool, List, [], ap, arith, cond, drop, false, length, length-append, map, min, refl, take, true, ℕ}
use Rattle.std.proofs.lemmas.Bool.{cond_both, or_left}
use Rattle.std.proofs.lemmas.List.{length-drop, length-replicate, length-take}
use Rattle.std.proofs.lemmas.List.FromFn.{length-map-range_with_len}
use Rattle.std.specs.Prelude.{◌&&◌, ◌||◌, Err, IfSome, None, Ok, Option, Result, Some, not, replicate, slice_index, ℤ}
use Rattle.s38_base.specs.Pointers.{start_of, target_of}
use Rattle.s38_base.specs.Scalar.{scalar_image}
use Rattle.s38_base.specs.Attributes.{length_of}
use Rattle.s38_base.specs.Signals.{plain}
use Rattle.s38_base.specs.Exceptions as exceptions
use Rattle.s38_strings.specs.Bits.{byte_of, combined}
use Rattle.s38_strings.specs.Hex.{are_hex, character_at, read, spelled_byte}
use Rattle.s38_strings.specs.Translate.{translated}
use Rattle.s38_base.specs.declared.attr.Attr.{Attr}
use Rattle.s38_base.specs.declared.exception.Exception.{Exception}
use Rattle.s38_base.specs.declared.id.ObjNum.{ObjNum}
use Rattle.s38_base.specs.declared.op.Op.{Op}
use Rattle.s38_base.specs.declared.op.Op.TheVariants.{Addspp, And, Cat, Cpybla, Cpyblap, Cpybra, Cvtch, Cvthc, Not, Or, Subspp, Xlate, Xor}
use Rattle.s38_base.specs.declared.pointer.Pointer.{Pointer}
use Rattle.s38_base.specs.declared.pointer.Pointer.TheVariants as pointers
use Rattle.s38_code.specs.Operations.{classes}
use Rattle.s38_code.specs.declared.event.Request.{Request}
use Rattle.s38_code.specs.declared.operand.Operand.TheVariants as operands
use Rattle.s38_code.specs.declared.operand.Operand.{Operand}
use Rattle.s38_code.specs.declared.reply.Val.{Val}
use Rattle.s38_compute.specs.Compute.{from_hex, pointer_moved, pointing, string_given, where_long}
use Rattle.s38_compute.specs.Computed.{as_branch, as_bytes, as_number, as_pointer, bytes_given, computed, computes_number, computes_string, copies_left, copies_right, is_branch, moves_pointer, number_given, pointer_given, shift_of, test_given, value_in, written_over}
use Rattle.s38_compute.specs.Readings.{Readings}
use Rattle.s38_compute.specs.declared.given.Given.{Given}
use Rattle.s38_memory.specs.Tagged.{bytes_in, is_within}
use Rattle.s38_memory.specs.declared.cell.Cell.{Cell}
use Rattle.s38_rules.specs.state.Cells.{bytes_there}
use Rattle.s38_rules.specs.families.Changes.{Stays}
use Rattle.s38_rules.specs.families.Computing.{computing, computing_gives, held_in, is_call, of_operands, receiver_attr}
use Rattle.s38_rules.specs.state.Held.{Held}
use Rattle.s38_rules.specs.ask.Operands.{bytes_of, place, room_at, room_of}
use Rattle.s38_rules.specs.state.PartsAt.{cells_at}
use Rattle.s38_rules.specs.state.State.{State}
use Rattle.s38_laws_bounds.specs.Placed.{leaves_spaces}
use Rattle.s38_laws_bounds.proofs.FitLaws.{gets_pointer, goes_back, Fits, GivesWell, image_length}

left_length : (into from : List ℕ) → length (take (length into) from ++ drop (length from) into) ≡ length into
left_length into from =
    omega (arith, length-append (take (length into) from) (drop (length from) into), length-take (length into) from, length-drop (length from) into)

right_length : (into from : List ℕ) → length (take (length into - length from) into ++ drop (length from - length into) from) ≡ length into
right_length into from =
    omega (
      arith,
      length-append (take (length into - length from) into) (drop (length from - length into) from),
      length-take (length into - length from) into,
      length-drop (length from - length into) from,
    )

filled_length : (n pad : ℕ) (from : List ℕ) → length (take n from ++ replicate (n - length from) pad) ≡ n
filled_length n pad from =
    omega (arith, length-append (take n from) (replicate (n - length from) pad), length-take n from, length-replicate (n - length from) pad)

where_length : (long : Bool) (bytes into : List ℕ) → length bytes ≡ length into → length (where_long long bytes into) ≡ length into
where_length true bytes into same = same
where_length false bytes into same = refl

-- what is given is as long
abbrev IsAsLong : List ℕ → Result (List ℕ) Exception → Type 0
IsAsLong into (Ok bytes) = length bytes ≡ length into
IsAsLong into (Err x) = Unit {0}

hex_length : (into a : List ℕ) → IsAsLong into (from_hex into a)
hex_length into a =
    cond_both (are_hex a) (Ok (read a (length into))) (Err (plain exceptions.conversion 2)) (IsAsLong into) (λ yes. length-map-range_with_len (spelled_byte a) 0 (length into)) (λ no. tt)

combined_length : (op : Op) (long : Bool) (into a b : List ℕ) → length (where_long long (combined op (length into) a b) into) ≡ length into
combined_length op long into a b = where_length long (combined op (length into) a b) into (length-map-range_with_len (λ k. byte_of op (slice_index a k) (slice_index b k)) 0 (length into))

string_length : (op : Op) (into a b c : List ℕ) → IsAsLong into (string_given op into a b c)
unfolding string_given
string_length Cpybla into a b c = left_length into a
string_length Cpybra into a b c = right_length into a
string_length Cpyblap into a b c = filled_length (length into) _ a
string_length Cat into a b c = filled_length (length into) _ (a ++ b)
string_length Xlate into a b c = where_length (length b == length c) _ into (left_length into (map (translated b c) a))
string_length Cvthc into a b c = where_length (length into == 2 * length a) _ into (length-map-range_with_len (character_at a) 0 (length into))
string_length Cvtch into a b c = cond_both (length a == 2 * length into) (from_hex into a) (Ok into) (IsAsLong into) (λ yes. hex_length into a) (λ no. refl)
string_length And into a b c = combined_length And _ into a b
string_length Or into a b c = combined_length Or _ into a b
string_length Xor into a b c = combined_length Xor _ into a b
string_length Not into a b c = combined_length Not _ into a a
string_length _ into a b c = refl

numbers_stay : (op : Op) → computes_number op ≡ true → copies_right op ≡ false
numbers_stay Cpybra is = cc
numbers_stay _ is = refl

pointers_stay : (op : Op) → moves_pointer op ≡ true → (copies_right op ≡ false) × (gets_pointer op ≡ true)
unfolding classes
pointers_stay Addspp is = (refl, refl)
pointers_stay Subspp is = (refl, refl)
pointers_stay _ is = cc

abbrev FitsComputed : Op → Readings → Option (Result Given Exception) → Type 0
FitsComputed op r given = IfSome (value_in given) (Fits op r.room (shift_of op r))

at_most : (room shift len : ℕ) → shift ≡ 0 → len ≤ room → shift + len ≤ room
at_most room shift len none few = omega (arith, none, few)

shift_none : (op : Op) (r : Readings) → copies_right op ≡ false → shift_of op r ≡ 0
shift_none op r stays = ap (λ b. cond b (r.room - length (r.bytes 2)) 0) stays

number_fits : (op : Op) (r : Readings) (z : Result ℤ Exception) → shift_of op r ≡ 0 → length_of r.receiver ≤ r.room → FitsComputed op r (Some (as_number r.receiver z))
number_fits op r (Err x) none few = tt
number_fits op r (Ok z) none few =
    let len = image_length r.receiver z in
    at_most r.room (shift_of op r) (length (scalar_image r.receiver z)) none (omega (arith, few, len))

branch_fits : (op : Op) (r : Readings) (taken : Result Bool Exception) → goes_back op ≡ true → FitsComputed op r (Some (as_branch taken))
branch_fits op r (Err x) back = tt
branch_fits op r (Ok taken) back = back

-- how much room is left after what a string is written over
over_few : (keeps left right : Bool) (room n : ℕ) (held : List ℕ) → keeps ≡ false → length held ≤ room
    → cond right (room - n) 0 + length (cond (not keeps && (left || right)) (replicate (min room n) 0) held) ≤ room
over_few true left right room n held not_kept few = cc
over_few false true true room n held not_kept few = omega (arith, length-replicate {A = ℕ} (min room n) 0)
over_few false true false room n held not_kept few = omega (arith, length-replicate {A = ℕ} (min room n) 0)
over_few false false true room n held not_kept few = omega (arith, length-replicate {A = ℕ} (min room n) 0)
over_few false false false room n held not_kept few = omega (arith, few)

bytes_fit : (op : Op) (r : Readings) (given : Result (List ℕ) Exception) → IsAsLong (written_over op r) given → shift_of op r + length (written_over op r) ≤ r.room
    → FitsComputed op r (Some (as_bytes given))
bytes_fit op r (Err x) long few = tt
bytes_fit op r (Ok bytes) long few = omega (arith, long, few)

pointing_fits : (op : Op) (r : Readings) (object : ObjNum) (to : Option ℕ) → shift_of op r ≡ 0 → gets_pointer op ≡ true → FitsComputed op r (Some (as_pointer (pointing object to)))
pointing_fits op r object None none gets = tt
pointing_fits op r object (Some to) none gets = (refl, (none, gets))

moved_fits : (op : Op) (r : Readings) (p : Option Pointer) (attr : Attr) (x : Option ℤ) → shift_of op r ≡ 0 → gets_pointer op ≡ true → FitsComputed op r (Some (as_pointer (pointer_moved op p attr x)))
moved_fits op r (Some (pointers.Space object offset)) attr (Some x) none gets = pointing_fits op r object _ none gets
moved_fits op r _ attr _ none gets = tt

computed_fits : (op : Op) (round : Bool) (r : Readings) → r.keeps_rest ≡ false → length_of r.receiver ≤ r.room → length r.held ≤ r.room → FitsComputed op r (computed op round r)
unfolding computed bytes_given pointer_given
computed_fits op round r not_kept receiver held =
    cond_both (computes_number op) _ _ (FitsComputed op r) (λ yes. number_fits op r (number_given op round r) (shift_none op r (numbers_stay op yes)) receiver) (λ no.
    cond_both (is_branch op) _ _ (FitsComputed op r) (λ yes. branch_fits op r (test_given op r) (or_left (is_branch op) (is_call op) yes)) (λ no.
    cond_both (computes_string op) _ _ (FitsComputed op r) (λ yes. bytes_fit op r (bytes_given op r) (string_length op (written_over op r) (r.bytes 2) (r.bytes 3) (r.bytes 4))
    (over_few r.keeps_rest (copies_left op) (copies_right op) r.room (length (r.bytes 2)) r.held not_kept held)) (λ no.
    cond_both (moves_pointer op) _ _ (FitsComputed op r) (λ yes.
    let stays = pointers_stay op yes in
    moved_fits op r (r.pointer 2) (r.attr 3) (r.number 3) (shift_none op r stays.0) stays.1) (λ no. tt))))

receiver_few : (x : Option Operand) → length_of (receiver_attr x) ≤ room_of x
receiver_few (Some (operands.Receiver attr)) = omega arith
receiver_few (Some (operands.InSpace base offset attr)) = omega arith
receiver_few _ = omega arith

there_few : (cells : List Cell) (at len : ℕ) → length (bytes_there cells at len) ≤ len
there_few cells at len =
    cond_both (is_within at len cells) (take len (drop at (bytes_in cells))) [] (λ (bytes : List ℕ). length bytes ≤ len)
    (λ yes. omega (arith, length-take len (drop at (bytes_in cells)))) (λ no. omega arith)

held_few : (h : Held) (ops : List Operand) (x : Option Operand) → place ops 1 ≡ x → length (held_in h ops x) ≤ room_at ops 1
held_few h ops (Some (operands.InSpace base offset attr)) at =
    let bytes : length (bytes_of h (place ops 1)) ≡ length (bytes_there (cells_at h (target_of base)) (start_of base offset) (length_of attr)) = ap (λ x. length (bytes_of h x)) at in
    let room : room_of (place ops 1) ≡ length_of attr = ap room_of at in
    omega (arith, bytes, room, there_few (cells_at h (target_of base)) (start_of base offset) (length_of attr))
held_few h ops _ at = omega (arith, length-replicate {A = ℕ} (room_at ops 1) 0)

pub computing_fits : (s : State) (p d : ℕ) (t : Request) → GivesWell t.op computing s p d t
unfolding computing_gives
computing_fits s p d t =
    leaves_too t.op _ _ _ (computed_fits t.op t.round (of_operands s.held t.operands) refl (receiver_few (place t.operands 1)) (held_few s.held t.operands (place t.operands 1) refl))
  where
    leaves_too : (op : Op) (room shift : ℕ) (v : Option Val) → IfSome v (Fits op room shift) → IfSome v (λ v. Fits op room shift v × (leaves_spaces Stays ≡ true))
    leaves_too op room shift None fits = tt
    leaves_too op room shift (Some v) fits = (fits, refl)
