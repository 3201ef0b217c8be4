-- What is computed fills its receiver: a string is as long as what it is written over.
use Rattle.std.proofs.Common.{◌*◌, ◌++◌, ◌+◌, ◌-◌, ◌==◌, ◌∷◌, ◌≡◌, ◌⊎◌, ◌∙◌, Bool, List, ap, arith, cond, drop, false, inl, inr, length, length-append, map, min, refl, take, true, ℕ}
use Rattle.std.proofs.lemmas.Bool.{cond_both, or_left}
use Rattle.std.proofs.lemmas.List.{length-drop, length-replicate, length-take}
use Rattle.std.proofs.lemmas.List.FromFn.{length-map-range_with_len}
use Rattle.std.specs.Prelude.{◌&&◌, Err, IfSome, None, Ok, Option, Result, Some, not, replicate, slice_index, ℤ}
use Rattle.s38_base.specs.Scalar.{scalar_image}
use Rattle.s38_base.specs.Attributes.{length_of}
use Rattle.s38_base.specs.Signals.{plain}
use Rattle.s38_base.specs.Exceptions as exceptions
use Rattle.s38_strings.specs.Bits.{byte_of, combined}
use Rattle.s38_strings.specs.Hex.{are_hex, character_at, read, spelled_byte}
use Rattle.s38_strings.specs.Translate.{translated}
use Rattle.s38_base.specs.declared.attr.Attr.{Attr}
use Rattle.s38_base.specs.declared.exception.Exception.{Exception}
use Rattle.s38_base.specs.declared.id.ObjNum.{ObjNum}
use Rattle.s38_base.specs.declared.op.Op.{Op}
use Rattle.s38_base.specs.declared.op.Op.TheVariants.{Addn, Addspp, And, Cat, Cpybla, Cpyblap, Cpybra, Cpynv, Cvtch, Cvthc, Div, Mult, Neg, Not, Or, Rem, Scale, Subn, Subspp, Xlate, Xor}
use Rattle.s38_base.specs.declared.pointer.Pointer.{Pointer}
use Rattle.s38_base.specs.declared.pointer.Pointer.TheVariants as pointers
use Rattle.s38_code.specs.Operations.{classes}
use Rattle.s38_code.specs.declared.class.Class.{Class}
use Rattle.s38_code.specs.declared.class.Class.TheVariants.{NumberReceiver}
use Rattle.s38_code.specs.declared.event.Request.{Request}
use Rattle.s38_code.specs.declared.operand.Operand.TheVariants as operands
use Rattle.s38_code.specs.declared.operand.Operand.{Operand}
use Rattle.s38_compute.specs.Compute.{from_hex, pointer_moved, pointing, string_given, where_long}
use Rattle.s38_compute.specs.Computed.{as_branch, as_bytes, as_number, as_pointer, bytes_given, computed, computes_number, computes_string, is_branch, is_copy, moves_pointer, number_given, pointer_given, test_given, value_in, written_over}
use Rattle.s38_compute.specs.Readings.{Readings}
use Rattle.s38_compute.specs.declared.given.Given.{Given}
use Rattle.s38_rules.specs.families.Computing.{computing, computing_gives, held_in, is_call, of_operands, receiver_attr}
use Rattle.s38_rules.specs.state.Held.{Held}
use Rattle.s38_rules.specs.ask.Operands.{place, room_at, room_of}
use Rattle.s38_rules.specs.state.State.{State}
use Rattle.s38_laws_processes.proofs.replies.FillLaws.{first_gets_number, first_gets_bytes, first_gets_pointer, goes_back, IsLocal, Fills, GivesWell, image_is}

left_length : (into from : List ℕ) → length (take (length into) from ++ drop (length from) into) ≡ length into
left_length into from =
    omega (arith, length-append (take (length into) from) (drop (length from) into), length-take (length into) from, length-drop (length from) into)

right_length : (into from : List ℕ) → length (take (length into - length from) into ++ drop (length from - length into) from) ≡ length into
right_length into from =
    omega (
      arith,
      length-append (take (length into - length from) into) (drop (length from - length into) from),
      length-take (length into - length from) into,
      length-drop (length from - length into) from,
    )

filled_length : (n pad : ℕ) (from : List ℕ) → length (take n from ++ replicate (n - length from) pad) ≡ n
filled_length n pad from =
    omega (arith, length-append (take n from) (replicate (n - length from) pad), length-take n from, length-replicate (n - length from) pad)

where_length : (long : Bool) (bytes into : List ℕ) → length bytes ≡ length into → length (where_long long bytes into) ≡ length into
where_length true bytes into same = same
where_length false bytes into same = refl

-- what is given is as long
abbrev IsAsLong : List ℕ → Result (List ℕ) Exception → Type 0
IsAsLong into (Ok bytes) = length bytes ≡ length into
IsAsLong into (Err x) = Unit {0}

hex_length : (into a : List ℕ) → IsAsLong into (from_hex into a)
hex_length into a =
    cond_both (are_hex a) (Ok (read a (length into))) (Err (plain exceptions.conversion 2)) (IsAsLong into) (λ yes. length-map-range_with_len (spelled_byte a) 0 (length into)) (λ no. tt)

combined_length : (op : Op) (long : Bool) (into a b : List ℕ) → length (where_long long (combined op (length into) a b) into) ≡ length into
combined_length op long into a b = where_length long (combined op (length into) a b) into (length-map-range_with_len (λ k. byte_of op (slice_index a k) (slice_index b k)) 0 (length into))

string_length : (op : Op) (into a b c : List ℕ) → IsAsLong into (string_given op into a b c)
unfolding string_given
string_length Cpybla into a b c = left_length into a
string_length Cpybra into a b c = right_length into a
string_length Cpyblap into a b c = filled_length (length into) _ a
string_length Cat into a b c = filled_length (length into) _ (a ++ b)
string_length Xlate into a b c = where_length (length b == length c) _ into (left_length into (map (translated b c) a))
string_length Cvthc into a b c = where_length (length into == 2 * length a) _ into (length-map-range_with_len (character_at a) 0 (length into))
string_length Cvtch into a b c = cond_both (length a == 2 * length into) (from_hex into a) (Ok into) (IsAsLong into) (λ yes. hex_length into a) (λ no. refl)
string_length And into a b c = combined_length And _ into a b
string_length Or into a b c = combined_length Or _ into a b
string_length Xor into a b c = combined_length Xor _ into a b
string_length Not into a b c = combined_length Not _ into a a
string_length _ into a b c = refl

numbers_get : (op : Op) → computes_number op ≡ true → first_gets_number (classes op) ≡ true
unfolding classes
numbers_get Addn is = refl
numbers_get Subn is = refl
numbers_get Mult is = refl
numbers_get Div is = refl
numbers_get Rem is = refl
numbers_get Neg is = refl
numbers_get Cpynv is = refl
numbers_get Scale is = refl
numbers_get _ is = cc

strings_get : (op : Op) → computes_string op ≡ true → first_gets_bytes (classes op) ≡ true
unfolding classes
strings_get Cpybla is = refl
strings_get Cpybra is = refl
strings_get Cpyblap is = refl
strings_get Cat is = refl
strings_get Xlate is = refl
strings_get Cvthc is = refl
strings_get Cvtch is = refl
strings_get And is = refl
strings_get Or is = refl
strings_get Xor is = refl
strings_get Not is = refl
strings_get _ is = cc

pointers_get : (op : Op) → moves_pointer op ≡ true → first_gets_pointer (classes op) ≡ true
unfolding classes
pointers_get Addspp is = refl
pointers_get Subspp is = refl
pointers_get _ is = cc

bytes_too : (cs : List Class) → first_gets_number cs ≡ true → first_gets_bytes cs ≡ true
bytes_too (NumberReceiver ∷ more) gets = refl
bytes_too _ gets = cc

abbrev FillsComputed : Op → List Operand → Option (Result Given Exception) → Type 0
FillsComputed op ops given = IfSome (value_in given) (Fills op ops)

number_fills : (op : Op) (ops : List Operand) (z : Result ℤ Exception) → first_gets_number (classes op) ≡ true → FillsComputed op ops (Some (as_number (receiver_attr (place ops 1)) z))
number_fills op ops (Err x) gets = tt
number_fills op ops (Ok z) gets = (
  bytes_too (classes op) gets,
  λ attr local.
      let at : receiver_attr (place ops 1) ≡ attr = ap receiver_attr local.at in
      inr (ap (λ a. length (scalar_image a z)) at ∙ image_is attr z (local.number gets)),
)

branch_fills : (op : Op) (ops : List Operand) (taken : Result Bool Exception) → goes_back op ≡ true → FillsComputed op ops (Some (as_branch taken))
branch_fills op ops (Err x) back = tt
branch_fills op ops (Ok taken) back = (back, λ attr local. tt)

held_long : (h : Held) (ops : List Operand) (attr : Attr) → place ops 1 ≡ Some (operands.Receiver attr) → length (held_in h ops (place ops 1)) ≡ length_of attr
held_long h ops attr at = ap (λ x. length (held_in h ops x)) at ∙ length-replicate {A = ℕ} (room_at ops 1) 0 ∙ ap room_of at

-- what is no copy is written over what is there
over_held : (keeps copies : Bool) (zeros held : List ℕ) → copies ≡ false → cond (not keeps && copies) zeros held ≡ held
over_held true copies zeros held none = refl
over_held false true zeros held none = cc
over_held false false zeros held none = refl

bytes_fill : (op : Op) (h : Held) (ops : List Operand) (given : Result (List ℕ) Exception) → first_gets_bytes (classes op) ≡ true → IsAsLong (written_over op (of_operands h ops)) given
    → FillsComputed op ops (Some (as_bytes given))
bytes_fill op h ops (Err x) gets long = tt
bytes_fill op h ops (Ok bytes) gets long = (gets, λ attr local. by (is_copy op) refl attr local)
  where
    r : Readings
    r = of_operands h ops

    by : (b : Bool) → is_copy op ≡ b → (attr : Attr) → IsLocal op ops attr → (is_copy op ≡ true) ⊎ (length bytes ≡ length_of attr)
    by true copies attr local = inl copies
    by false other attr local = inr (long ∙ ap length (over_held r.keeps_rest (is_copy op) (replicate (min r.room (length (r.bytes 2))) 0) r.held other) ∙ held_long h ops attr local.at)

pointing_fills : (op : Op) (ops : List Operand) (object : ObjNum) (to : Option ℕ) → first_gets_pointer (classes op) ≡ true → FillsComputed op ops (Some (as_pointer (pointing object to)))
pointing_fills op ops object None gets = tt
pointing_fills op ops object (Some to) gets = (gets, λ attr local. tt)

moved_fills : (op : Op) (ops : List Operand) (p : Option Pointer) (attr : Attr) (x : Option ℤ) → first_gets_pointer (classes op) ≡ true → FillsComputed op ops (Some (as_pointer (pointer_moved op p attr x)))
moved_fills op ops (Some (pointers.Space object offset)) attr (Some x) gets = pointing_fills op ops object _ gets
moved_fills op ops _ attr _ gets = tt

computed_fills : (op : Op) (round : Bool) (h : Held) (ops : List Operand) → FillsComputed op ops (computed op round (of_operands h ops))
unfolding computed bytes_given pointer_given
computed_fills op round h ops =
    let r = of_operands h ops in
    cond_both (computes_number op) _ _ (FillsComputed op ops) (λ yes. number_fills op ops (number_given op round r) (numbers_get op yes)) (λ no.
    cond_both (is_branch op) _ _ (FillsComputed op ops) (λ yes. branch_fills op ops (test_given op r) (or_left (is_branch op) (is_call op) yes)) (λ no.
    cond_both (computes_string op) _ _ (FillsComputed op ops)
    (λ yes. bytes_fill op h ops (bytes_given op r) (strings_get op yes) (string_length op (written_over op r) (r.bytes 2) (r.bytes 3) (r.bytes 4))) (λ no.
    cond_both (moves_pointer op) _ _ (FillsComputed op ops) (λ yes. moved_fills op ops (r.pointer 2) (r.attr 3) (r.number 3) (pointers_get op yes)) (λ no. tt))))

pub computing_fills : (s : State) (p d : ℕ) (t : Request) → GivesWell t.op computing s p d t
unfolding computing_gives
computing_fills s p d t = computed_fills t.op t.round s.held t.operands
