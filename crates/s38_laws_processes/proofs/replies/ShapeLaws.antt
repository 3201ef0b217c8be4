-- A value at its place has the shape of the variable there.
use Rattle.std.proofs.Common.{◌-◌, ◌∙◌, ◌≡◌, ◌⊎◌, Bool, List, ap, arith, cond, drop, false, inl, inr, length, length-append, refl, subst, sym, take, true, ℕ}
use Rattle.std.proofs.lemmas.List.{length-drop, length-take}
use Rattle.std.proofs.lemmas.Option.{same_Some}
use Rattle.std.specs.Prelude.{◌||◌, None, Option, Some, slice_get}
use Rattle.s38_base.specs.Attributes.{is_pointer_attr, length_of}
use Rattle.s38_base.specs.declared.attr.Attr.{Attr}
use Rattle.s38_base.specs.declared.op.Op.{Op}
use Rattle.s38_base.specs.declared.pointer.Pointer.{Pointer}
use Rattle.s38_code.specs.declared.reply.Val.TheVariants as vals
use Rattle.s38_code.specs.declared.reply.Val.{Val}
use Rattle.s38_compute.specs.Computed.{copies_left, copies_right, is_copy}
use Rattle.s38_local.specs.Law.Shape.{OfBytes, OfPointer}
use Rattle.s38_local.specs.Law.{Shape, shape_at, shape_for, shape_of, shapes_of}
use Rattle.s38_process.specs.Lawful.{SuitsPlace}
use Rattle.s38_process.specs.Replies.{merged}
use Rattle.s38_process.proofs.LawfulLawsOfLists.{shape_here}
use Rattle.s38_strings.specs.Copies.{copied_left, copied_right}

bytes_shape : (attr : Attr) → is_pointer_attr attr ≡ false → shape_for attr ≡ OfBytes (length_of attr)
bytes_shape attr scalar = ap (λ b. cond b OfPointer (OfBytes (length_of attr))) scalar

pointer_shape : (attr : Attr) → is_pointer_attr attr ≡ true → shape_for attr ≡ OfPointer
pointer_shape attr pointer = ap (λ b. cond b OfPointer (OfBytes (length_of attr))) pointer

left_length : (into from : List ℕ) → length (copied_left into from) ≡ length into
left_length into from =
    omega (arith, length-append (take (length into) from) (drop (length from) into), length-take (length into) from, length-drop (length from) into)

right_length : (into from : List ℕ) → length (copied_right into from) ≡ length into
right_length into from =
    omega (
      arith,
      length-append (take (length into - length from) into) (drop (length from - length into) from),
      length-take (length into - length from) into,
      length-drop (length from - length into) from,
    )

-- bytes that are put over others are as many
over_length : (left right : Bool) (old new : List ℕ) → ((left || right) ≡ true) ⊎ (length new ≡ length old) → length (cond left (copied_left old new) (cond right (copied_right old new) new)) ≡ length old
over_length true right old new h = left_length old new
over_length false true old new h = right_length old new
over_length false false old new h = elim h as (λ _. length new ≡ length old) [ inl copies ↦ cc | inr same ↦ same ]

bytes_there : (op : Op) (old : Val) (n : ℕ) (bytes : List ℕ) → shape_of old ≡ OfBytes n → (is_copy op ≡ true) ⊎ (length bytes ≡ n) → shape_of (merged op (Some old) (vals.Bytes bytes)) ≡ shape_of old
bytes_there op (vals.Bytes old) n bytes shape long =
    let count : length old ≡ n = cc in
    ap OfBytes (over_length (copies_left op) (copies_right op) old bytes (subst (λ m. (is_copy op ≡ true) ⊎ (length bytes ≡ m)) (sym count) long))
bytes_there op (vals.Ptr p) n bytes shape long = cc
bytes_there op (vals.Branch taken) n bytes shape long = cc
bytes_there op (vals.Code program) n bytes shape long = cc

pointer_there : (op : Op) (old : Val) (p : Option Pointer) → shape_of old ≡ OfPointer → shape_of (merged op (Some old) (vals.Ptr p)) ≡ shape_of old
pointer_there op (vals.Bytes old) p shape = cc
pointer_there op (vals.Ptr q) p shape = refl
pointer_there op (vals.Branch taken) p shape = cc
pointer_there op (vals.Code program) p shape = cc

held_there : (values : List Val) (at : ℕ) (old : Val) (shape : Shape) → slice_get (shapes_of values) at ≡ Some shape → slice_get values at ≡ Some old → shape_of old ≡ shape
held_there values at old shape holds is = same_Some (shape_of old) shape (sym (shape_here values at old is) ∙ holds)

pub bytes_place : (op : Op) (values : List Val) (o : Option ℕ) (attr : Attr) (bytes : List ℕ) → is_pointer_attr attr ≡ false → shape_at (shapes_of values) o ≡ Some (shape_for attr)
    → (is_copy op ≡ true) ⊎ (length bytes ≡ length_of attr) → SuitsPlace op values o (vals.Bytes bytes)
bytes_place op values None attr bytes scalar holds long = tt
bytes_place op values (Some at) attr bytes scalar holds long = λ old is. bytes_there op old (length_of attr) bytes (held_there values at old (shape_for attr) holds is ∙ bytes_shape attr scalar) long

pub pointer_place : (op : Op) (values : List Val) (o : Option ℕ) (attr : Attr) (p : Option Pointer) → is_pointer_attr attr ≡ true → shape_at (shapes_of values) o ≡ Some (shape_for attr)
    → SuitsPlace op values o (vals.Ptr p)
pointer_place op values None attr p pointer holds = tt
pointer_place op values (Some at) attr p pointer holds = λ old is. pointer_there op old p (held_there values at old (shape_for attr) holds is ∙ pointer_shape attr pointer)
