-- Each variable goes on holding what its declaration says.
use Rattle.std.proofs.Common.{◌≡◌, ℕ, ◌+◌, ◌-◌, ◌*◌, ◌/◌, ◌==◌, Bool, true, false, ◌&&◌, not, ℤ, List, [], ◌∷◌, ◌++◌, length, take, drop, replicate, Option, refl, ap, sym, ◌∙◌, arith}
use Rattle.std.specs.Prelude.{IfOk, Some, None, slice_get, slice_set, slice_index, Result, Ok, Err, if◌then◌else◌}
use Rattle.std.specs.List.{list_any}
use Rattle.std.specs.Option.{option_and_then, option_map}
use Rattle.std.proofs.lemmas.Bool.{and_parts, cond_both, cond-true, eqb-true, false≢true, not-true, or_parts}
use Rattle.std.proofs.lemmas.List.{length-append, length-drop, length-replicate, length-take, map-set, set-get_or}
use Rattle.std.proofs.lemmas.List.FromFn.{length-map-range_with_len}
use Rattle.std.proofs.lemmas.Option.{get_or_from_slice_get, same_Some, slice_get-map}
use Rattle.s38_base.specs.declared.attr.Attr.{Attr}
use Rattle.s38_base.specs.declared.attr.Attr.TheVariants as attrs
use Rattle.s38_base.specs.declared.exception.Exception.{Exception}
use Rattle.s38_base.specs.declared.op.Op.{Op}
use Rattle.s38_base.specs.declared.op.Op.TheVariants.{Addspp, And, Cat, Cpybla, Cpyblap, Cpybra, Cvtch, Cvthc, Not, Or, Retexcpd, Subspp, Xlate, Xor}
use Rattle.s38_base.specs.declared.pointer.Pointer.{Pointer}
use Rattle.s38_base.specs.Scalar.{bits_of, digit_at, packed_byte, scalar_image, zoned_byte}
use Rattle.s38_base.specs.Attributes.{fraction_of, is_numeric, is_pointer_attr, length_of}
use Rattle.s38_code.specs.declared.class.Class.{Class}
use Rattle.s38_code.specs.declared.class.Class.TheVariants.{NumberSource, PointerReceiver, PointerSource}
use Rattle.s38_code.specs.declared.program.Arg.{Arg}
use Rattle.s38_code.specs.declared.program.Arg.TheVariants as args
use Rattle.s38_code.specs.declared.program.Form.{Form}
use Rattle.s38_code.specs.declared.program.Form.TheVariants as forms
use Rattle.s38_code.specs.declared.program.Instruction.{Instruction}
use Rattle.s38_code.specs.declared.program.Row.{Row}
use Rattle.s38_code.specs.declared.reply.Val.{Val}
use Rattle.s38_code.specs.declared.reply.Val.TheVariants as vals
use Rattle.s38_code.specs.Operations.{classes, operand_rule}
use Rattle.s38_compute.specs.Compute.{from_hex, is_scale_power, of_one, of_two, one_computed, one_number, signalled, string_given, two_computed, two_numbers, where_long}
use Rattle.s38_compute.specs.Computed.{as_branch, as_bytes, as_number, as_pointer, bytes_given, computed, computes_number, computes_string, is_branch, moves_pointer, number_given, pointer_given, receiver_target, test_given}
use Rattle.s38_compute.specs.declared.given.Given.{Given}
use Rattle.s38_compute.specs.Readings.{Readings}
use Rattle.s38_decimal.specs.declared.dec.DecimalFault.{DecimalFault}
use Rattle.s38_decimal.specs.declared.dec.DecimalFault.TheVariants as faults
use Rattle.s38_decimal.specs.declared.dec.Target.{Target}
use Rattle.s38_decimal.specs.Need.{has_one}
use Rattle.s38_decimal.specs.Values.{exact}
use Rattle.s38_local.specs.declared.frame.Frame.{Frame}
use Rattle.s38_local.specs.Frames.{code_bytes}
use Rattle.s38_local.specs.Law.{HasShape, HavePlaces, OfBytes, OfPointer, Shape, shape_at, shape_for, shape_of, shapes_of}
use Rattle.s38_local.specs.Local.{controlled, is_local, is_local_op, lies_in_space, of_variables, received, receiver_of}
use Rattle.s38_local.specs.Received.{bytes_put, changed_at, changed_there, value_with_bytes, value_with_number}
use Rattle.s38_local.specs.Variables.{form_in, held_at, is_based, value_at, value_bytes, value_put_at}
use Rattle.s38_odt.specs.OperandRules.{at_suits, is_two_bytes, is_two_local_bytes, keeps_rule}
use Rattle.s38_odt.specs.Suits.{all_suit, form_suits, suits}
use Rattle.s38_odt.specs.OperandAttributes.{form_attr, is_attr_of_pointer}
use Rattle.s38_strings.specs.Copies.{copied_left, copied_right, filled}
use Rattle.s38_strings.specs.Hex.{are_hex, read}

-- ---- a variable that gets a value of its shape

set_there : {X : Type 0} (xs : List X) (i : ℕ) (v : X) → slice_get xs i ≡ Some v → slice_set xs i v ≡ xs
set_there xs i v there = ap (slice_set xs i) (sym (get_or_from_slice_get xs i v v there)) ∙ set-get_or xs i v

shape_value : (values : List Val) (place : Option ℕ) → shape_at (shapes_of values) place ≡ option_map shape_of (value_at values place)
shape_value values None = refl
shape_value values (Some at) = slice_get-map shape_of values at

put_shapes : (values : List Val) (place : Option ℕ) (v : Val) → shape_at (shapes_of values) place ≡ Some (shape_of v) → shapes_of (value_put_at values place v) ≡ shapes_of values
put_shapes values None v there = refl
put_shapes values (Some at) v there = map-set shape_of values at v ∙ set_there (shapes_of values) at (shape_of v) there

there_shapes : (values : List Val) (place : Option ℕ) (f : Val → Val) (o : Option Val) → value_at values place ≡ o → ((v : Val) → o ≡ Some v → shape_of (f v) ≡ shape_of v) → shapes_of (changed_there values place f o) ≡ shapes_of values
there_shapes values place f None is same = refl
there_shapes values place f (Some v) is same =
    put_shapes values place (f v) (shape_value values place ∙ ap (option_map shape_of) is ∙ ap Some (sym (same v refl)))

changed_shapes : (values : List Val) (place : Option ℕ) (f : Val → Val) → ((v : Val) → value_at values place ≡ Some v → shape_of (f v) ≡ shape_of v) → shapes_of (changed_at values place f) ≡ shapes_of values
changed_shapes values place f same = there_shapes values place f (value_at values place) refl same

-- ---- numbers

length_image : (attr : Attr) (z : ℤ) → is_numeric attr ≡ true → length (scalar_image attr z) ≡ length_of attr
unfolding scalar_image
length_image (attrs.Packed digits fraction) z h = length-map-range_with_len (packed_byte (digits / 2) z) 0 (digits / 2 + 1)
length_image (attrs.Zoned digits fraction) z h = length-map-range_with_len (zoned_byte digits z) 0 digits
length_image (attrs.Binary size) z h = length-map-range_with_len (λ k. digit_at 256 (bits_of size z) (size - 1 - k)) 0 size
length_image (attrs.Chars len) z h = absurd (false≢true h)
length_image attrs.Pointer z h = absurd (false≢true h)

image_or : (test : Bool) (attr : Attr) (z : ℤ) (old : List ℕ) → (length old == length_of attr) ≡ test → is_numeric attr ≡ true → length (if test then scalar_image attr z else old) ≡ length old
image_or true attr z old is numeric = length_image attr z numeric ∙ sym (eqb-true (length old) (length_of attr) is)
image_or false attr z old is numeric = refl

number_shape : (attr : Attr) (z : ℤ) (v : Val) → is_numeric attr ≡ true → shape_of (value_with_number attr z v) ≡ shape_of v
number_shape attr z (vals.Bytes old) numeric = ap OfBytes (image_or (length old == length_of attr) attr z old refl numeric)
number_shape attr z (vals.Ptr p) numeric = refl
number_shape attr z (vals.Branch taken) numeric = refl
number_shape attr z (vals.Code program) numeric = refl

always : {E : Type 0} (P : Type 0) (r : Result ℤ E) → P → IfOk r (λ z. P)
always P (Ok z) p = p
always P (Err x) p = tt

room_numeric : (numeric few : Bool) (r : Result ℤ DecimalFault) → IfOk (signalled (if numeric && few then r else Err faults.Size)) (λ z. numeric ≡ true)
room_numeric true few r = always (true ≡ true) (signalled (if few then r else Err faults.Size)) refl
room_numeric false few r = tt

power_numeric : (small numeric few : Bool) (r : Result ℤ DecimalFault) → IfOk (signalled (if small && (numeric && few) then r else Err faults.Size)) (λ z. numeric ≡ true)
power_numeric true numeric few r = room_numeric numeric few r
power_numeric false numeric few r = tt

two_numeric : (op : Op) (to : Target) (a : Attr) (x : Option ℤ) (b : Attr) (y : Option ℤ) → IfOk (two_numbers op to a x b y) (λ z. is_numeric to.attr ≡ true)
unfolding two_computed
two_numeric op to a None b y = tt
two_numeric op to a (Some x) b None = tt
two_numeric op to a (Some x) b (Some y) = room_numeric (is_numeric to.attr) _ (of_two op to (exact x (fraction_of a)) (exact y (fraction_of b)))

one_numeric : (op : Op) (to : Target) (a : Attr) (x : Option ℤ) (power : ℤ) → IfOk (one_number op to a x power) (λ z. is_numeric to.attr ≡ true)
unfolding one_computed
one_numeric op to a None power = tt
one_numeric op to a (Some x) power = power_numeric (is_scale_power power) (is_numeric to.attr) _ (of_one op to (exact x (fraction_of a)) power)

number_numeric : (op : Op) (round : Bool) (r : Readings) → IfOk (number_given op round r) (λ z. is_numeric r.receiver ≡ true)
unfolding number_given
number_numeric op round r =
    cond_both (has_one op)
    (one_number op (receiver_target round r) (r.attr 2) (r.number 2) r.power)
    (two_numbers op (receiver_target round r) (r.attr 2) (r.number 2) (r.attr 3) (r.number 3))
    (λ given. IfOk given (λ z. is_numeric r.receiver ≡ true))
    (λ one. one_numeric op (receiver_target round r) (r.attr 2) (r.number 2) r.power)
    (λ two. two_numeric op (receiver_target round r) (r.attr 2) (r.number 2) (r.attr 3) (r.number 3))

number_shapes : (homes : List ℕ) (values : List Val) (i : Instruction) (attr : Attr) (given : Result ℤ Exception) → IfOk given (λ z. is_numeric attr ≡ true)
    → shapes_of (received homes values i (Some (as_number attr given))).values ≡ shapes_of values
number_shapes homes values i attr (Ok z) numeric = changed_shapes values (receiver_of homes i.args) (value_with_number attr z) (λ v there. number_shape attr z v numeric)
number_shapes homes values i attr (Err x) numeric = refl

-- ---- strings

left_length : (into from : List ℕ) → length (copied_left into from) ≡ length into
left_length into from = omega (arith, length-append (take (length into) from) (drop (length from) into), length-take (length into) from, length-drop (length from) into)

right_length : (into from : List ℕ) → length (copied_right into from) ≡ length into
right_length into from =
    omega (arith, length-append (take (length into - length from) into) (drop (length from - length into) from), length-take (length into - length from) into, length-drop (length from - length into) from)

filled_length : (n pad : ℕ) (from : List ℕ) → length (filled n pad from) ≡ n
filled_length n pad from = omega (arith, length-append (take n from) (replicate (n - length from) pad), length-take n from, length-replicate (n - length from) pad)

long_length : (long : Bool) (bytes into : List ℕ) → length bytes ≡ length into → length (where_long long bytes into) ≡ length into
long_length true bytes into same = same
long_length false bytes into same = refl

hex_length : (test : Bool) (into a : List ℕ) (x : Exception) → IfOk (if test then Ok (read a (length into)) else Err x) (λ bytes. length bytes ≡ length into)
hex_length true into a x = length-map-range_with_len _ 0 (length into)
hex_length false into a x = tt

-- the receiver keeps its length
string_length : (op : Op) (into a b c : List ℕ) → IfOk (string_given op into a b c) (λ bytes. length bytes ≡ length into)
unfolding string_given
string_length Cpybla into a b c = left_length into a
string_length Cpybra into a b c = right_length into a
string_length Cpyblap into a b c = filled_length (length into) (slice_index b 0) a
string_length Cat into a b c = filled_length (length into) 0x40 (a ++ b)
string_length Xlate into a b c = long_length (length b == length c) _ into (left_length into _)
string_length Cvthc into a b c = long_length (length into == 2 * length a) _ into (length-map-range_with_len _ 0 (length into))
string_length Cvtch into a b c =
    cond_both (length a == 2 * length into) (from_hex into a) (Ok into)
    (λ given. IfOk given (λ bytes. length bytes ≡ length into))
    (λ long. hex_length (are_hex a) into a _)
    (λ other. refl)
string_length And into a b c = long_length ((length a == length into) && (length b == length into)) _ into (length-map-range_with_len _ 0 (length into))
string_length Or into a b c = long_length ((length a == length into) && (length b == length into)) _ into (length-map-range_with_len _ 0 (length into))
string_length Xor into a b c = long_length ((length a == length into) && (length b == length into)) _ into (length-map-range_with_len _ 0 (length into))
string_length Not into a b c = long_length (length a == length into) _ into (length-map-range_with_len _ 0 (length into))
string_length _ into a b c = refl

bytes_shape : (bytes : List ℕ) (v : Val) → length bytes ≡ length (value_bytes (Some v)) → shape_of (value_with_bytes bytes v) ≡ shape_of v
bytes_shape bytes (vals.Bytes old) same = ap OfBytes same
bytes_shape bytes (vals.Ptr p) same = refl
bytes_shape bytes (vals.Branch taken) same = refl
bytes_shape bytes (vals.Code program) same = refl

bytes_shapes : (homes : List ℕ) (values : List Val) (i : Instruction) (given : Result (List ℕ) Exception) → IfOk given (λ bytes. length bytes ≡ length (held_at values (receiver_of homes i.args)))
    → shapes_of (received homes values i (Some (as_bytes given))).values ≡ shapes_of values
bytes_shapes homes values i (Ok bytes) same =
    changed_shapes values (receiver_of homes i.args) (value_with_bytes bytes) (λ v there. bytes_shape bytes v (same ∙ ap (λ o. length (value_bytes o)) there))
bytes_shapes homes values i (Err x) same = refl

-- ---- pointers

pointer_form : (form : Form) (shape : Option Shape) → is_attr_of_pointer (form_attr form) ≡ true → is_based (Some form) ≡ false → HasShape form shape → shape ≡ Some OfPointer
pointer_form (forms.Local attr first) shape points near held = held ∙ ap Some (cond-true (is_pointer_attr attr) OfPointer (OfBytes (length_of attr)) points)
pointer_form (forms.Parm k attr) shape points near held = held ∙ ap Some (cond-true (is_pointer_attr attr) OfPointer (OfBytes (length_of attr)) points)
pointer_form (forms.Based base offset attr) shape points near held = absurd (false≢true (sym near))
pointer_form (forms.Handler code at) shape points near held = absurd (false≢true points)

pointer_item : (rows : List Row) (homes : List ℕ) (shapes : List Shape) (k : ℕ) (o : Option Row) → slice_get rows k ≡ o → HavePlaces rows homes shapes
    → is_attr_of_pointer (option_and_then (λ row. form_attr row.form) o) ≡ true → is_based (form_in o) ≡ false → shape_at shapes (slice_get homes k) ≡ Some OfPointer
pointer_item rows homes shapes k None is held points near = absurd (false≢true points)
pointer_item rows homes shapes k (Some row) is held points near = pointer_form row.form (shape_at shapes (slice_get homes k)) points near (held.each k row is)

-- a pointer receiver that lies in no space holds a pointer
pointer_put : (rows : List Row) (homes : List ℕ) (values : List Val) (more : List Class) (given : List Arg) (p : Option Pointer) → HavePlaces rows homes (shapes_of values)
    → all_suit rows (PointerReceiver ∷ more) given ≡ true → list_any (lies_in_space rows) given ≡ false → shapes_of (value_put_at values (receiver_of homes given) (vals.Ptr p)) ≡ shapes_of values
unfolding suits
pointer_put rows homes values more [] p held suited near = refl
pointer_put rows homes values more (args.Item k ∷ given) p held suited near =
    put_shapes values (slice_get homes k) (vals.Ptr p)
    (pointer_item rows homes (shapes_of values) k (slice_get rows k) refl held
    (and_parts (suits rows PointerReceiver (args.Item k)) (all_suit rows more given) suited).0
    (or_parts (lies_in_space rows (args.Item k)) (list_any (lies_in_space rows) given) near).0)
pointer_put rows homes values more (_ ∷ given) p held suited near = refl

pointer_classes : (op : Op) → moves_pointer op ≡ true → classes op ≡ PointerReceiver ∷ PointerSource ∷ NumberSource ∷ []
unfolding classes
pointer_classes Addspp moves = refl
pointer_classes Subspp moves = refl
pointer_classes _ moves = absurd (false≢true moves)

none_in_space : (rows : List Row) (i : Instruction) → is_local rows i ≡ true → list_any (lies_in_space rows) i.args ≡ false
unfolding is_local
none_in_space rows i h = not-true (list_any (lies_in_space rows) i.args) (and_parts (is_local_op i.op) (not (list_any (lies_in_space rows) i.args)) h).1

pointer_shapes : (rows : List Row) (homes : List ℕ) (values : List Val) (i : Instruction) (given : Result Pointer Exception) → HavePlaces rows homes (shapes_of values)
    → all_suit rows (classes i.op) i.args ≡ true → is_local rows i ≡ true → moves_pointer i.op ≡ true → shapes_of (received homes values i (Some (as_pointer given))).values ≡ shapes_of values
pointer_shapes rows homes values i (Ok p) held suited local moves =
    pointer_put rows homes values (PointerSource ∷ NumberSource ∷ []) i.args (Some p) held
    (ap (λ cs. all_suit rows cs i.args) (sym (pointer_classes i.op moves)) ∙ suited)
    (none_in_space rows i local)
pointer_shapes rows homes values i (Err x) held suited local moves = refl

-- ---- branches

branch_shapes : (homes : List ℕ) (values : List Val) (i : Instruction) (given : Result Bool Exception) → shapes_of (received homes values i (Some (as_branch given))).values ≡ shapes_of values
branch_shapes homes values i (Ok taken) = refl
branch_shapes homes values i (Err x) = refl

-- ---- a computation

pub computed_shapes : (rows : List Row) (homes : List ℕ) (values : List Val) (i : Instruction) → HavePlaces rows homes (shapes_of values) → all_suit rows (classes i.op) i.args ≡ true → is_local rows i ≡ true
    → shapes_of (received homes values i (computed i.op i.round (of_variables rows homes values i.args))).values ≡ shapes_of values
unfolding computed bytes_given
computed_shapes rows homes values i held suited local =
    let r : Readings = of_variables rows homes values i.args in
    let Same : Option (Result Given Exception) → Type 0 = λ c. shapes_of (received homes values i c).values ≡ shapes_of values in
    cond_both (computes_number i.op) _ _ Same
    (λ number. number_shapes homes values i r.receiver (number_given i.op i.round r) (number_numeric i.op i.round r))
    (λ other. cond_both (is_branch i.op) _ _ Same
    (λ branches. branch_shapes homes values i (test_given i.op r))
    (λ other. cond_both (computes_string i.op) _ _ Same
    (λ string. bytes_shapes homes values i (bytes_given i.op r) (string_length i.op r.held (r.bytes 2) (r.bytes 3) (r.bytes 4)))
    (λ other. cond_both (moves_pointer i.op) _ _ Same
    (λ moves. pointer_shapes rows homes values i (pointer_given i.op r) held suited local moves)
    (λ none. refl))))

-- ---- the exception that was taken last

two_bytes : (attr : Attr) → is_two_bytes attr ≡ true → shape_for attr ≡ OfBytes 2
two_bytes (attrs.Packed digits fraction) h = absurd (false≢true h)
two_bytes (attrs.Zoned digits fraction) h = absurd (false≢true h)
two_bytes (attrs.Binary size) h = absurd (false≢true h)
two_bytes (attrs.Chars len) h = ap OfBytes (eqb-true len 2 h)
two_bytes attrs.Pointer h = absurd (false≢true h)

two_form : (form : Form) (shape : Option Shape) → is_two_local_bytes form ≡ true → HasShape form shape → shape ≡ Some (OfBytes 2)
two_form (forms.Local attr first) shape h held = held ∙ ap Some (two_bytes attr h)
two_form (forms.Parm k attr) shape h held = absurd (false≢true h)
two_form (forms.Based base offset attr) shape h held = absurd (false≢true h)
two_form (forms.Handler code at) shape h held = absurd (false≢true h)

two_item : (rows : List Row) (homes : List ℕ) (shapes : List Shape) (k : ℕ) (o : Option Row) → slice_get rows k ≡ o → HavePlaces rows homes shapes
    → form_suits is_two_local_bytes o ≡ true → shape_at shapes (slice_get homes k) ≡ Some (OfBytes 2)
two_item rows homes shapes k None is held h = absurd (false≢true h)
two_item rows homes shapes k (Some row) is held h = two_form row.form (shape_at shapes (slice_get homes k)) h (held.each k row is)

code_shape : (code : ℕ) (v : Val) → shape_of v ≡ OfBytes 2 → shape_of (value_with_bytes (code_bytes code) v) ≡ shape_of v
code_shape code (vals.Bytes old) two = sym two
code_shape code (vals.Ptr p) two = refl
code_shape code (vals.Branch taken) two = refl
code_shape code (vals.Code program) two = refl

code_put : (values : List Val) (to : Option ℕ) (code : ℕ) → shape_at (shapes_of values) to ≡ Some (OfBytes 2) → shapes_of (bytes_put values to (code_bytes code)) ≡ shapes_of values
code_put values to code two =
    changed_shapes values to (value_with_bytes (code_bytes code))
    (λ v there. code_shape code v (same_Some (shape_of v) (OfBytes 2) (ap (option_map shape_of) (sym there) ∙ sym (shape_value values to) ∙ two)))

told_shapes : (rows : List Row) (homes : List ℕ) (values : List Val) (given : List Arg) (code : ℕ) → HavePlaces rows homes (shapes_of values) → at_suits is_two_local_bytes rows (slice_get given 0) ≡ true
    → shapes_of (bytes_put values (receiver_of homes given) (code_bytes code)) ≡ shapes_of values
told_shapes rows homes values [] code held h = refl
told_shapes rows homes values (args.Item k ∷ given) code held h =
    code_put values (slice_get homes k) code (two_item rows homes (shapes_of values) k (slice_get rows k) refl held h)
told_shapes rows homes values (_ ∷ given) code held h = refl

pub control_shapes : (rows : List Row) (frame : Frame) (values : List Val) (i : Instruction) (op : Op) → HavePlaces rows frame.homes (shapes_of values) → keeps_rule rows (operand_rule op) i.args ≡ true
    → shapes_of (controlled frame values i op).values ≡ shapes_of values
unfolding operand_rule keeps_rule
control_shapes rows frame values i Retexcpd held h = told_shapes rows frame.homes values i.args frame.latest held h
control_shapes rows frame values i _ held h = refl
