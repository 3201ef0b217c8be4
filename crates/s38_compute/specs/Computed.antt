-- Computations: what an instruction gives by its readings, or the exception that it signals. All sources are read
-- before anything is written.
use Rattle.std.specs.Prelude.{ℕ, ◌-◌, ◌==◌, ◌&&◌, ◌||◌, Bool, true, false, not, ℤ, List, length, min, replicate, Option, Some, None, Result, Ok, Err, if◌then◌else◌}
use Rattle.s38_base.specs.declared.attr.Attr.{Attr}
use Rattle.s38_base.specs.declared.exception.Exception.{Exception}
use Rattle.s38_base.specs.declared.op.Op.{Op}
use Rattle.s38_base.specs.declared.op.Op.TheVariants.{Addn, Subn, Mult, Div, Rem, Cmpnvb, Cpybla, Cpybra, Cpyblap, Cat, Xlate, Cvthc, Cvtch, And, Or, Xor, Not, Cmpblab, Cmpptrt, Addspp, Subspp}
use Rattle.s38_base.specs.declared.pointer.Pointer.{Pointer}
use Rattle.s38_base.specs.Relations.{relation_of}
use Rattle.s38_base.specs.Scalar.{fits, scalar_image}
use Rattle.s38_code.specs.declared.reply.Val.{Val}
use Rattle.s38_code.specs.declared.reply.Val.TheVariants as vals
use Rattle.s38_decimal.specs.declared.dec.Target.{Target}
use Rattle.s38_decimal.specs.Need.{has_one}
use Rattle.s38_compute.specs.declared.given.Given.{Given}
use Rattle.s38_compute.specs.declared.given.Given.TheVariants as givens
use Rattle.s38_compute.specs.Compute.{bytes_order, numbers_compared, one_number, pointer_kind_number, pointer_moved, string_given, two_numbers, word_holds}
use Rattle.s38_compute.specs.Readings.{Readings}

-- ---- which instructions compute

-- a number of two numbers
abbrev pub is_of_two : Op → Bool
is_of_two Addn = true
is_of_two Subn = true
is_of_two Mult = true
is_of_two Div = true
is_of_two Rem = true
is_of_two _ = false

-- or of one
abbrev pub computes_number : Op → Bool
computes_number op = is_of_two op || has_one op

-- a comparison tells whether it branches, and has no receiver
abbrev pub is_branch : Op → Bool
is_branch Cmpnvb = true
is_branch Cmpblab = true
is_branch Cmpptrt = true
is_branch _ = false

abbrev pub computes_string : Op → Bool
computes_string Cpybla = true
computes_string Cpybra = true
computes_string Cpyblap = true
computes_string Cat = true
computes_string Xlate = true
computes_string Cvthc = true
computes_string Cvtch = true
computes_string And = true
computes_string Or = true
computes_string Xor = true
computes_string Not = true
computes_string _ = false

abbrev pub moves_pointer : Op → Bool
moves_pointer Addspp = true
moves_pointer Subspp = true
moves_pointer _ = false

abbrev pub is_computation : Op → Bool
is_computation op = computes_number op || (is_branch op || (computes_string op || moves_pointer op))

-- ---- copies

-- bytes are copied at the left, and a longer receiver keeps its others
abbrev pub copies_left : Op → Bool
copies_left Cpybla = true
copies_left Xlate = true
copies_left _ = false

-- or at the right
abbrev pub copies_right : Op → Bool
copies_right Cpybra = true
copies_right _ = false

abbrev pub is_copy : Op → Bool
is_copy op = copies_left op || copies_right op

-- how many bytes are copied
abbrev pub copied_len : Readings → ℕ
copied_len r = min r.room (length (r.bytes 2))

-- a copy at the right begins so many bytes after the beginning of its receiver
abbrev pub shift_of : Op → Readings → ℕ
shift_of op r = if copies_right op then r.room - length (r.bytes 2) else 0

-- ---- what is given

abbrev pub receiver_target : Bool → Readings → Target
receiver_target round r = record { attr = r.receiver; round = round }

unfoldable pub number_given : Op → Bool → Readings → Result ℤ Exception
number_given op round r =
    if has_one op then one_number op (receiver_target round r) (r.attr 2) (r.number 2) r.power
    else two_numbers op (receiver_target round r) (r.attr 2) (r.number 2) (r.attr 3) (r.number 3)

unfoldable pub test_given : Op → Readings → Result Bool Exception
test_given Cmpnvb r = numbers_compared (relation_of (r.word 3)) (r.attr 1) (r.number 1) (r.attr 2) (r.number 2)
test_given Cmpblab r = Ok (word_holds (relation_of (r.word 3)) (bytes_order (r.bytes 1) (r.bytes 2)))
test_given _ r = Ok (pointer_kind_number (r.pointer 1) == r.word 2)

-- what a string is written over
abbrev pub written_over : Op → Readings → List ℕ
written_over op r = if not r.keeps_rest && is_copy op then replicate (copied_len r) 0 else r.held

unfoldable pub bytes_given : Op → Readings → Result (List ℕ) Exception
bytes_given op r = string_given op (written_over op r) (r.bytes 2) (r.bytes 3) (r.bytes 4)

unfoldable pub pointer_given : Op → Readings → Result Pointer Exception
pointer_given op r = pointer_moved op (r.pointer 2) (r.attr 3) (r.number 3)

-- ---- all of them

abbrev pub as_number : Attr → Result ℤ Exception → Result Given Exception
as_number attr (Err x) = Err x
as_number attr (Ok z) = Ok (givens.Number attr z)

abbrev pub as_branch : Result Bool Exception → Result Given Exception
as_branch (Err x) = Err x
as_branch (Ok taken) = Ok (givens.Branch taken)

abbrev pub as_bytes : Result (List ℕ) Exception → Result Given Exception
as_bytes (Err x) = Err x
as_bytes (Ok bytes) = Ok (givens.Bytes bytes)

abbrev pub as_pointer : Result Pointer Exception → Result Given Exception
as_pointer (Err x) = Err x
as_pointer (Ok p) = Ok (givens.Pointer p)

-- what another instruction does is no computation
unfoldable pub computed : Op → Bool → Readings → Option (Result Given Exception)
computed op round r =
    if computes_number op then Some (as_number r.receiver (number_given op round r)) else
    (if is_branch op then Some (as_branch (test_given op r)) else
    (if computes_string op then Some (as_bytes (bytes_given op r)) else
    (if moves_pointer op then Some (as_pointer (pointer_given op r)) else None)))

-- what a computation signals
abbrev pub failure_in : Option (Result Given Exception) → Option Exception
failure_in None = None
failure_in (Some (Err x)) = Some x
failure_in (Some (Ok given)) = None

-- what it gives
abbrev pub given_in : Option (Result Given Exception) → Option Given
given_in None = None
given_in (Some (Err x)) = None
given_in (Some (Ok given)) = Some given

-- a number that is given fits its receiver
abbrev pub given_is_held : Given → Bool
given_is_held (givens.Number attr z) = fits attr z
given_is_held given = true

abbrev pub is_held_in : Option (Result Given Exception) → Bool
is_held_in (Some (Ok given)) = given_is_held given
is_held_in (Some (Err x)) = true
is_held_in None = true

-- ---- as a value

abbrev pub as_value : Given → Val
as_value (givens.Number attr z) = vals.Bytes (scalar_image attr z)
as_value (givens.Bytes bytes) = vals.Bytes bytes
as_value (givens.Pointer p) = vals.Ptr (Some p)
as_value (givens.Branch taken) = vals.Branch taken

-- the value that it gives to a receiver, or with the reply
abbrev pub value_in : Option (Result Given Exception) → Option Val
value_in None = None
value_in (Some (Err x)) = None
value_in (Some (Ok given)) = Some (as_value given)
