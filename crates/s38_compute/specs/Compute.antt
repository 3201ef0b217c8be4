-- What a computation gives once its sources are read, wherever they lie: a number, bytes, a pointer, or the
-- exception that it signals.
use Rattle.std.specs.Prelude.{ℕ, ◌*◌, ◌==◌, ◌&&◌, Bool, true, false, ℤ, pos, negsuc, ◌+ℤ◌, ◌-ℤ◌, List, ◌++◌, length, map, slice_index, min, take, Option, Some, None, Result, Ok, Err, nat_le, if◌then◌else◌}
use Rattle.std.specs.Cmp.Lexicographic.{slice_cmp}
use Rattle.std.specs.declared.cmp.Ordering.{Ordering}
use Rattle.std.specs.Ordering.{nat_cmp}
use Rattle.s38_base.specs.declared.attr.Attr.{Attr}
use Rattle.s38_base.specs.declared.exception.Exception.{Exception}
use Rattle.s38_base.specs.declared.id.ObjNum.{ObjNum}
use Rattle.s38_base.specs.declared.op.Op.{Op}
use Rattle.s38_base.specs.declared.op.Op.TheVariants.{Addn, Subn, Mult, Div, Rem, Neg, Cpynv, Scale, Cpybla, Cpybra, Cpyblap, Cat, Xlate, Cvthc, Cvtch, And, Or, Xor, Not, Subspp}
use Rattle.s38_base.specs.declared.pointer.Pointer.{Pointer}
use Rattle.s38_base.specs.declared.pointer.Pointer.TheVariants as pointers
use Rattle.s38_base.specs.declared.words.Relation.{Relation}
use Rattle.s38_base.specs.declared.words.Relation.TheVariants.{Any, First, Last}
use Rattle.s38_base.specs.Exceptions as exceptions
use Rattle.s38_base.specs.Limits as limits
use Rattle.s38_base.specs.Relations.{holds}
use Rattle.s38_base.specs.Attributes.{fraction_of, is_numeric}
use Rattle.s38_base.specs.Signals.{plain}
use Rattle.s38_decimal.specs.declared.dec.Target.{Target}
use Rattle.s38_decimal.specs.declared.dec.DecimalFault.{DecimalFault}
use Rattle.s38_decimal.specs.declared.dec.DecimalFault.TheVariants as faults
use Rattle.s38_decimal.specs.Need.{need_of}
use Rattle.s38_decimal.specs.Values.{Exact, answer, difference_of, exact, exact_order, negative_of, product_of, quotient_answer, remainder_answer, scaled_by, sum_of, whole_part_of}
use Rattle.s38_strings.specs.Bits.{combined}
use Rattle.s38_strings.specs.Copies.{copied_left, copied_right, filled}
use Rattle.s38_strings.specs.Hex.{are_hex, bytes_spelled, read}
use Rattle.s38_strings.specs.Translate.{translated}

-- ---- numbers

-- with two sources
abbrev pub of_two : Op → Target → Exact → Exact → Result ℤ DecimalFault
of_two Addn to x y = answer to (sum_of x y)
of_two Subn to x y = answer to (difference_of x y)
of_two Mult to x y = answer to (product_of x y)
of_two Div to x y = quotient_answer to x y
of_two Rem to x y = remainder_answer to x y
of_two _ to x y = Err faults.Size

-- with one source, and the power of SCALE
abbrev pub of_one : Op → Target → Exact → ℤ → Result ℤ DecimalFault
of_one Neg to x power = answer to (negative_of x)
of_one Cpynv to x power = answer to x
of_one Scale to x power = answer to (scaled_by x power)
of_one _ to x power = Err faults.Size

-- the receiver holds numbers, and the digits that are needed are 38 at most. Creation sees to both, and to the
-- power; where one fails the result doesn't fit
abbrev pub result_has_room : Op → Attr → Attr → Attr → ℤ → Bool
result_has_room op a b to power = is_numeric to && nat_le (need_of op a b to power) 38

-- a power of SCALE is from -31 to 31
abbrev pub is_scale_power : ℤ → Bool
is_scale_power (pos n) = nat_le n 31
is_scale_power (negsuc n) = nat_le n 30

unfoldable pub two_computed : Op → Target → Attr → ℤ → Attr → ℤ → Result ℤ DecimalFault
two_computed op to a x b y =
    if result_has_room op a b to.attr (pos 0) then of_two op to (exact x (fraction_of a)) (exact y (fraction_of b))
    else Err faults.Size

unfoldable pub one_computed : Op → Target → Attr → ℤ → ℤ → Result ℤ DecimalFault
one_computed op to a x power =
    if is_scale_power power && result_has_room op a a to.attr power then of_one op to (exact x (fraction_of a)) power
    else Err faults.Size

-- the divisor is operand 3 and the receiver operand 1
abbrev pub fault_signal : DecimalFault → Exception
fault_signal faults.DecimalData = plain exceptions.decimal_data 2
fault_signal faults.ZeroDivide = plain exceptions.zero_divide 3
fault_signal faults.Size = plain exceptions.size 1

abbrev pub signalled : Result ℤ DecimalFault → Result ℤ Exception
signalled (Ok z) = Ok z
signalled (Err fault) = Err (fault_signal fault)

-- first the sources in their order, then the divisor, then the receiver
abbrev pub two_numbers : Op → Target → Attr → Option ℤ → Attr → Option ℤ → Result ℤ Exception
two_numbers op to a None b y = Err (plain exceptions.decimal_data 2)
two_numbers op to a (Some x) b None = Err (plain exceptions.decimal_data 3)
two_numbers op to a (Some x) b (Some y) = signalled (two_computed op to a x b y)

abbrev pub one_number : Op → Target → Attr → Option ℤ → ℤ → Result ℤ Exception
one_number op to a None power = Err (plain exceptions.decimal_data 2)
one_number op to a (Some x) power = signalled (one_computed op to a x power)

-- ---- comparisons

-- ANY, FIRST and LAST compare nothing
abbrev pub compares : Relation → Bool
compares Any = false
compares First = false
compares Last = false
compares _ = true

-- whether the relation of a word holds; another word holds never
abbrev pub word_holds : Option Relation → Ordering → Bool
word_holds None order = false
word_holds (Some relation) order = compares relation && holds relation order

abbrev pub numbers_compared : Option Relation → Attr → Option ℤ → Attr → Option ℤ → Result Bool Exception
numbers_compared relation a None b y = Err (plain exceptions.decimal_data 1)
numbers_compared relation a (Some x) b None = Err (plain exceptions.decimal_data 2)
numbers_compared relation a (Some x) b (Some y) =
    Ok (word_holds relation (exact_order (exact x (fraction_of a)) (exact y (fraction_of b))))

-- as unsigned bytes over the shorter length
abbrev pub bytes_order : List ℕ → List ℕ → Ordering
bytes_order a b = let len = min (length a) (length b) in slice_cmp nat_cmp (take len a) (take len b)

-- ---- strings: `into` is what the receiver holds before, then follow the sources

-- bytes whose lengths are not the row's are not written
abbrev pub where_long : Bool → List ℕ → List ℕ → List ℕ
where_long long bytes into = if long then bytes else into

abbrev pub from_hex : List ℕ → List ℕ → Result (List ℕ) Exception
from_hex into a = if are_hex a then Ok (read a (length into)) else Err (plain exceptions.conversion 2)

abbrev pub ebcdic_blank : ℕ
ebcdic_blank = 0x40

unfoldable pub string_given : Op → List ℕ → List ℕ → List ℕ → List ℕ → Result (List ℕ) Exception
string_given Cpybla into a b c = Ok (copied_left into a)
string_given Cpybra into a b c = Ok (copied_right into a)
string_given Cpyblap into a b c = Ok (filled (length into) (slice_index b 0) a)
string_given Cat into a b c = Ok (filled (length into) ebcdic_blank (a ++ b))
string_given Xlate into a b c = Ok (where_long (length b == length c) (copied_left into (map (translated b c) a)) into)
string_given Cvthc into a b c = Ok (where_long (length into == 2 * length a) (bytes_spelled a (length into)) into)
string_given Cvtch into a b c = if length a == 2 * length into then from_hex into a else Ok into
string_given And into a b c = Ok (where_long ((length a == length into) && (length b == length into)) (combined And (length into) a b) into)
string_given Or into a b c = Ok (where_long ((length a == length into) && (length b == length into)) (combined Or (length into) a b) into)
string_given Xor into a b c = Ok (where_long ((length a == length into) && (length b == length into)) (combined Xor (length into) a b) into)
string_given Not into a b c = Ok (where_long (length a == length into) (combined Not (length into) a a) into)
string_given _ into a b c = Ok into

-- ---- pointers

-- the words SYS, SPC, DTA and NONE are numbered from 0 on
abbrev pub pointer_kind_number : Option Pointer → ℕ
pointer_kind_number (Some (pointers.System object rights)) = 0
pointer_kind_number (Some (pointers.Space object offset)) = 1
pointer_kind_number (Some (pointers.Item object offset attr)) = 2
pointer_kind_number None = 3

abbrev pub offset_in : ℤ → Option ℕ
offset_in (pos n) = if nat_le n limits.furthest then Some n else None
offset_in (negsuc n) = None

-- SUBSPP moves backwards
abbrev pub is_backwards : Op → Bool
is_backwards Subspp = true
is_backwards _ = false

abbrev pub moved_offset : Bool → ℕ → ℤ → Option ℕ
moved_offset backwards offset by = offset_in (if backwards then pos offset -ℤ by else pos offset +ℤ by)

abbrev pub pointing : ObjNum → Option ℕ → Result Pointer Exception
pointing object None = Err (plain exceptions.space_addressing 3)
pointing object (Some offset) = Ok (pointers.Space object offset)

abbrev pub space_moved : Op → ObjNum → ℕ → Attr → Option ℤ → Result Pointer Exception
space_moved op object offset a None = Err (plain exceptions.decimal_data 3)
space_moved op object offset a (Some x) =
    pointing object (moved_offset (is_backwards op) offset (whole_part_of (exact x (fraction_of a))))

-- a space pointer, moved by a number whose fraction is dropped
abbrev pub pointer_moved : Op → Option Pointer → Attr → Option ℤ → Result Pointer Exception
pointer_moved op None a x = Err (plain exceptions.pointer_missing 2)
pointer_moved op (Some (pointers.Space object offset)) a x = space_moved op object offset a x
pointer_moved op (Some p) a x = Err (plain exceptions.pointer_type_invalid 2)
