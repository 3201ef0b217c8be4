-- What an attribute says: how long its bytes are, how many digits it has, and whether it keeps its bounds.
use Rattle.std.specs.Prelude.{ℕ, ◌+◌, ◌/◌, Bool, true, false, ◌&&◌, ◌||◌, nat_le, ◌==◌, if◌then◌else◌}
use Rattle.s38_base.specs.declared.attr.Attr.{Attr}
use Rattle.s38_base.specs.declared.attr.Attr.TheVariants.{Packed, Zoned, Binary, Chars, Pointer}

-- how many bytes it has
abbrev pub length_of : Attr → ℕ
length_of (Packed digits fraction) = digits / 2 + 1
length_of (Zoned digits fraction) = digits
length_of (Binary size) = size
length_of (Chars len) = len
length_of Pointer = 16

-- how many decimal digits its numbers have at most
abbrev pub digits_of : Attr → ℕ
digits_of (Packed digits fraction) = digits
digits_of (Zoned digits fraction) = digits
digits_of (Binary size) = if size == 2 then 5 else 10
digits_of (Chars len) = 0
digits_of Pointer = 0

-- how many of the digits are after the point
abbrev pub fraction_of : Attr → ℕ
fraction_of (Packed digits fraction) = fraction
fraction_of (Zoned digits fraction) = fraction
fraction_of (Binary size) = 0
fraction_of (Chars len) = 0
fraction_of Pointer = 0

-- 1 to 31 digits, and no more after the point than there are
abbrev pub are_digit_counts : ℕ → ℕ → Bool
are_digit_counts digits fraction = nat_le 1 digits && (nat_le digits 31 && nat_le fraction digits)

-- it is that of a number, and keeps its bounds
abbrev pub is_numeric : Attr → Bool
is_numeric (Packed digits fraction) = are_digit_counts digits fraction
is_numeric (Zoned digits fraction) = are_digit_counts digits fraction
is_numeric (Binary size) = (size == 2) || (size == 4)
is_numeric (Chars len) = false
is_numeric Pointer = false

-- it keeps the bounds of a declaration; bytes are 1 to 4,096
abbrev pub is_bounded : Attr → Bool
is_bounded (Packed digits fraction) = are_digit_counts digits fraction
is_bounded (Zoned digits fraction) = are_digit_counts digits fraction
is_bounded (Binary size) = (size == 2) || (size == 4)
is_bounded (Chars len) = nat_le 1 len && nat_le len 4096
is_bounded Pointer = true

abbrev pub is_pointer_attr : Attr → Bool
is_pointer_attr (Packed digits fraction) = false
is_pointer_attr (Zoned digits fraction) = false
is_pointer_attr (Binary size) = false
is_pointer_attr (Chars len) = false
is_pointer_attr Pointer = true

abbrev pub same_attr : Attr → Attr → Bool
same_attr (Packed digits fraction) (Packed others behind) = (digits == others) && (fraction == behind)
same_attr (Zoned digits fraction) (Zoned others behind) = (digits == others) && (fraction == behind)
same_attr (Binary size) (Binary other) = size == other
same_attr (Chars len) (Chars other) = len == other
same_attr Pointer Pointer = true
same_attr _ _ = false
