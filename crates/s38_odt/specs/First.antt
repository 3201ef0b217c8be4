-- The bytes with which a variable begins.
use Rattle.std.specs.Prelude.{ℕ, ◌-◌, ◌*◌, ◌/◌, ◌%◌, ◌^◌, ◌==◌, ◌++◌, ℤ, pos, negsuc, unsigned_abs, Bool, true, false, List, [], length, replicate, nat_le, Option, Some, None, if◌then◌else◌}
use Rattle.std.specs.Option.{option_and_then}
use Rattle.s38_base.specs.Scalar.{fits, scalar_image, with_minus}
use Rattle.s38_base.specs.Attributes.{fraction_of}
use Rattle.s38_base.specs.declared.attr.Attr.{Attr}
use Rattle.s38_base.specs.declared.attr.Attr.TheVariants.{Packed, Zoned, Binary, Chars, Pointer}
use Rattle.s38_words.specs.Literal.{text_of}
use Rattle.s38_words.specs.Number.{number_spelled}
use Rattle.s38_words.specs.declared.numbers.Numeral.{Numeral}

-- ---- numbers

-- the bytes of a number, where the attribute holds it
abbrev pub units_held : Attr → ℤ → Option (List ℕ)
units_held attr z = if fits attr z then Some (scalar_image attr z) else None

abbrev pub is_negative : ℤ → Bool
is_negative (pos n) = false
is_negative (negsuc n) = true

-- how many more digits the attribute has after the point than the literal, and how many fewer
abbrev pub more_digits : Attr → Numeral → ℕ
more_digits attr n = fraction_of attr - n.fraction

abbrev pub fewer_digits : Attr → Numeral → ℕ
fewer_digits attr n = n.fraction - fraction_of attr

-- the digits that the attribute has no place for are zeros
abbrev pub is_exact : Attr → Numeral → Bool
is_exact attr n = unsigned_abs n.units % 10 ^ fewer_digits attr n == 0

-- the literal in units of the attribute's last digit
abbrev pub magnitude_in : Attr → Numeral → ℕ
magnitude_in attr n = unsigned_abs n.units / 10 ^ fewer_digits attr n * 10 ^ more_digits attr n

abbrev pub units_in : Attr → Numeral → ℤ
units_in attr n = with_minus (is_negative n.units) (magnitude_in attr n)

-- the bytes of a number literal, where the attribute holds it exactly
unfoldable pub number_held : Attr → Numeral → Option (List ℕ)
number_held attr n = if is_exact attr n then units_held attr (units_in attr n) else None

-- ---- texts

-- shorter text is filled with blanks
abbrev pub blank_filled : ℕ → List ℕ → List ℕ
blank_filled len bytes = bytes ++ replicate (len - length bytes) 64

abbrev pub text_held : Attr → List ℕ → Option (List ℕ)
text_held (Packed digits fraction) bytes = None
text_held (Zoned digits fraction) bytes = None
text_held (Binary size) bytes = None
text_held (Chars len) bytes = if nat_le (length bytes) len then Some (blank_filled len bytes) else None
text_held Pointer bytes = None

-- ---- variables

-- without a literal numbers begin as plus 0, bytes as blanks, and pointers as none
abbrev pub blank_of : Attr → Option (List ℕ)
blank_of (Packed digits fraction) = units_held (Packed digits fraction) (pos 0)
blank_of (Zoned digits fraction) = units_held (Zoned digits fraction) (pos 0)
blank_of (Binary size) = units_held (Binary size) (pos 0)
blank_of (Chars len) = Some (replicate len 64)
blank_of Pointer = Some []

-- the bytes of a number or a text
abbrev pub either_held : Attr → Option Numeral → Option (List ℕ) → Option (List ℕ)
either_held attr (Some n) text = number_held attr n
either_held attr None text = option_and_then (text_held attr) text

abbrev pub literal_held : Attr → List ℕ → Option (List ℕ)
literal_held attr literal = either_held attr (number_spelled literal) (text_of literal)

-- the first bytes of a variable with a literal or without one, where the attribute holds it exactly
abbrev pub initial_bytes : Attr → Option (List ℕ) → Option (List ℕ)
initial_bytes attr None = blank_of attr
initial_bytes attr (Some literal) = literal_held attr literal
