-- Literals: text as 'ABC' of A to Z, 0 to 9 and blank, bytes as X'C1C2', and numbers.
use Rattle.std.specs.Prelude.{ℕ, ◌+◌, ◌-◌, ◌*◌, ◌/◌, ◌%◌, Bool, ◌&&◌, ◌||◌, ◌==◌, List, map, take, drop, length, slice_index, Option, Some, None, nat_le, if◌then◌else◌}
use Rattle.std.specs.List.{list_all, range_with_len}
use Rattle.std.specs.Option.{option_map, option_and_then}
use Rattle.s38_base.specs.Scalar.{digit_at, scalar_image}
use Rattle.s38_base.specs.declared.attr.Attr.TheVariants.{Packed, Chars}
use Rattle.s38_words.specs.Number.{number_spelled}
use Rattle.s38_words.specs.Text.{are_hex_digits, hex_byte, is_digit, is_letter}
use Rattle.s38_code.specs.declared.program.Arg.{Arg}
use Rattle.s38_code.specs.declared.program.Arg.TheVariants.{Literal}
use Rattle.s38_words.specs.declared.numbers.Numeral.{Numeral}

-- what is between a quote that begins the text and a quote that ends it
abbrev pub quoted : List ℕ → Option (List ℕ)
quoted text =
    if nat_le 2 (length text) && ((slice_index text 0 == 39) && (slice_index text (length text - 1) == 39))
    then Some (take (length text - 2) (drop 1 text))
    else None

abbrev pub is_text_byte : ℕ → Bool
is_text_byte c = (c == 32) || (is_letter c || is_digit c)

-- in EBCDIC: A to I are C1 to C9, J to R D1 to D9, S to Z E2 to E9, 0 to 9 F0 to F9, and blank is 40
abbrev pub ebcdic : ℕ → ℕ
ebcdic c = if c == 32 then 64 else (if nat_le c 57 then c + 192 else (if nat_le c 73 then c + 128 else (if nat_le c 82 then c + 135 else c + 143)))

abbrev pub text_bytes : List ℕ → Option (List ℕ)
text_bytes text = if list_all is_text_byte text then Some (map ebcdic text) else None

-- byte k is spelled by the digits 2k and 2k + 1
abbrev pub spelled_byte : List ℕ → ℕ → ℕ
spelled_byte digits k = hex_byte (slice_index digits (2 * k)) (slice_index digits (2 * k + 1))

abbrev pub is_hex_text : List ℕ → Bool
is_hex_text digits = are_hex_digits digits && (length digits % 2 == 0)

abbrev pub hex_bytes : List ℕ → Option (List ℕ)
hex_bytes digits =
    if is_hex_text digits then Some (map (spelled_byte digits) (range_with_len 0 (length digits / 2))) else None

-- the bytes that a text literal spells; an X comes before the quote of hexadecimal digits
unfoldable pub text_of : List ℕ → Option (List ℕ)
text_of text =
    if slice_index text 0 == 88
    then option_and_then hex_bytes (quoted (drop 1 text))
    else option_and_then text_bytes (quoted text)

-- its attribute is that of so many bytes; no literal is longer than a line, of 255 bytes
abbrev pub text_from : List ℕ → Option Arg
text_from bytes = if nat_le (length bytes) 255 then Some (Literal (Chars (length bytes)) bytes) else None

-- a text literal as an operand
unfoldable pub text_literal : List ℕ → Option Arg
text_literal text = option_and_then text_from (text_of text)

-- byte k of a packed number of whose bytes the last is number h
abbrev pub packed_with : ℕ → ℕ → ℕ → ℕ → ℕ
packed_with h number sign k =
    digit_at 10 number (2 * (h - k)) * 16 + (if k == h then sign else digit_at 10 number (2 * (h - k) - 1))

-- a packed number of as many digits as are written
abbrev pub packed_number : Numeral → Arg
packed_number n = Literal (Packed n.digits n.fraction) (scalar_image (Packed n.digits n.fraction) n.units)

-- a numeric literal as an operand
unfoldable pub number_literal : List ℕ → Option Arg
number_literal text = option_map packed_number (number_spelled text)
