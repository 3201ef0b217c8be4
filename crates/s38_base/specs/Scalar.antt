-- What the bytes of a scalar mean: which whole number they hold, and how a number is written.
use Rattle.std.specs.Prelude.{ℕ, zero, suc, ◌+◌, ◌-◌, ◌*◌, ◌/◌, ◌%◌, ◌^◌, Bool, true, false, ◌&&◌, ◌||◌, ℤ, pos, negsuc, neg_ℤ, unsigned_abs, List, [], map, length, slice_index, Option, Some, None, nat_lt, nat_le, ◌==◌, if◌then◌else◌}
use Rattle.std.specs.List.{range_with_len}
use Rattle.s38_base.specs.declared.attr.Attr.{Attr}
use Rattle.s38_base.specs.declared.attr.Attr.TheVariants.{Packed, Zoned, Binary, Chars, Pointer}
use Rattle.s38_base.specs.Attributes.{digits_of, is_numeric, length_of}

-- ---- which numbers it holds, in units of its last digit

-- a signed number of so many bytes lies from -2^k to 2^k - 1 where k is one less than its bits
abbrev pub fits_bytes : ℕ → ℤ → Bool
fits_bytes size (pos n) = nat_lt n (2 ^ (8 * size - 1))
fits_bytes size (negsuc n) = nat_lt n (2 ^ (8 * size - 1))

abbrev pub fits_size : Attr → ℤ → Bool
fits_size (Packed digits fraction) z = nat_lt (unsigned_abs z) (10 ^ digits)
fits_size (Zoned digits fraction) z = nat_lt (unsigned_abs z) (10 ^ digits)
fits_size (Binary size) z = fits_bytes size z
fits_size (Chars len) z = false
fits_size Pointer z = false

-- the attribute is numeric and holds the number
unfoldable pub fits : Attr → ℤ → Bool
fits attr z = is_numeric attr && fits_size attr z

-- ---- what the bytes mean

-- half byte k, counted from the left
abbrev pub half_byte : List ℕ → ℕ → ℕ
half_byte bytes k = if k % 2 == 0 then slice_index bytes (k / 2) / 16 else slice_index bytes (k / 2) % 16

-- how many half bytes come before the digits of a packed number: one where their count is even
abbrev pub half_bytes_before : ℕ → ℕ
half_bytes_before digits = 1 - digits % 2

-- digit k, counted from the left: a half byte, the last half of a byte, a whole byte
abbrev pub digit_in : Attr → List ℕ → ℕ → ℕ
digit_in (Packed digits fraction) bytes k = half_byte bytes (half_bytes_before digits + k)
digit_in (Zoned digits fraction) bytes k = slice_index bytes k % 16
digit_in (Binary size) bytes k = slice_index bytes k
digit_in (Chars len) bytes k = 0
digit_in Pointer bytes k = 0

-- the number that the first n digits spell in a base
abbrev pub number_from : ℕ → (ℕ → ℕ) → ℕ → ℕ
number_from base digit zero = 0
number_from base digit (suc n) = number_from base digit n * base + digit n

-- the first n are decimal digits
abbrev pub are_decimal : (ℕ → ℕ) → ℕ → Bool
are_decimal digit zero = true
are_decimal digit (suc n) = are_decimal digit n && nat_lt (digit n) 10

-- A to F are signs, B and D minus
abbrev pub is_sign : ℕ → Bool
is_sign sign = nat_le 10 sign

abbrev pub is_minus : ℕ → Bool
is_minus sign = (sign == 11) || (sign == 13)

abbrev pub with_minus : Bool → ℕ → ℤ
with_minus minus n = if minus then neg_ℤ (pos n) else pos n

-- the sign: the last half byte, or the zone of the last byte
abbrev pub sign_in : Attr → List ℕ → ℕ
sign_in (Packed digits fraction) bytes = slice_index bytes (digits / 2) % 16
sign_in (Zoned digits fraction) bytes = slice_index bytes (digits - 1) / 16
sign_in (Binary size) bytes = 0
sign_in (Chars len) bytes = 0
sign_in Pointer bytes = 0

-- where a packed number has an even count of digits, its first half byte is 0
abbrev pub begins_right : Attr → List ℕ → Bool
begins_right (Packed digits fraction) bytes = (digits % 2 == 1) || (slice_index bytes 0 / 16 == 0)
begins_right (Zoned digits fraction) bytes = true
begins_right (Binary size) bytes = true
begins_right (Chars len) bytes = true
begins_right Pointer bytes = true

abbrev pub is_spelled : Attr → List ℕ → Bool
is_spelled attr bytes = begins_right attr bytes && (are_decimal (digit_in attr bytes) (digits_of attr) && is_sign (sign_in attr bytes))

abbrev pub spelled : Attr → List ℕ → Option ℤ
spelled attr bytes =
    if is_spelled attr bytes
    then Some (with_minus (is_minus (sign_in attr bytes)) (number_from 10 (digit_in attr bytes) (digits_of attr)))
    else None

-- a number of so many bytes, read as two's complement
abbrev pub twos_complement : ℕ → ℕ → ℤ
twos_complement size n = if nat_lt n (2 ^ (8 * size - 1)) then pos n else negsuc (2 ^ (8 * size) - suc n)

abbrev pub meaning_of : Attr → List ℕ → Option ℤ
meaning_of (Packed digits fraction) bytes = spelled (Packed digits fraction) bytes
meaning_of (Zoned digits fraction) bytes = spelled (Zoned digits fraction) bytes
meaning_of (Binary size) bytes = Some (twos_complement size (number_from 256 (slice_index bytes) size))
meaning_of (Chars len) bytes = None
meaning_of Pointer bytes = None

-- the whole number that the bytes hold, in units of the last digit. Bytes of another length, other
-- bytes than the form allows, and attributes that are not of a number have none
unfoldable pub value_of : Attr → List ℕ → Option ℤ
value_of attr bytes = if is_numeric attr && (length bytes == length_of attr) then meaning_of attr bytes else None

-- ---- how a number is written

-- the digit of n that has k digits after it
abbrev pub digit_at : ℕ → ℕ → ℕ → ℕ
digit_at base n k = n / base ^ k % base

-- F is plus and D minus; zero is plus
abbrev pub sign_of : ℤ → ℕ
sign_of (pos n) = 15
sign_of (negsuc n) = 13

-- byte k of a packed number of whose bytes the last is number h
abbrev pub packed_byte : ℕ → ℤ → ℕ → ℕ
packed_byte h z k =
    digit_at 10 (unsigned_abs z) (2 * (h - k)) * 16
    + (if k == h then sign_of z else digit_at 10 (unsigned_abs z) (2 * (h - k) - 1))

-- byte k of a zoned number of so many digits
abbrev pub zoned_byte : ℕ → ℤ → ℕ → ℕ
zoned_byte digits z k = (if k + 1 == digits then sign_of z else 15) * 16 + digit_at 10 (unsigned_abs z) (digits - 1 - k)

-- the bits of a signed number, as a number of so many bytes
abbrev pub bits_of : ℕ → ℤ → ℕ
bits_of size (pos n) = n
bits_of size (negsuc n) = 2 ^ (8 * size) - suc n

-- the bytes that are written for a number that fits
unfoldable pub scalar_image : Attr → ℤ → List ℕ
scalar_image (Packed digits fraction) z = map (packed_byte (digits / 2) z) (range_with_len 0 (digits / 2 + 1))
scalar_image (Zoned digits fraction) z = map (zoned_byte digits z) (range_with_len 0 digits)
scalar_image (Binary size) z = map (λ k. digit_at 256 (bits_of size z) (size - 1 - k)) (range_with_len 0 size)
scalar_image (Chars len) z = []
scalar_image Pointer z = []
