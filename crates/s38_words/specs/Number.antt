-- Numbers as decks write them: decimal digits, perhaps after a minus, perhaps with a point among them.
use Rattle.std.specs.Prelude.{ℕ, ◌+◌, ◌-◌, ◌*◌, min, ℤ, Bool, true, ◌&&◌, ◌||◌, not, ◌==◌, List, [], ◌∷◌, drop, length, slice_index, Option, Some, None, nat_le, nat_lt, if◌then◌else◌}
use Rattle.std.specs.List.{list_all}
use Rattle.s38_base.specs.Scalar.{with_minus}
use Rattle.s38_words.specs.Text.{after_byte, before, is_digit}
use Rattle.s38_words.specs.declared.numbers.Numeral.{Numeral}

-- the number that digits write where they follow those of n
abbrev pub value_after : ℕ → List ℕ → ℕ
value_after n [] = n
value_after n (c ∷ cs) = value_after (n * 10 + (c - 48)) cs

abbrev pub value_of_digits : List ℕ → ℕ
value_of_digits digits = value_after 0 digits

abbrev pub are_digits : List ℕ → Bool
are_digits text = list_all is_digit text

-- one digit or more
abbrev pub is_numeral : List ℕ → Bool
is_numeral text = nat_lt 0 (length text) && are_digits text

-- digits without a leading zero
abbrev pub is_whole_number : List ℕ → Bool
is_whole_number text = is_numeral text && ((length text == 1) || not (slice_index text 0 == 48))

-- the number that such digits write
unfoldable pub natural_of : List ℕ → Option ℕ
natural_of text = if is_whole_number text then Some (value_of_digits text) else None

-- a number that is too large for its place is taken as the largest
abbrev pub capped : ℕ → ℕ → ℕ
capped largest n = min n largest

-- ---- with a minus

abbrev pub has_minus : List ℕ → Bool
has_minus text = slice_index text 0 == 45

abbrev pub without_minus : List ℕ → List ℕ
without_minus text = if has_minus text then drop 1 text else text

abbrev pub is_signed_whole : List ℕ → Bool
is_signed_whole digits = is_whole_number digits && nat_le (length digits) 31

-- a whole literal: at most 31 digits without a leading zero, perhaps after a minus
unfoldable pub whole_spelled : List ℕ → Option ℤ
whole_spelled text =
    if is_signed_whole (without_minus text) then Some (with_minus (has_minus text) (value_of_digits (without_minus text))) else None

-- ---- with a point

-- the digits after the point, if there is one
abbrev pub fraction_digits : Option (List ℕ) → List ℕ
fraction_digits None = []
fraction_digits (Some digits) = digits

abbrev pub is_fraction : Option (List ℕ) → Bool
is_fraction None = true
is_fraction (Some digits) = is_numeral digits

-- digits come before the point and after it, 31 at most
abbrev pub is_number : List ℕ → Option (List ℕ) → Bool
is_number front back = is_numeral front && (is_fraction back && nat_le (length front + length (fraction_digits back)) 31)

abbrev pub numeral_from : Bool → List ℕ → List ℕ → Numeral
numeral_from minus front back =
    record { units = with_minus minus (value_after (value_of_digits front) back); digits = length front + length back; fraction = length back }

abbrev pub unsigned_number : Bool → List ℕ → Option Numeral
unsigned_number minus text =
    if is_number (before 46 text) (after_byte 46 text)
    then Some (numeral_from minus (before 46 text) (fraction_digits (after_byte 46 text)))
    else None

-- a numeric literal: 1 to 31 digits with a point among them or none, perhaps after a minus
unfoldable pub number_spelled : List ℕ → Option Numeral
number_spelled text = unsigned_number (has_minus text) (without_minus text)
