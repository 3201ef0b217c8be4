-- Bytes of a line, and how words are parted.
use Rattle.std.specs.Prelude.{ℕ, ◌+◌, ◌-◌, ◌*◌, Bool, ◌&&◌, ◌||◌, ◌==◌, List, take, drop, length, Option, Some, None, nat_eq, nat_le, if◌then◌else◌}
use Rattle.std.specs.List.{position, starts_with, list_all}
use Rattle.std.specs.Option.{option_map, option_map_or}
use Rattle.std.specs.Cmp.Lexicographic.{pointwise}

-- the text is this word
abbrev pub is_word : List ℕ → List ℕ → Bool
is_word word text = pointwise nat_eq text word

-- where the first such byte is
abbrev pub place_of : ℕ → List ℕ → Option ℕ
place_of byte text = position (λ b. b == byte) text

-- what comes before it, or all where there is none
abbrev pub before : ℕ → List ℕ → List ℕ
before byte text = option_map_or (λ k. take k text) (place_of byte text) text

-- what comes after it
abbrev pub after_byte : ℕ → List ℕ → Option (List ℕ)
after_byte byte text = option_map (λ k. drop (k + 1) text) (place_of byte text)

-- what comes after these bytes, where the text begins with them
abbrev pub rest_after : List ℕ → List ℕ → Option (List ℕ)
rest_after front text = if starts_with nat_eq text front then Some (drop (length front) text) else None

abbrev pub is_letter : ℕ → Bool
is_letter c = nat_le 65 c && nat_le c 90

abbrev pub is_digit : ℕ → Bool
is_digit c = nat_le 48 c && nat_le c 57

-- 0 to 9 and A to F
abbrev pub is_hex_digit : ℕ → Bool
is_hex_digit c = is_digit c || (nat_le 65 c && nat_le c 70)

abbrev pub are_hex_digits : List ℕ → Bool
are_hex_digits text = list_all is_hex_digit text

abbrev pub hex_digit_value : ℕ → ℕ
hex_digit_value c = if nat_le c 57 then c - 48 else c - 55

-- the byte that two hexadecimal digits spell
abbrev pub hex_byte : ℕ → ℕ → ℕ
hex_byte high low = 16 * hex_digit_value high + hex_digit_value low
