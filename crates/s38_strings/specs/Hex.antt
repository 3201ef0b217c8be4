-- Hexadecimal digits as EBCDIC characters: F0 to F9, and C1 to C6 for ten to fifteen.
use Rattle.std.specs.Prelude.{ℕ, ◌+◌, ◌-◌, ◌*◌, ◌/◌, ◌%◌, Bool, ◌&&◌, ◌||◌, List, map, slice_index, nat_lt, nat_le, ◌==◌, if◌then◌else◌}
use Rattle.std.specs.List.{list_all, range_with_len}

abbrev pub hex_character : ℕ → ℕ
hex_character n = if nat_lt n 10 then 0xF0 + n else 0xB7 + n

-- character k of bytes that are written in hexadecimal
abbrev pub character_at : List ℕ → ℕ → ℕ
character_at from k =
    hex_character (if k % 2 == 0 then slice_index from (k / 2) / 16 else slice_index from (k / 2) % 16)

-- the first n of them
abbrev pub bytes_spelled : List ℕ → ℕ → List ℕ
bytes_spelled from n = map (character_at from) (range_with_len 0 n)

abbrev pub is_hex : ℕ → Bool
is_hex c = (nat_le 0xF0 c && nat_le c 0xF9) || (nat_le 0xC1 c && nat_le c 0xC6)

abbrev pub are_hex : List ℕ → Bool
are_hex from = list_all is_hex from

abbrev pub hex_value : ℕ → ℕ
hex_value c = if nat_le 0xF0 c then c - 0xF0 else c - 0xB7

-- byte k of those that the characters spell
abbrev pub spelled_byte : List ℕ → ℕ → ℕ
spelled_byte from k = hex_value (slice_index from (2 * k)) * 16 + hex_value (slice_index from (2 * k + 1))

-- the first n of them
abbrev pub read : List ℕ → ℕ → List ℕ
read from n = map (spelled_byte from) (range_with_len 0 n)
