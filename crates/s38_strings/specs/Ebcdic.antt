-- The EBCDIC code of an ASCII character.
use Rattle.std.specs.Prelude.{ℕ, ◌+◌, ◌-◌, Bool, ◌&&◌, Option, Some, None, nat_le, ◌==◌, if◌then◌else◌}

abbrev pub between : ℕ → ℕ → ℕ → Bool
between low high c = nat_le low c && nat_le c high

-- A to I are C1 to C9, J to R D1 to D9, S to Z E2 to E9, 0 to 9 F0 to F9, the blank is 40
abbrev pub ebcdic_of : ℕ → Option ℕ
ebcdic_of c =
    if between 65 73 c then Some (0xC1 + (c - 65)) else (
    if between 74 82 c then Some (0xD1 + (c - 74)) else (
    if between 83 90 c then Some (0xE2 + (c - 83)) else (
    if between 48 57 c then Some (0xF0 + (c - 48)) else (
    if c == 32 then Some 0x40 else None))))
