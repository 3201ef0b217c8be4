-- Numbers that lie in bytes, high byte first.
use Rattle.std.specs.Prelude.{ℕ, ◌+◌, List, length, drop, Option, Some, None, nat_le, if◌then◌else◌}
use Rattle.byteorder.specs.Endian.{big_number}

-- the number in the n bytes from a place on, if the bytes reach so far
abbrev pub number_at : ℕ → List ℕ → ℕ → Option ℕ
number_at n bytes at = if nat_le (at + n) (length bytes) then Some (big_number n (drop at bytes)) else None
