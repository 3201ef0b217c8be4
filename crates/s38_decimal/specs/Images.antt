-- Packed and zoned bytes by the number and its sign.
use Rattle.std.specs.Prelude.{ℕ, ◌+◌, ◌-◌, ◌*◌, ◌==◌, if◌then◌else◌}
use Rattle.s38_base.specs.Scalar.{digit_at}

-- byte k of a packed number of whose bytes the last is number h
abbrev pub packed_with : ℕ → ℕ → ℕ → ℕ → ℕ
packed_with h number sign k =
    digit_at 10 number (2 * (h - k)) * 16 + (if k == h then sign else digit_at 10 number (2 * (h - k) - 1))

-- byte k of a zoned number of so many digits
abbrev pub zoned_with : ℕ → ℕ → ℕ → ℕ → ℕ
zoned_with digits number sign k =
    (if k + 1 == digits then sign else 15) * 16 + digit_at 10 number (digits - 1 - k)
