-- Numbers that are brought to the longer fraction of two.
use Rattle.std.specs.Prelude.{ℕ, ◌-◌, ◌%◌, ◌^◌, max, ℤ, pos, unsigned_abs, ◌+ℤ◌, ◌*ℤ◌}
use Rattle.s38_decimal.specs.Values.{with_sign}

-- x has f digits after the point, and gets as many as f or g has
abbrev pub brought : ℕ → ℕ → ℤ → ℤ
brought f g x = x *ℤ pos (10 ^ (max f g - f))

-- the sum of two such numbers
abbrev pub common_sum : ℕ → ℕ → ℤ → ℤ → ℤ
common_sum f g x y = brought f g x +ℤ brought g f y

-- what is left of x, where y goes into it a whole number of times; it has the sign of x
abbrev pub rest_of : ℤ → ℤ → ℤ
rest_of x y = with_sign x (unsigned_abs x % unsigned_abs y)
