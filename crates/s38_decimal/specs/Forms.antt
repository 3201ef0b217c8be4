-- Numbers in decimal digits.
use Rattle.std.specs.Prelude.{◌<◌, ◌^◌, Bool, true, false, ℤ, IsTrue, nat_le, unsigned_abs}
use Rattle.s38_base.specs.Attributes.{digits_of, is_numeric}
use Rattle.s38_base.specs.declared.attr.Attr.{Attr}
use Rattle.s38_base.specs.declared.attr.Attr.TheVariants.{Packed, Zoned}

-- packed and zoned attributes
abbrev pub is_decimal : Attr → Bool
is_decimal (Packed digits fraction) = true
is_decimal (Zoned digits fraction) = true
is_decimal _ = false

-- packed numbers of up to 18 digits, which 64 bits hold
abbrev pub is_short : Attr → Bool
is_short (Packed digits fraction) = nat_le digits 18
is_short _ = false

-- the attribute is numeric, and the number has no more digits
pub record IsOf (attr : Attr) (z : ℤ) : Type 0 where
  pub numeric : IsTrue (is_numeric attr)
  pub digits : unsigned_abs z < 10 ^ digits_of attr
