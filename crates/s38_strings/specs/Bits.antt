-- Bytes combined bit by bit.
use Rattle.std.specs.Prelude.{ℕ, ◌-◌, List, map, slice_index, bit_and, bit_or, bit_xor}
use Rattle.std.specs.List.{range_with_len}
use Rattle.s38_base.specs.declared.op.Op.{Op}
use Rattle.s38_base.specs.declared.op.Op.TheVariants.{And, Or, Xor, Not}

-- an operation on bits
abbrev pub IsOnBits : Op → Type 0
IsOnBits And = Unit {0}
IsOnBits Or = Unit {0}
IsOnBits Xor = Unit {0}
IsOnBits Not = Unit {0}
IsOnBits _ = ⊥

-- of two bytes; NOT is of the first alone
abbrev pub byte_of : Op → ℕ → ℕ → ℕ
byte_of And x y = bit_and x y
byte_of Or x y = bit_or x y
byte_of Xor x y = bit_xor x y
byte_of Not x y = 255 - x
byte_of _ x y = x

-- of n bytes
abbrev pub combined : Op → ℕ → List ℕ → List ℕ → List ℕ
combined op n a b = map (λ k. byte_of op (slice_index a k) (slice_index b k)) (range_with_len 0 n)
