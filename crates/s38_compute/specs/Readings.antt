-- What a computation reads, wherever its operands lie. Operands are numbered from 1; what an instruction does not
-- have reads as nothing.
use Rattle.std.specs.Prelude.{ℕ, Bool, ℤ, List, Option}
use Rattle.s38_base.specs.declared.attr.Attr.{Attr}
use Rattle.s38_base.specs.declared.pointer.Pointer.{Pointer}

pub record Readings : Type 0 where
  -- the number at an operand, in units of its last digit; none where its bytes have no value
  pub number : ℕ → Option ℤ
  -- and the attribute of those bytes
  pub attr : ℕ → Attr
  pub bytes : ℕ → List ℕ
  pub pointer : ℕ → Option Pointer
  -- the number of a word
  pub word : ℕ → ℕ
  -- the power of SCALE
  pub power : ℤ
  -- the attribute of the receiver
  pub receiver : Attr
  -- how many bytes the receiver takes
  pub room : ℕ
  -- what the receiver holds
  pub held : List ℕ
  -- whether a copy leaves the rest of what the receiver holds; else it gives the bytes alone that it copies
  pub keeps_rest : Bool
