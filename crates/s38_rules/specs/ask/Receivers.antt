-- What a receiver gets: values of its length, and how a value comes back, to a variable with the reply or into a space.
use Rattle.std.specs.Prelude.{ℕ, ◌+◌, ◌-◌, Bool, true, false, List, [], ◌∷◌, ◌++◌, drop, take, replicate, Option, Some, None, length}
use Rattle.std.specs.Int.{to_be_bytes, w64}
use Rattle.s38_base.specs.Pointers.{start_of, target_of}
use Rattle.s38_code.specs.declared.operand.Operand.{Operand}
use Rattle.s38_code.specs.declared.operand.Operand.TheVariants as operands
use Rattle.s38_code.specs.declared.reply.Val.{Val}
use Rattle.s38_code.specs.declared.reply.Val.TheVariants as vals
use Rattle.s38_rules.specs.state.Held.{Held}
use Rattle.s38_rules.specs.state.PartsAt.{on_space}
use Rattle.s38_rules.specs.state.State.{State}
use Rattle.s38_rules.specs.state.Cells.{with_bytes, with_pointer}

-- the blank of texts
abbrev pub blank : ℕ
blank = 0x40

-- bytes cut to a length, or filled to it on the right
abbrev pub fitted : ℕ → ℕ → List ℕ → List ℕ
fitted len fill bytes = take len bytes ++ replicate (len - length bytes) fill

-- a number in eight bytes, high byte first
abbrev pub number_image : ℕ → List ℕ
number_image n = to_be_bytes w64 n

-- a count, of which the four low bytes are given
abbrev pub count_image : ℕ → List ℕ
count_image n = drop 4 (number_image n)

pub record Done : Type 0 where
  pub state : State
  -- those of the local receivers, in order
  pub values : List Val

-- a receiver in a space is changed there
abbrev pub put_value : Held → ℕ → ℕ → Val → Held
put_value h n at (vals.Bytes bytes) = on_space h n (with_bytes at bytes)
put_value h n at (vals.Ptr p) = on_space h n (with_pointer at p)
put_value h n at _ = h

-- a value goes to its receiver: one in a space takes it there, so many bytes past its beginning, and a variable of
-- the process gets it with the reply
abbrev pub deliver : State → ℕ → Option Operand → Val → Done
deliver s shift (Some (operands.InSpace base offset attr)) v =
    record { state = record s { held = put_value s.held (target_of base) (start_of base offset + shift) v }; values = [] }
deliver s shift _ v = record { state = s; values = v ∷ [] }

abbrev pub delivered : State → ℕ → Option Operand → Option Val → Done
delivered s shift receiver None = record { state = s; values = [] }
delivered s shift receiver (Some v) = deliver s shift receiver v

abbrev pub is_in_space : Option Operand → Bool
is_in_space (Some (operands.InSpace base offset attr)) = true
is_in_space _ = false
