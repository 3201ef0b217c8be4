-- How a local instruction ends, and what the variables hold after it.
use Rattle.std.specs.Prelude.{ℕ, ◌==◌, Bool, ℤ, List, length, Option, Some, None, Result, Ok, Err, if◌then◌else◌}
use Rattle.s38_base.specs.declared.attr.Attr.{Attr}
use Rattle.s38_base.specs.declared.exception.Exception.{Exception}
use Rattle.s38_base.specs.declared.pointer.Pointer.{Pointer}
use Rattle.s38_base.specs.Scalar.{scalar_image}
use Rattle.s38_base.specs.Attributes.{length_of}
use Rattle.s38_code.specs.declared.program.Arg.{Arg}
use Rattle.s38_code.specs.declared.program.Arg.TheVariants as args
use Rattle.s38_code.specs.declared.reply.Val.{Val}
use Rattle.s38_code.specs.declared.reply.Val.TheVariants as vals
use Rattle.s38_local.specs.declared.local_end.LocalEnd.{LocalEnd}
use Rattle.s38_local.specs.declared.local_end.LocalEnd.TheVariants as ends
use Rattle.s38_local.specs.Variables.{value_at, value_put_at}

pub record Ran : Type 0 where
  pub end : LocalEnd
  pub values : List Val

-- ---- ends

abbrev pub ran_on : List Val → Ran
ran_on values = record { end = ends.Next; values = values }

-- a signal leaves all variables as they are
abbrev pub signals : List Val → Exception → Ran
signals values x = record { end = ends.Signal x; values = values }

-- to the place of a label
abbrev pub jump_to : Option Arg → LocalEnd
jump_to (Some (args.Jump at)) = ends.Jump at
jump_to _ = ends.Next

-- where the test holds
abbrev pub jumps : Bool → Option Arg → LocalEnd
jumps test label = if test then jump_to label else ends.Next

-- ---- receivers, by the place of their variable

-- a number is written where there are bytes of its attribute's length
abbrev pub value_with_number : Attr → ℤ → Val → Val
value_with_number attr z (vals.Bytes old) = vals.Bytes (if length old == length_of attr then scalar_image attr z else old)
value_with_number attr z v = v

abbrev pub changed_there : List Val → Option ℕ → (Val → Val) → Option Val → List Val
changed_there values place f None = values
changed_there values place f (Some v) = value_put_at values place (f v)

-- the variable at a place is changed
abbrev pub changed_at : List Val → Option ℕ → (Val → Val) → List Val
changed_at values place f = changed_there values place f (value_at values place)

abbrev pub number_put : List Val → Option ℕ → Attr → ℤ → List Val
number_put values place attr z = changed_at values place (value_with_number attr z)

-- a receiver that holds no bytes gets none
abbrev pub value_with_bytes : List ℕ → Val → Val
value_with_bytes bytes (vals.Bytes old) = vals.Bytes bytes
value_with_bytes bytes v = v

abbrev pub bytes_put : List Val → Option ℕ → List ℕ → List Val
bytes_put values place bytes = changed_at values place (value_with_bytes bytes)

-- ---- what is given goes to its receiver, or is signalled

abbrev pub number_received : List Val → Option ℕ → Attr → Result ℤ Exception → Ran
number_received values to attr (Err x) = signals values x
number_received values to attr (Ok z) = ran_on (number_put values to attr z)

abbrev pub bytes_received : List Val → Option ℕ → Result (List ℕ) Exception → Ran
bytes_received values to (Err x) = signals values x
bytes_received values to (Ok bytes) = ran_on (bytes_put values to bytes)

abbrev pub pointer_received : List Val → Option ℕ → Result Pointer Exception → Ran
pointer_received values to (Err x) = signals values x
pointer_received values to (Ok p) = ran_on (value_put_at values to (vals.Ptr (Some p)))

abbrev pub branch_end : Option Arg → Result Bool Exception → LocalEnd
branch_end label (Err x) = ends.Signal x
branch_end label (Ok taken) = jumps taken label
