-- A receiver is taken out of the variables while its bytes are written. Where it is a source too, its own bytes
-- are kept beside.
use Rattle.std.specs.Prelude.{ℕ, ◌==◌, Bool, false, ◌||◌, List, [], Option, Some, None, slice_get, if◌then◌else◌}
use Rattle.s38_base.specs.declared.exception.Exception.{Exception}
use Rattle.s38_base.specs.declared.op.Op.{Op}
use Rattle.s38_code.specs.declared.program.Arg.{Arg}
use Rattle.s38_code.specs.declared.reply.Val.{Val}
use Rattle.s38_code.specs.declared.reply.Val.TheVariants as vals
use Rattle.s38_compute.specs.Compute.{string_given}
use Rattle.s38_compute.specs.Written.{bytes_after, failed}
use Rattle.s38_local.specs.declared.local_end.LocalEnd.{LocalEnd}
use Rattle.s38_local.specs.declared.local_end.LocalEnd.TheVariants as ends
use Rattle.s38_local.specs.Local.{operand, receiver_of}
use Rattle.s38_local.specs.Received.{Ran, bytes_received}
use Rattle.s38_local.specs.Variables.{argument_bytes, held_at, item_place, value_bytes}

-- the variable that is there
abbrev pub is_place : ℕ → Option ℕ → Bool
is_place at None = false
is_place at (Some place) = place == at

-- one of the sources, from operand 2 on, lies there
abbrev pub reads : List ℕ → ℕ → List Arg → Bool
reads homes at given =
    is_place at (item_place homes (operand given 2))
    || (is_place at (item_place homes (operand given 3)) || is_place at (item_place homes (operand given 4)))

-- the bytes that are there, where they are a source
abbrev pub own_bytes : List ℕ → List Val → ℕ → List Arg → List ℕ
own_bytes homes values at given = if reads homes at given then value_bytes (slice_get values at) else []

-- the bytes of a source, while the variable at a place is taken out
abbrev pub bytes_past : List ℕ → ℕ → List ℕ → List Val → Option Arg → List ℕ
bytes_past homes at own values arg = if is_place at (item_place homes arg) then own else argument_bytes homes values arg

abbrev pub end_after : Option Exception → LocalEnd
end_after None = ends.Next
end_after (Some x) = ends.Signal x

abbrev pub value_after : Op → Val → List ℕ → List ℕ → List ℕ → Val
value_after op (vals.Bytes into) a b c = vals.Bytes (bytes_after into (string_given op into a b c))
value_after op v a b c = v

abbrev pub end_at : Op → Val → List ℕ → List ℕ → List ℕ → LocalEnd
end_at op (vals.Bytes into) a b c = end_after (failed (string_given op into a b c))
end_at op v a b c = ends.Next

-- what a string instruction does
abbrev pub string_run : List ℕ → List Val → Op → List Arg → Ran
string_run homes values op given =
    bytes_received values (receiver_of homes given)
    (string_given op (held_at values (receiver_of homes given)) (argument_bytes homes values (operand given 2)) (argument_bytes homes values (operand given 3)) (argument_bytes homes values (operand given 4)))
