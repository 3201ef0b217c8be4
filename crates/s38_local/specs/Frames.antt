-- How an instruction changes the frame of its invocation: internal calls, and the descriptions of exceptions.
use Rattle.std.specs.Prelude.{ℕ, ◌+◌, ◌/◌, ◌%◌, ◌==◌, List, [], ◌∷◌, length, nat_le, Option, Some, slice_set, if◌then◌else◌}
use Rattle.s38_base.specs.Exceptions as exceptions
use Rattle.s38_base.specs.Limits.{most_calls}
use Rattle.s38_base.specs.Signals.{plain}
use Rattle.s38_code.specs.declared.program.Arg.{Arg}
use Rattle.s38_code.specs.declared.program.Arg.TheVariants as args
use Rattle.s38_code.specs.declared.reply.Val.{Val}
use Rattle.s38_local.specs.declared.frame.Frame.{Frame}
use Rattle.s38_local.specs.declared.local_end.LocalEnd.{LocalEnd}
use Rattle.s38_local.specs.declared.local_end.LocalEnd.TheVariants as ends
use Rattle.s38_local.specs.Received.{Ran}

-- how an instruction ends, and the frame of the invocation after it but for the place
pub record Moved : Type 0 where
  pub end : LocalEnd
  pub frame : Frame

-- what it leaves of the variables too
pub record Went : Type 0 where
  pub end : LocalEnd
  pub frame : Frame
  pub values : List Val

abbrev pub stays : Frame → Ran → Went
stays frame ran = record { end = ran.end; frame = frame; values = ran.values }

abbrev pub moves : List Val → Moved → Went
moves values moved = record { end = moved.end; frame = moved.frame; values = values }

-- ---- internal calls

-- an internal call comes back after its instruction
abbrev pub called_at : Frame → ℕ → Moved
called_at frame at =
    if nat_le most_calls (length frame.returns) then record { end = ends.Signal (plain exceptions.limit_exceeded 0); frame = frame }
    else record { end = ends.Jump at; frame = record frame { returns = (frame.at + 1) ∷ frame.returns } }

abbrev pub called : Frame → Option Arg → Moved
called frame (Some (args.Jump at)) = called_at frame at
called frame _ = record { end = ends.Next; frame = frame }

-- a return goes on after the newest internal call; outside of them it ends the invocation
abbrev pub returned_to : Frame → List ℕ → Moved
returned_to frame [] = record { end = ends.Return; frame = frame }
returned_to frame (at ∷ more) = record { end = ends.Jump at; frame = record frame { returns = more } }

abbrev pub returned : Frame → Moved
returned frame = returned_to frame frame.returns

-- ---- exceptions

-- a code has sixteen bits
abbrev pub exception_code : ℕ → ℕ
exception_code word = word % 65536

-- the two bytes of the exception that was taken last
abbrev pub code_bytes : ℕ → List ℕ
code_bytes code = code / 256 ∷ code % 256 ∷ []

-- the word ON
abbrev pub switch_on : ℕ
switch_on = 0

-- a description is switched on or off
abbrev pub switched : Frame → Option Arg → ℕ → Frame
switched frame (Some (args.Item i)) word = record frame { on = slice_set frame.on i (word == switch_on) }
switched frame _ word = frame
