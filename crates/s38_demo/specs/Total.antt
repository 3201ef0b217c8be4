-- The total that the run of the generated deck of n comes to, and what is printed of it.
use Rattle.std.specs.Prelude.{ℕ, ◌+◌, ℤ, pos, Bool, true, false, ◌==◌, ◌&&◌, List, ◌∷◌, ◌++◌, codes, decimal, Option, Some, None, slice_get, if◌then◌else◌}
use Rattle.std.specs.Fmt.{signed_decimal}
use Rattle.std.specs.List.{filter_map}
use Rattle.std.specs.Option.{option_and_then, unwrap_or}
use Rattle.s38_base.specs.Scalar.{value_of}
use Rattle.s38_base.specs.declared.attr.Attr.TheVariants.{Packed}
use Rattle.s38_base.specs.declared.op.Op.{Op}
use Rattle.s38_base.specs.declared.op.Op.TheVariants.{Retdsen}
use Rattle.s38_code.specs.declared.entry.Entry.{Entry}
use Rattle.s38_code.specs.declared.event.Event.{Event}
use Rattle.s38_code.specs.declared.event.Event.TheVariants.{Act}
use Rattle.s38_code.specs.declared.reply.Reply.{Reply}
use Rattle.s38_code.specs.declared.reply.Reply.TheVariants.{Done}
use Rattle.s38_code.specs.declared.reply.Val.{Val}
use Rattle.s38_code.specs.declared.reply.Val.TheVariants.{Bytes}

abbrev pub is_retdsen : Op → Bool
is_retdsen Retdsen = true
is_retdsen _ = false

-- an entry of a data space is asked for
abbrev pub asks_entry : Event → Bool
asks_entry (Act depth request) = is_retdsen request.op
asks_entry _ = false

-- the bytes that came back
abbrev pub bytes_in_values : List Val → Option (List ℕ)
bytes_in_values (Bytes bytes ∷ values) = Some bytes
bytes_in_values _ = None

abbrev pub reply_bytes : Reply → Option (List ℕ)
reply_bytes (Done values) = bytes_in_values values
reply_bytes _ = None

-- what a process was given by a RETDSEN
abbrev pub given : ℕ → Entry → Option (List ℕ)
given process e = if (e.process == process) && asks_entry e.event then reply_bytes e.reply else None

-- what process n + 2, the last of the deck, was given first
abbrev pub total_bytes : ℕ → List Entry → Option (List ℕ)
total_bytes n history = slice_get (filter_map (given (n + 2)) history) 0

-- their number as PKD:9:0, or 0 where there is none
unfoldable pub total_of : ℕ → List Entry → ℤ
total_of n history = unwrap_or (option_and_then (value_of (Packed 9 0)) (total_bytes n history)) (pos 0)

-- the line JOBS with n, and the line TOTAL with the total
unfoldable pub demo_text : ℕ → List Entry → List ℕ
demo_text n history = codes "JOBS " ++ (decimal n ++ (codes "\nTOTAL " ++ (signed_decimal (total_of n history) ++ codes "\n")))
