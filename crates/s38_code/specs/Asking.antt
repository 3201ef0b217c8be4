-- The reply to what a process has just asked.
use Rattle.std.specs.Prelude.{ℕ, ◌-◌, List, Option, Some, Result, Ok, Err, length, slice_get}
use Rattle.std.specs.Option.{option_map}
use Rattle.s38_code.specs.declared.entry.Entry.{Entry}
use Rattle.s38_code.specs.declared.reply.Reply.{Reply}
use Rattle.s38_code.specs.declared.reply.Reply.TheVariants.{MustWait}
use Rattle.s38_code.specs.declared.step.StepFault.{StepFault}
use Rattle.s38_code.specs.declared.asked.Asked.{Asked}
use Rattle.s38_code.specs.declared.asked.Asked.TheVariants.{Entered, WaitsStill}

-- that of the last entry
abbrev pub last_reply : List Entry → Option Reply
last_reply history = option_map (λ e. e.reply) (slice_get history (length history - 1))

-- the reply to what was asked; a process that waits already gets no entry
abbrev pub reply_by : Asked → List Entry → Option Reply
reply_by Entered history = last_reply history
reply_by WaitsStill history = Some MustWait

-- what a step would have answered in place of an answer that says where the reply is
abbrev pub answer_by : Result Asked StepFault → List Entry → Option (Result Reply StepFault)
answer_by (Ok asked) history = option_map (λ (r : Reply). Ok r) (reply_by asked history)
answer_by (Err fault) history = Some (Err fault)
