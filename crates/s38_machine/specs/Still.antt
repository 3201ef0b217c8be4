-- Steps of a machine without a store.
use Rattle.std.specs.Prelude.{◌≡◌, ℕ, Result}
use Rattle.s38_code.specs.declared.event.Event.{Event}
use Rattle.s38_code.specs.declared.reply.Reply.{Reply}
use Rattle.s38_code.specs.declared.step.StepFault.{StepFault}
use Rattle.s38_rules.specs.step.Legal.{IsStep, Run}

-- an answer is that of one step, and the moment stays
abbrev pub IsStillStep : Run → ℕ → Event → Result Reply StepFault → Run → Type 0
IsStillStep old process event answer new = IsStep old process event answer new × (new.moment ≡ old.moment)
