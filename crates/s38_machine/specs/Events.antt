-- The value that an event gives, and the operand to which it goes.
use Rattle.std.specs.Prelude.{◌≡◌, ℕ, Option, None}
use Rattle.s38_code.specs.declared.event.Event.{Event}
use Rattle.s38_code.specs.declared.event.Event.TheVariants.{Start, Act, Finish}
use Rattle.s38_code.specs.declared.operand.Operand.{Operand}
use Rattle.s38_code.specs.declared.reply.Val.{Val}
use Rattle.s38_rules.specs.families.Computing.{receiver_at}
use Rattle.s38_rules.specs.ask.Receivers.{delivered}
use Rattle.s38_rules.specs.families.Rows.{row}
use Rattle.s38_rules.specs.state.State.{State}

abbrev pub receiver_of : Event → Option Operand
receiver_of Start = None
receiver_of (Act depth request) = receiver_at request.op request.operands
receiver_of (Finish cause) = None

abbrev pub value_of_event : State → ℕ → Event → Option Val
value_of_event s process Start = None
value_of_event s process (Act depth request) = (row request.op).gives s process depth request
value_of_event s process (Finish cause) = None

-- a value goes into the space of the receiver as that of an event does, whatever the state is
abbrev pub GoesAsThatOf : State → ℕ → Event → Option Val → Type 0
GoesAsThatOf w process event value =
    (s : State) (shift : ℕ) → (delivered s shift (receiver_of event) value).state ≡ (delivered s shift (receiver_of event) (value_of_event w process event)).state
