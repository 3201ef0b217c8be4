-- What holds of the value of an event holds of that of its instruction.
use Rattle.std.proofs.Common.{◌≡◌, ℕ, subst}
use Rattle.std.specs.Prelude.{Option}
use Rattle.s38_code.specs.declared.event.Event.{Event}
use Rattle.s38_code.specs.declared.event.Event.TheVariants.{Act}
use Rattle.s38_code.specs.declared.event.Request.{Request}
use Rattle.s38_code.specs.declared.reply.Val.{Val}
use Rattle.s38_rules.specs.state.State.{State}
use Rattle.s38_rules.specs.families.Computing.{receiver_at}
use Rattle.s38_rules.specs.ask.Receivers.{delivered}
use Rattle.s38_rules.specs.families.Rows.{row}
use Rattle.s38_machine.specs.Events.{GoesAsThatOf}

pub of_act : (w : State) (p depth : ℕ) (request : Request) (event : Event) (value : Option Val)
    → event ≡ Act depth request → GoesAsThatOf w p event value
    → (s : State) (shift : ℕ) → (delivered s shift (receiver_at request.op request.operands) value).state ≡ (delivered s shift (receiver_at request.op request.operands) ((row request.op).gives w p depth request)).state
of_act w p depth request event value same keeps = subst (λ (e : Event). GoesAsThatOf w p e value) same keeps
