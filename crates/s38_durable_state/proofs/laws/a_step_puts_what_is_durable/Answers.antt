use Rattle.s38_durable_state.proofs.PutLaws.{step_represents}
use Rattle.s38_durable_state.proofs.laws.a_step_puts_what_is_durable.Goals as goal

pub returns : goal.returns
returns c = step_represents
