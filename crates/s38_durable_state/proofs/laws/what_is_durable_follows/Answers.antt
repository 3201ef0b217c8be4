use Rattle.s38_durable_state.proofs.KeptLaws.{durable_follows}
use Rattle.s38_durable_state.proofs.laws.what_is_durable_follows.Goals as goal

pub returns : goal.returns
returns c = durable_follows
