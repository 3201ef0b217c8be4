use Rattle.s38_durable_state.proofs.KeptLaws.{unforced_stays}
use Rattle.s38_durable_state.proofs.laws.what_is_not_forced_stays_durable.Goals as goal

pub returns : goal.returns
returns c = unforced_stays
