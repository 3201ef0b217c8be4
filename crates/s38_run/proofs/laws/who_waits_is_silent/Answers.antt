use Rattle.s38_run.proofs.ProgressLaws.{history_awake}
use Rattle.s38_run.proofs.laws.who_waits_is_silent.Goals as goal

pub returns : goal.returns
returns c = history_awake
