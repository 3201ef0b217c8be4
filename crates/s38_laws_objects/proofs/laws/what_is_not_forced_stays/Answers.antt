use Rattle.s38_laws_objects.proofs.EventLaws.{step_outline}
use Rattle.s38_laws_objects.proofs.laws.what_is_not_forced_stays.Goals as goal

pub returns : goal.returns
returns c = step_outline
