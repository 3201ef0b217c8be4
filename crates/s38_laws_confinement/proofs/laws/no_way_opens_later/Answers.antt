use Rattle.s38_laws_confinement.proofs.StepLaws.{closed_later}
use Rattle.s38_laws_confinement.proofs.laws.no_way_opens_later.Goals as goal

pub returns : goal.returns
returns c = closed_later
