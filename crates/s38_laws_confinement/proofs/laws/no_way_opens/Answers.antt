use Rattle.s38_laws_confinement.proofs.StepLaws.{closed_history}
use Rattle.s38_laws_confinement.proofs.laws.no_way_opens.Goals as goal

-- src/laws.rt:11:1
pub returns : goal.returns
returns c = record { confined = closed_history }
