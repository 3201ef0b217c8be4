use Rattle.s38_laws_images.proofs.openings.BeginLaws.{opening_well, run_well}
use Rattle.s38_laws_images.proofs.openings.laws.an_opening_is_well.Goals as goal

pub returns-clause-begins : goal.returns-clause-begins
returns-clause-begins c = opening_well

pub returns-clause-histories : goal.returns-clause-histories
returns-clause-histories c = run_well
