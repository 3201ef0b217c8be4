use Rattle.s38_laws_images.proofs.openings.BeginLaws.{opening_right, run_right}
use Rattle.s38_laws_images.proofs.openings.laws.an_opening_is_right.Goals as goal

pub returns-clause-begins : goal.returns-clause-begins
returns-clause-begins c = opening_right

pub returns-clause-histories : goal.returns-clause-histories
returns-clause-histories c = run_right
