use Rattle.s38_laws_images.proofs.openings.FirstLaws.{first_opening, installed_opening}
use Rattle.s38_laws_images.proofs.openings.laws.the_first_stores_are_openings.Goals as goal

pub returns-clause-first : goal.returns-clause-first
returns-clause-first c = first_opening

pub returns-clause-installed : goal.returns-clause-installed
returns-clause-installed c = installed_opening
