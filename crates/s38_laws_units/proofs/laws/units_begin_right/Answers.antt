use Rattle.s38_laws_units.proofs.StepLaws.{first_right, installed_right}
use Rattle.s38_laws_units.proofs.laws.units_begin_right.Goals as goal

-- src/laws.rt:20:1
pub returns-clause-first : goal.returns-clause-first
returns-clause-first c = first_right

-- src/laws.rt:20:1
pub returns-clause-installed : goal.returns-clause-installed
returns-clause-installed c = installed_right
