use Rattle.s38_laws_units.proofs.StepLaws.{history_right, step_right}
use Rattle.s38_laws_units.proofs.laws.units_stay_right.Goals as goal

-- src/laws.rt:26:1
pub returns-clause-steps : goal.returns-clause-steps
returns-clause-steps c = step_right

-- src/laws.rt:26:1
pub returns-clause-histories : goal.returns-clause-histories
returns-clause-histories c = history_right
