use Rattle.s38_laws_objects.proofs.EventLaws.{history_well, step_well}
use Rattle.s38_laws_objects.proofs.laws.objects_stay_well.Goals as goal

pub returns-clause-steps : goal.returns-clause-steps
returns-clause-steps c = step_well

pub returns-clause-histories : goal.returns-clause-histories
returns-clause-histories c = history_well
