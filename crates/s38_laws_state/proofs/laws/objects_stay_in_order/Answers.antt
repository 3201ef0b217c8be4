use Rattle.s38_laws_state.proofs.StepLaws.{opening_in_order, run_in_order, step_in_order}
use Rattle.s38_laws_state.proofs.laws.objects_stay_in_order.Goals as goal

pub returns-clause-begins : goal.returns-clause-begins
returns-clause-begins c = opening_in_order

pub returns-clause-steps : goal.returns-clause-steps
returns-clause-steps c = step_in_order

pub returns-clause-histories : goal.returns-clause-histories
returns-clause-histories c = run_in_order
