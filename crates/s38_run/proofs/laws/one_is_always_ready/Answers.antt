use Rattle.s38_run.proofs.ProgressLaws.{begins_going, history_going, step_going}
use Rattle.s38_run.proofs.laws.one_is_always_ready.Goals as goal

pub returns-clause-begins : goal.returns-clause-begins
returns-clause-begins c = begins_going

pub returns-clause-steps : goal.returns-clause-steps
returns-clause-steps c = step_going

pub returns-clause-histories : goal.returns-clause-histories
returns-clause-histories c = history_going
