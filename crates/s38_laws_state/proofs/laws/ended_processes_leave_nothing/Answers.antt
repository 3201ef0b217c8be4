use Rattle.s38_laws_state.proofs.FollowLaws.{begins_live, run_live}
use Rattle.s38_laws_state.proofs.LiveLaws.{live_step}
use Rattle.s38_laws_state.proofs.laws.ended_processes_leave_nothing.Goals as goal

pub returns-clause-begins : goal.returns-clause-begins
returns-clause-begins c = begins_live

pub returns-clause-steps : goal.returns-clause-steps
returns-clause-steps c = live_step

pub returns-clause-histories : goal.returns-clause-histories
returns-clause-histories c = run_live
