use Rattle.s38_laws_commits.proofs.CommittedLaws.{history_sound, step_sound}
use Rattle.s38_laws_commits.proofs.history.what_is_kept_stays_sound.Goals as goal

pub returns-clause-steps : goal.returns-clause-steps
returns-clause-steps c = step_sound

pub returns-clause-histories : goal.returns-clause-histories
returns-clause-histories c = history_sound
