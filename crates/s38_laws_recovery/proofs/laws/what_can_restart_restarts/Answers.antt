use Rattle.s38_laws_recovery.proofs.RestartLaws.{all_pages, restarts_there, user_read}
use Rattle.s38_laws_recovery.proofs.laws.what_can_restart_restarts.Goals as goal

pub returns-clause-restarts : goal.returns-clause-restarts
returns-clause-restarts c = λ m d low pages can. restarts_there m d low pages can

pub returns-clause-first_user : goal.returns-clause-first_user
returns-clause-first_user c = λ m d low pages can. user_read m d low pages can

pub returns-clause-stands : goal.returns-clause-stands
returns-clause-stands c = λ m d stands. all_pages m d stands
