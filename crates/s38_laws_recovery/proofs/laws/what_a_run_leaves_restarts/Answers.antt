use Rattle.s38_laws_recovery.proofs.ClosedLaws.{closed_can, closed_numbers, closed_restarts}
use Rattle.s38_laws_recovery.proofs.ContentLaws.{content_pages}
use Rattle.s38_laws_recovery.proofs.EndLaws.{closing_can}
use Rattle.s38_laws_recovery.proofs.laws.what_a_run_leaves_restarts.Goals as goal

pub returns-clause-whole : goal.returns-clause-whole
returns-clause-whole c = λ s d is trail order ready images. closing_can s d is trail order ready images

pub returns-clause-pages : goal.returns-clause-pages
returns-clause-pages c = λ d can. record { each = λ key low. content_pages d can key }

pub returns-clause-closed : goal.returns-clause-closed
returns-clause-closed c = λ s d gone rest is trail order ready old whole all. closed_can s d is trail order ready gone rest all c.what_is_durable_follows.ensures old whole

pub returns-clause-left : goal.returns-clause-left
returns-clause-left c = λ s d gone rest m is trail order ready old whole all parts stands. closed_restarts s d is trail order ready gone rest all c.what_is_durable_follows.ensures old whole m parts stands

pub returns-clause-numbers : goal.returns-clause-numbers
returns-clause-numbers c = λ s d gone rest m is all restarts. closed_numbers c.what_is_durable_follows.ensures s d gone rest m is all restarts
