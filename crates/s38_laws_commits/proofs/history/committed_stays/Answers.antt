use Rattle.s38_laws_commits.proofs.CommittedLaws as laws
use Rattle.s38_laws_commits.proofs.RunLaws.{committed_in_run}
use Rattle.s38_laws_commits.proofs.history.committed_stays.Goals as goal

pub returns-clause-runs : goal.returns-clause-runs
returns-clause-runs c = committed_in_run

pub returns-clause-states : goal.returns-clause-states
returns-clause-states c = laws.committed_stays
