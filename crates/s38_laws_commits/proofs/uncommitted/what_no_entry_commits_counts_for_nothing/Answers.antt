use Rattle.s38_laws_commits.proofs.SilentLaws.{silent_same}
use Rattle.s38_laws_commits.proofs.uncommitted.what_no_entry_commits_counts_for_nothing.Goals as goal

pub returns : goal.returns
returns c = silent_same
