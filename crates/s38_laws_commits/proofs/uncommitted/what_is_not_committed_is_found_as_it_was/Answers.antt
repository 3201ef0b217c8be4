use Rattle.s38_laws_commits.proofs.FoundLaws.{uncommitted_found}
use Rattle.s38_laws_commits.proofs.uncommitted.what_is_not_committed_is_found_as_it_was.Goals as goal

pub returns : goal.returns
returns c = uncommitted_found
