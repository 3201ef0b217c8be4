use Rattle.s38_laws_commits.proofs.BeginLaws.{restarts_to}
use Rattle.s38_laws_commits.proofs.begun.a_store_restarts_to_what_is_durable.Goals as goal

pub returns : goal.returns
returns c = restarts_to
