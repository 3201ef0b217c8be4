use Rattle.s38_rights_cache.proofs.RowLaws.{authority_of, frames_of_op}
use Rattle.s38_rights_cache.proofs.laws.counts_follow.Goals as goal

pub returns : goal.returns
returns c = record { authority = authority_of; frames = frames_of_op }
