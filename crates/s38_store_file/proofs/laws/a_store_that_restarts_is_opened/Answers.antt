use Rattle.s38_store_file.proofs.SureLaws.{opened_unless}
use Rattle.s38_store_file.proofs.laws.a_store_that_restarts_is_opened.Goals as goal

pub returns : goal.returns
returns c = opened_unless
