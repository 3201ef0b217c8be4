use Rattle.s38_store_file.proofs.StrayLaws.{objects_kept}
use Rattle.s38_store_file.proofs.laws.parts_that_belong_to_nothing_may_go.Goals as goal

pub returns : goal.returns
returns c = objects_kept
