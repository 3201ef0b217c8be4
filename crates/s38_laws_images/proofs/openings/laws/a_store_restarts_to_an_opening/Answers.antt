use Rattle.s38_laws_images.proofs.openings.RestartLaws.{restarts}
use Rattle.s38_laws_images.proofs.openings.laws.a_store_restarts_to_an_opening.Goals as goal

pub returns : goal.returns
returns c = restarts
