use Rattle.s38_laws_images.proofs.openings.CloseLaws.{end_closes}
use Rattle.s38_laws_images.proofs.openings.laws.an_end_can_be_closed.Goals as goal

pub returns : goal.returns
returns c = end_closes
