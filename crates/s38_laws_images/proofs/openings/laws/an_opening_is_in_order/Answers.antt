use Rattle.s38_laws_images.proofs.openings.OrderLaws.{in_order}
use Rattle.s38_laws_images.proofs.openings.laws.an_opening_is_in_order.Goals as goal

pub returns : goal.returns
returns c = in_order
