use Rattle.s38_image.proofs.AgainLaws.{object_again}
use Rattle.s38_image.proofs.laws.an_image_is_read_again.Goals as goal

pub returns : goal.returns
returns c = object_again
