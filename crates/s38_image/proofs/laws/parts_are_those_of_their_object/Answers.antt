use Rattle.s38_image.proofs.ImageLaws.{object_exact}
use Rattle.s38_image.proofs.laws.parts_are_those_of_their_object.Goals as goal

pub returns : goal.returns
returns c = object_exact
