use Rattle.std.proofs.Common.{refl}
use Rattle.s38_image.proofs.HeaderLaws.{zeros}
use Rattle.s38_image_writer.proofs.WriterLaws.{adds_same}
use Rattle.s38_image_writer.proofs.printing.put_zeros.Goals as goal

pub returns : goal.returns
returns c = adds_same _ _ 448 448 _ _ c.put.ensures refl (zeros 448)
