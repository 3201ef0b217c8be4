use Rattle.std.proofs.Common.{sym}
use Rattle.s38_laws_images.proofs.readable.FoundLaws.{found_all}
use Rattle.s38_laws_images.specs.readable.Readable.{IsFit}
use Rattle.s38_laws_images.proofs.readable.forced.number_is_readable.Goals as goal

pub object_is_readable-requires : goal.object_is_readable-requires
object_is_readable-requires c = found_all IsFit c.args.objects.now.objects c.args.number.0 c.in-Some.object.now c.requires (sym c.in-Some.ensures)
