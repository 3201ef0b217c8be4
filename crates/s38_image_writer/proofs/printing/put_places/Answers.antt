use Rattle.s38_image_writer.proofs.WriterLaws.{adds_then}
use Rattle.s38_image_writer.specs.Printing.{places_of}
use Rattle.s38_image_writer.proofs.printing.put_places.Goals as goal

pub returns : goal.returns
unfolding places_of
returns c =
    adds_then _ _ _ 8 466 _ _ c.put_object.ensures
    (adds_then _ _ _ 8 458 _ _ c.put_object-2.ensures
    (adds_then _ _ _ 1 457 _ _ c.put_byte.ensures
    (adds_then _ _ _ 1 456 _ _ c.put_byte-2.ensures c.put_lengths.ensures)))
