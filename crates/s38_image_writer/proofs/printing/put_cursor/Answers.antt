use Rattle.s38_image_writer.proofs.WriterLaws.{adds_then}
use Rattle.s38_image_writer.proofs.printing.put_cursor.Goals as goal

pub returns : goal.returns
returns c = adds_then _ _ _ 8 12 _ _ c.put_object.ensures (adds_then _ _ _ 8 4 _ _ c.put_object-2.ensures c.put_u32.ensures)
