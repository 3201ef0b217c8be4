use Rattle.std.proofs.Common.{refl, sym}
use Rattle.s38_image_writer.proofs.PrintLaws.{header_bytes}
use Rattle.s38_image_writer.proofs.WriterLaws.{adds_same, adds_then}
use Rattle.s38_image_writer.proofs.printing.put_header.Goals as goal

pub returns : goal.returns
returns c =
    adds_same _ _ 512 512 _ _ (adds_then _ _ _ 4 508 _ _ c.put_u32.ensures (adds_then _ _ _ 34 474 _ _ c.put_id.ensures c.put_places.ensures)) refl (sym (header_bytes c.args.held.now))
