use Rattle.std.proofs.Common.{refl}
use Rattle.s38_image_writer.proofs.WriterLaws.{adds_same, adds_then}
use Rattle.s38_checkpoint.proofs.parts.put_ceiling.Goals as goal

pub returns : goal.returns
returns c =
    adds_same _ _ 512 512 _ _ (adds_then _ _ _ 4 508 _ _ c.put_u32.ensures (adds_then _ _ _ 4 504 _ _ c.put_u32-2.ensures (adds_then _ _ _ 8 496 _ _ c.put_u64.ensures c.put_zeros.ensures))) refl refl
