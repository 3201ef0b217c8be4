use Rattle.std.proofs.Common.{◌∙◌, arith}
use Rattle.s38_image_writer.proofs.WriterLaws.{begun}
use Rattle.s38_image_writer.proofs.writer.PageWriter.new.Goals as goal

pub invariant_of-result : goal.invariant_of-result
invariant_of-result c =
    let long = c.args.parts.ok.0 in
    begun c.args.number c.args.first c.args.len c.len.result _ c.args.parts.items c.new.result.items (c.len.ensures ∙ long) c.new.ensures (omega (arith, long, c.requires.room)) c.requires.near
