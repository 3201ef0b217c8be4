use Rattle.std.proofs.Common.{◌+◌, sym}
use Rattle.s38_image.proofs.PartReading.{missing_more}
use Rattle.s38_image.proofs.assembly.missing_from.Goals as goal

pub loop-part-preserved : goal.loop-part-preserved
loop-part-preserved c = missing_more c.args.number c.loop-part.part (c.args.first + c.args.count) c.args.parts.now _ c.loop-part-test.true (sym (c.in-Some.ensures)) c.loop-part.invariant
