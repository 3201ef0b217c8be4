use Rattle.std.proofs.Common.{arith}
use Rattle.s38_image_writer.proofs.TextLaws.{text_left}
use Rattle.s38_image_writer.proofs.texts.text_len.Goals as goal

pub overflow_cast-len : goal.overflow_cast-len
overflow_cast-len c = omega (arith, text_left _ _ _ c.in-Some.ensures.steps, c.loop-line.invariant, c.requires)

pub overflow_add-len : goal.overflow_add-len
overflow_add-len c = omega (arith, text_left _ _ _ c.in-Some.ensures.steps, c.loop-line.invariant, c.requires)

pub overflow_add-len-in-loop-line : goal.overflow_add-len-in-loop-line
overflow_add-len-in-loop-line c = omega (arith, text_left _ _ _ c.in-Some.ensures.steps, c.loop-line.invariant, c.requires)

pub loop-line-preserved : goal.loop-line-preserved
loop-line-preserved c = omega (arith, text_left _ _ _ c.in-Some.ensures.steps, c.loop-line.invariant)
