use Rattle.std.proofs.Common.{◌∙◌, arith}
use Rattle.s38_image_writer.proofs.TextLaws.{text_left, text_put}
use Rattle.s38_image_writer.proofs.texts.put_text.Goals as goal

pub put-requires : goal.put-requires
put-requires c = omega (arith, text_left _ _ _ c.in-Some.ensures.steps, c.loop-line.invariant.room, c.requires)

pub put_byte-requires : goal.put_byte-requires
put_byte-requires c = omega (arith, text_left _ _ _ c.in-Some.ensures.steps, c.loop-line.invariant.room, c.requires, c.put.ensures.room)

pub loop-line-preserved : goal.loop-line-preserved
loop-line-preserved c =
    record {
      bytes = text_put c.loop-line.into.bytes c.put.new.self.bytes c.put_byte.new.self.bytes _ _ _ c.in-Some.ensures.steps c.put.ensures.bytes c.put_byte.ensures.bytes ∙ c.loop-line.invariant.bytes;
      room = omega (arith, text_left _ _ _ c.in-Some.ensures.steps, c.loop-line.invariant.room, c.put.ensures.room, c.put_byte.ensures.room);
      place = c.put_byte.ensures.place ∙ c.put.ensures.place ∙ c.loop-line.invariant.place;
    }
