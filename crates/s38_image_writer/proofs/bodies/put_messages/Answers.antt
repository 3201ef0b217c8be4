use Rattle.std.proofs.Common.{◌∙◌, arith}
use Rattle.s38_image_writer.proofs.PrintLaws.{message_left, message_put}
use Rattle.s38_image_writer.proofs.bodies.put_messages.Goals as goal

pub put_message-requires : goal.put_message-requires
put_message-requires c = record { room = omega (arith, message_left _ _ _ c.in-Some.ensures.steps, c.loop-message.invariant.room, c.requires.room) }

pub loop-message-preserved : goal.loop-message-preserved
loop-message-preserved c =
    record {
      bytes = message_put c.loop-message.into.bytes c.put_message.new.into.bytes _ _ _ c.in-Some.ensures.steps c.put_message.ensures.bytes ∙ c.loop-message.invariant.bytes;
      room = omega (arith, message_left _ _ _ c.in-Some.ensures.steps, c.loop-message.invariant.room, c.put_message.ensures.room);
      place = c.put_message.ensures.place ∙ c.loop-message.invariant.place;
    }
