use Rattle.std.proofs.Common.{◌≡◌, ◌+◌, ◌++◌}
use Rattle.std.specs.Prelude.{sum_by}
use Rattle.std.specs.List.{flat_map}
use Rattle.s38_image_writer.specs.Printing.{message_bytes}
use Rattle.s38_queues.specs.MessageQueue.{message_size}
use Rattle.s38_image_writer.proofs.bodies.put_messages.Given as goal

abbrev pub invariant-loop-message : goal.invariant-loop-message
invariant-loop-message l =
    record {
      bytes : l.into.bytes ++ flat_map message_bytes l.message-iterator ≡ l.initial.into.bytes ++ flat_map message_bytes l.held.messages;
      room : l.into.room + sum_by message_size l.held.messages ≡ l.initial.into.room + sum_by message_size l.message-iterator;
      place : l.into.place ≡ l.initial.into.place;
    }
