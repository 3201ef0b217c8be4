use Rattle.std.proofs.Common.{◌≡◌, ◌≤◌, ◌+◌, ◌-◌, length}
use Rattle.s38_codec.specs.Codec.{times}
use Rattle.s38_codec.proofs.Loop.{with_front}
use Rattle.s38_image.specs.Queues.{message_form}
use Rattle.s38_queues.specs.MessageQueue.{queue_image_size}
use Rattle.s38_image.proofs.queues.messages_in.Given as goal

abbrev pub invariant-loop : goal.invariant-loop
invariant-loop l =
    record {
      read : with_front l.queue.messages ((times (l.fn.count - l.counter) (message_form l.fn.key_len l.fn.longest)).read l.rest) ≡ (times l.fn.count (message_form l.fn.key_len l.fn.longest)).read l.fn.from;
      order : l.queue.order ≡ l.fn.order;
      key_len : l.queue.key_len ≡ l.fn.key_len;
      longest : l.queue.longest ≡ l.fn.longest;
      near : queue_image_size l.queue.messages + length l.rest ≤ 8 + length l.fn.from;
    }
