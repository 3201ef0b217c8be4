-- The messages of a queue that an iteration has still to give.
use Rattle.std.specs.Prelude.{List}
use Rattle.std.specs.VecDeque.Iter.{deque_iter_rest}
use Rattle.s38_queues.specs.declared.message.Message.{Message}
use Rattle.s38_queues.specs.declared.messages.Left.{Left}
use Rattle.s38_queues.specs.declared.messages.Left.TheVariants.{Plain, Keyed}

-- in the order of their arrival
abbrev pub messages_left : Left → List Message
messages_left (Plain messages) = deque_iter_rest messages
messages_left (Keyed messages) = messages
