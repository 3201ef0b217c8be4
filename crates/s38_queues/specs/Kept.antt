-- How the messages of a queue are kept.
use Rattle.std.specs.Prelude.{List}
use Rattle.s38_queues.specs.declared.kept.Kept.{Kept}
use Rattle.s38_queues.specs.declared.kept.Kept.TheVariants as kept
use Rattle.s38_queues.specs.declared.message.Message.{Message}
use Rattle.s38_queues.specs.declared.message.Order.{Order}
use Rattle.s38_queues.specs.declared.message.Order.TheVariants.{Fifo, Lifo, Keyed}

-- which message is taken
abbrev pub order_of : Kept → Order
order_of (kept.Fifo messages) = Fifo
order_of (kept.Lifo messages) = Lifo
order_of (kept.Keyed messages) = Keyed

-- the messages in the order of their arrival
abbrev pub messages_of : Kept → List Message
messages_of (kept.Fifo messages) = messages.items
messages_of (kept.Lifo messages) = messages.items
messages_of (kept.Keyed messages) = messages
