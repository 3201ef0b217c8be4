-- The body of a queue.
use Rattle.std.specs.Prelude.{ℕ, Bool, ◌&&◌, ◌==◌, List, nat_le, nat_lt, if◌then◌else◌}
use Rattle.s38_base.specs.Limits.{longest_message}
use Rattle.s38_codec.specs.Codec.{Codec, byte, bytes, dependent_pair, only, seen}
use Rattle.s38_codec.specs.Formats.{list_of, text, u16}
use Rattle.s38_queues.specs.MessageQueue.{MessageQueue, is_keyed, longest_key}
use Rattle.s38_queues.specs.declared.message.Message.{Message}
use Rattle.s38_queues.specs.declared.message.Order.{Order}
use Rattle.s38_queues.specs.declared.message.Order.TheVariants as orders

abbrev pub order_by : ℕ → Order
order_by n = if n == 0 then orders.Fifo else (if n == 1 then orders.Lifo else orders.Keyed)

abbrev pub order_number : Order → ℕ
order_number orders.Fifo = 0
order_number orders.Lifo = 1
order_number orders.Keyed = 2

abbrev pub order_form : Codec Order
order_form = seen order_by order_number (only (λ n. nat_lt n 3) byte)

abbrev pub message_by : List ℕ × List ℕ → Message
message_by x = record { key = x.0; text = x.1 }

abbrev pub message_parts : Message → List ℕ × List ℕ
message_parts m = (m.key, m.text)

-- a key, and a text after its length
abbrev pub message_form : ℕ → ℕ → Codec Message
message_form key_len longest = seen message_by message_parts (dependent_pair (bytes key_len) (λ _. text longest))

-- with keys of 1 to 120 bytes or without, and messages of 1 to 4,096 bytes at most
abbrev pub is_queue : Order → ℕ → ℕ → Bool
is_queue order_form key_len longest =
    (nat_le 1 longest && nat_le longest longest_message)
    && (if is_keyed order_form then nat_le 1 key_len && nat_le key_len longest_key else key_len == 0)

abbrev pub QueueHead : Type 0
QueueHead = Order × (ℕ × ℕ)

abbrev pub is_queue_head : QueueHead → Bool
is_queue_head x = is_queue x.0 x.1.0 x.1.1

abbrev pub queue_head : Codec QueueHead
queue_head = only is_queue_head (dependent_pair order_form (λ _. dependent_pair byte (λ _. u16)))

abbrev pub queue_by : QueueHead × List Message → MessageQueue
queue_by x = record { order = x.0.0; key_len = x.0.1.0; longest = x.0.1.1; messages = x.1 }

abbrev pub queue_parts : MessageQueue → QueueHead × List Message
queue_parts q = ((q.order, (q.key_len, q.longest)), q.messages)

-- which message is taken, the lengths of keys and of the longest message, and the messages in the order of their arrival
abbrev pub queue : Codec MessageQueue
queue = seen queue_by queue_parts (dependent_pair queue_head (λ h. list_of (message_form h.1.0 h.1.1)))
