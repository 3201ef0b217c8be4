-- A queue is its order, the length of its keys, the length of its longest message, and its messages in the
-- order of their arrival.
use Rattle.std.specs.Prelude.{ℕ, ◌+◌, ◌==◌, Bool, true, false, ◌&&◌, ◌||◌, List, ◌++◌, ◌∷◌, [], length, sum_by, Option, Some, None, if◌then◌else◌, position, slice_get}
use Rattle.std.specs.Cmp.Lexicographic.{slice_cmp}
use Rattle.std.specs.List.{remove}
use Rattle.std.specs.Ordering.{nat_cmp}
use Rattle.s38_base.specs.Relations.{holds, is_greater}
use Rattle.s38_base.specs.declared.words.Relation.{Relation}
use Rattle.s38_base.specs.declared.words.Relation.TheVariants.{Any, Eq}
use Rattle.s38_queues.specs.declared.message.Order.{Order}
use Rattle.s38_queues.specs.declared.message.Order.TheVariants.{Fifo, Lifo, Keyed}
use Rattle.s38_queues.specs.declared.message.Message.{Message}

pub record MessageQueue : Type 0 where
  pub order : Order
  pub key_len : ℕ
  pub longest : ℕ
  pub messages : List Message

-- the longest key
abbrev pub longest_key : ℕ
longest_key = 120

abbrev pub message : List ℕ → List ℕ → Message
message key text = record { key = key; text = text }

-- the bytes of a message in the image of a queue: its key, two bytes for its length, and its text
abbrev pub message_size : Message → ℕ
message_size m = length m.key + length m.text + 2

-- the bytes of the image: eight for the queue itself, and its messages
abbrev pub queue_image_size : List Message → ℕ
queue_image_size messages = 8 + sum_by message_size messages

-- the queue with one more message, which has arrived last
abbrev pub with_message : MessageQueue → Message → MessageQueue
with_message q m = record q { messages = q.messages ++ m ∷ [] }

-- the queue without the message at a place
abbrev pub without_message : MessageQueue → ℕ → MessageQueue
without_message q at = record q { messages = remove q.messages at }

-- ---- what may be asked

abbrev pub is_keyed : Order → Bool
is_keyed Keyed = true
is_keyed _ = false

abbrev pub is_any : Relation → Bool
is_any Any = true
is_any _ = false

-- any message, or, of a queue with keys, one by a key of their length
abbrev pub message_is_sought : MessageQueue → Relation → ℕ → Bool
message_is_sought q relation key_len = is_any relation || (is_keyed q.order && (key_len == q.key_len))

-- ---- which message is taken

-- whether the key of a message is in a relation to a key, byte by byte
abbrev pub key_is_in_relation : Relation → List ℕ → Message → Bool
key_is_in_relation relation key m = holds relation (slice_cmp nat_cmp m.key key)

abbrev pub lesser : List ℕ → Option (List ℕ) → List ℕ
lesser key None = key
lesser key (Some other) = if is_greater (slice_cmp nat_cmp key other) then other else key

-- the least of the keys of those messages that fit
abbrev pub least_key : (Message → Bool) → List Message → Option (List ℕ)
least_key f [] = None
least_key f (m ∷ ms) = if f m then Some (lesser m.key (least_key f ms)) else least_key f ms

abbrev pub oldest_of_key : Option (List ℕ) → List Message → Option ℕ
oldest_of_key None ms = None
oldest_of_key (Some key) ms = position (key_is_in_relation Eq key) ms

-- the place of the first message in the order of keys, among those that fit; of equal keys that of the one that
-- arrived first
abbrev pub first_by_key : (Message → Bool) → List Message → Option ℕ
first_by_key f ms = oldest_of_key (least_key f ms) ms

abbrev pub oldest : List Message → Option ℕ
oldest [] = None
oldest (m ∷ ms) = Some 0

abbrev pub newest : List Message → Option ℕ
newest [] = None
newest (m ∷ ms) = Some (length ms)

abbrev pub message_place : Order → Relation → List ℕ → List Message → Option ℕ
message_place Fifo relation key ms = oldest ms
message_place Lifo relation key ms = newest ms
message_place Keyed relation key ms = first_by_key (key_is_in_relation relation key) ms

-- the place of the message that is taken: in order of arrival the oldest, against it the newest, and by keys the
-- first in their order whose key is in the relation to the key; none where the queue may not be asked so
abbrev pub message_found : MessageQueue → Relation → List ℕ → Option ℕ
message_found q relation key = if message_is_sought q relation (length key) then message_place q.order relation key q.messages else None

abbrev pub message_at : List Message → Option ℕ → Option Message
message_at ms None = None
message_at ms (Some at) = slice_get ms at

abbrev pub found_message : MessageQueue → Relation → List ℕ → Option Message
found_message q relation key = message_at q.messages (message_found q relation key)

abbrev pub without_place : MessageQueue → Option ℕ → MessageQueue
without_place q None = q
without_place q (Some at) = without_message q at

-- the queue without the message that is taken
abbrev pub without_found : MessageQueue → Relation → List ℕ → MessageQueue
without_found q relation key = without_place q (message_found q relation key)
