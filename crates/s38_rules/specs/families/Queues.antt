-- Queues: made and destroyed; messages put and taken.
use Rattle.std.specs.Prelude.{ℕ, ◌+◌, ◌==◌, Bool, not, ◌||◌, List, [], length, max, min, Option, Some, None, is_some, nat_lt, if◌then◌else◌}
use Rattle.std.specs.Option.{unwrap_or}
use Rattle.s38_base.specs.declared.exception.Exception.{Exception}
use Rattle.s38_base.specs.declared.id.Kind.TheVariants as kinds
use Rattle.s38_base.specs.declared.op.Op.{Op}
use Rattle.s38_base.specs.declared.op.Op.TheVariants.{Crtq, Desq, Enq, Deq}
use Rattle.s38_base.specs.declared.words.Category.TheVariants.{Change}
use Rattle.s38_base.specs.declared.words.Relation.{Relation}
use Rattle.s38_base.specs.declared.words.Relation.TheVariants.{Any}
use Rattle.s38_base.specs.Exceptions as exceptions
use Rattle.s38_base.specs.Limits.{longest_message}
use Rattle.s38_base.specs.Relations.{relation_of}
use Rattle.s38_base.specs.RightNames as rights
use Rattle.s38_base.specs.Signals.{fails, first}
use Rattle.s38_queues.specs.MessageQueue.{MessageQueue, found_message, is_any, is_keyed, longest_key, message, message_found, queue_image_size, with_message, without_found}
use Rattle.s38_queues.specs.declared.message.Message.{Message}
use Rattle.s38_queues.specs.declared.message.Order.{Order}
use Rattle.s38_queues.specs.declared.message.Order.TheVariants.{Fifo, Lifo, Keyed}
use Rattle.s38_code.specs.declared.operand.Operand.{Operand}
use Rattle.s38_code.specs.declared.reply.Val.{Val}
use Rattle.s38_code.specs.declared.reply.Val.TheVariants as vals
use Rattle.s38_rules.specs.declared.creating.Creating.{Creating}
use Rattle.s38_rules.specs.declared.need.Need.{Need}
use Rattle.s38_rules.specs.declared.need.Sought.TheVariants.{Of}
use Rattle.s38_rules.specs.declared.object.Body.TheVariants as bodies
use Rattle.s38_rules.specs.families.Changes.{Changes, Gone, Made, OnQueue}
use Rattle.s38_rules.specs.families.Creation.{creation_fails, creation_gives, creation_needs, destruction_needs, in_context}
use Rattle.s38_rules.specs.state.Held.{Held}
use Rattle.s38_rules.specs.families.Instruction.{Instruction, inert}
use Rattle.s38_rules.specs.ask.Needs.{on_object}
use Rattle.s38_rules.specs.ask.Operands.{bytes_at, is_given, room_at, size_at, target, whole_at, word_at}
use Rattle.s38_rules.specs.ask.Receivers.{blank, fitted}
use Rattle.s38_rules.specs.state.PartsAt.{queue_at}
use Rattle.s38_rules.specs.state.State.{State}
use Rattle.s38_rules.specs.ask.Users.{user_of}

-- ---- CRTQ

abbrev pub created_queue : Held → List Operand → Creating
created_queue h ops = in_context kinds.Queue 1 h ops

unfoldable pub crtq_fails : State → ℕ → List Operand → Option Exception
crtq_fails s p ops = creation_fails s.held (user_of s p) (created_queue s.held ops) None

-- the order that a word names
abbrev pub order_of : ℕ → Order
order_of word = if word == 1 then Lifo else (if word == 2 then Keyed else Fifo)

-- keys of 1 to 120 bytes where they order the queue, and else none, and messages of 1 to 4,096; another number, which a
-- checked program does not have, is brought there
abbrev pub key_len_of : Order → ℕ → ℕ
key_len_of order len = if is_keyed order then max 1 (min longest_key len) else 0

abbrev pub key_len_at : List Operand → ℕ
key_len_at ops = key_len_of (order_of (word_at ops 5)) (whole_at ops 6)

abbrev pub longest_at : List Operand → ℕ
longest_at ops = max 1 (min longest_message (whole_at ops 7))

abbrev pub new_queue : List Operand → MessageQueue
new_queue ops = record { order = order_of (word_at ops 5); key_len = key_len_at ops; longest = longest_at ops; messages = [] }

abbrev pub crtq_changes : State → ℕ → List Operand → Changes
crtq_changes s p ops = Made (user_of s p) (created_queue s.held ops) (Some (bodies.Queue (new_queue ops)))

abbrev pub crtq : Instruction
crtq = record inert {
  needs = λ s p d r. creation_needs r.operands;
  fails = λ s p d r. crtq_fails s p r.operands;
  gives = λ s p d r. Some (creation_gives s.held (created_queue s.held r.operands));
  changes = λ s p d r. crtq_changes s p r.operands;
}

-- ---- DESQ

abbrev pub desq : Instruction
desq = record inert {
  needs = λ s p d r. destruction_needs kinds.Queue;
  changes = λ s p d r. Gone kinds.Queue (target s.held r.operands 1);
}

-- ---- ENQ

-- INSERT on the queue
unfoldable pub enq_needs : List Need
enq_needs = on_object 1 (Of kinds.Queue) rights.insert (Some Change)

-- the lengths of key and text suit the queue, and its image stays within the limit of a body; a message takes two
-- bytes beside them
abbrev pub put_fails : ℕ → MessageQueue → ℕ → ℕ → Option Exception
put_fails limit q key text =
    first (fails (not (key == q.key_len)) exceptions.length_invalid 2)
    (first (fails (nat_lt q.longest text) exceptions.length_invalid 3)
    (fails (nat_lt limit (queue_image_size q.messages + (key + text + 2))) exceptions.limit_exceeded 1))

unfoldable pub enq_fails : State → List Operand → Option Exception
enq_fails s ops = put_fails s.limit (queue_at s.held (target s.held ops 1)) (size_at s.held ops 2) (size_at s.held ops 3)

-- the message is the last of the queue
abbrev pub with_put : Held → List Operand → (MessageQueue → MessageQueue)
with_put h ops = λ q. with_message q (message (bytes_at h ops 2) (bytes_at h ops 3))

abbrev pub enq_changes : Held → List Operand → Changes
enq_changes h ops = OnQueue (target h ops 1) (with_put h ops)

abbrev pub enq : Instruction
enq = record inert {
  needs = λ s p d r. enq_needs;
  fails = λ s p d r. enq_fails s r.operands;
  changes = λ s p d r. enq_changes s.held r.operands;
}

-- ---- DEQ

-- DELETE on the queue
unfoldable pub deq_needs : List Need
deq_needs = on_object 2 (Of kinds.Queue) rights.delete (Some Change)

abbrev pub relation_at : List Operand → ℕ → Relation
relation_at ops k = unwrap_or (relation_of (word_at ops k)) Any

-- a queue without keys is asked for any message
abbrev pub suits_order : MessageQueue → Relation → Bool
suits_order q relation = is_any relation || is_keyed q.order

-- for any message no key is given, and else one of the length of the queue's keys
abbrev pub suits_keys : MessageQueue → Relation → Bool → ℕ → Bool
suits_keys q relation is_key len = if is_any relation then not is_key else len == q.key_len

-- the relation suits the queue, and the key suits both
abbrev pub ask_fails : MessageQueue → Relation → Bool → ℕ → Option Exception
ask_fails q relation is_key len =
    first (fails (not (suits_order q relation)) exceptions.length_invalid 3)
    (fails (not (suits_keys q relation is_key len)) exceptions.length_invalid 4)

-- the queue may be asked so, and there is such a message
abbrev pub take_fails : MessageQueue → Relation → Bool → List ℕ → Option Exception
take_fails q relation is_key key =
    first (ask_fails q relation is_key (length key)) (fails (not (is_some (message_found q relation key))) exceptions.no_message 2)

unfoldable pub deq_fails : Held → List Operand → Option Exception
deq_fails h ops = take_fails (queue_at h (target h ops 2)) (relation_at ops 3) (is_given ops 4) (bytes_at h ops 4)

abbrev pub message_text_of : Option Message → List ℕ
message_text_of None = []
message_text_of (Some m) = m.text

-- the text of the message that is taken, cut or filled with blanks
unfoldable pub deq_bytes : Held → List Operand → List ℕ
deq_bytes h ops = fitted (room_at ops 1) blank (message_text_of (found_message (queue_at h (target h ops 2)) (relation_at ops 3) (bytes_at h ops 4)))

abbrev pub deq_gives : Held → List Operand → Val
deq_gives h ops = vals.Bytes (deq_bytes h ops)

abbrev pub left_by : Relation → List ℕ → MessageQueue → MessageQueue
left_by relation key q = without_found q relation key

-- it leaves the queue
abbrev pub deq_changes : Held → List Operand → Changes
deq_changes h ops = OnQueue (target h ops 2) (left_by (relation_at ops 3) (bytes_at h ops 4))

abbrev pub deq : Instruction
deq = record inert {
  needs = λ s p d r. deq_needs;
  fails = λ s p d r. deq_fails s.held r.operands;
  gives = λ s p d r. Some (deq_gives s.held r.operands);
  changes = λ s p d r. deq_changes s.held r.operands;
}

-- ---- the family

unfoldable pub queues_row : Op → Instruction
queues_row Crtq = crtq
queues_row Desq = desq
queues_row Enq = enq
queues_row Deq = deq
queues_row _ = inert
