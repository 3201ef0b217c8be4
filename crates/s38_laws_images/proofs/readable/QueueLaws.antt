-- Which queues are read again as they were printed.
use Rattle.std.proofs.Common.{◌≡◌, ℕ, ◌<◌, ◌≤◌, ◌^◌, true, length, refl, arith}
use Rattle.std.proofs.lemmas.Bool.{eq-eqb, lt-ltb}
use Rattle.std.specs.Prelude.{◌&&◌, nat_le}
use Rattle.s38_base.specs.Limits.{longest_message}
use Rattle.s38_codec.proofs.CodecLaws.{and_true}
use Rattle.s38_codec.specs.Codec.{byte, bytes, only}
use Rattle.s38_codec.specs.Formats.{list_of, text, u16}
use Rattle.s38_image.specs.Queues.{is_queue, message_form, order_form, queue, queue_head}
use Rattle.s38_queues.specs.MessageQueue.{MessageQueue, message_size}
use Rattle.s38_queues.specs.declared.message.Message.{Message}
use Rattle.s38_queues.specs.declared.message.Order.{Order}
use Rattle.s38_queues.specs.declared.message.Order.TheVariants as orders
use Rattle.s38_laws_images.proofs.readable.ListLaws.{at_most, length_sum, list_fits, times_fit}
use Rattle.s38_laws_images.specs.openings.Bodies.{IsMessageOf, IsQueue}
use Rattle.s38_laws_images.specs.readable.Forms.{has_keys}

order_fits : (o : Order) → order_form.fits o ≡ true
order_fits orders.Fifo = refl
order_fits orders.Lifo = refl
order_fits orders.Keyed = refl

message_fits : (key_len longest : ℕ) (m : Message) → longest ≤ longest_message → IsMessageOf key_len longest m → (message_form key_len longest).fits m ≡ true
message_fits key_len longest m most is =
    let small : length m.text < 2 ^ 16 = omega (arith, is.text, most) in
    and_true ((bytes key_len).fits m.key) ((text longest).fits m.text) (eq-eqb (length m.key) key_len is.key)
    (and_true ((only (λ n. nat_le n longest) u16).fits (length m.text)) ((bytes (length m.text)).fits m.text)
    (and_true (nat_le (length m.text) longest) _ (at_most (length m.text) longest is.text) (lt-ltb (length m.text) (2 ^ 16) small))
    (eq-eqb (length m.text) (length m.text) refl))

some_bytes : (m : Message) → 1 ≤ message_size m
some_bytes m = omega arith

head_fits : (limit : ℕ) (q : MessageQueue) → IsQueue limit q → has_keys q.order q.key_len ≡ true → queue_head.fits (q.order, (q.key_len, q.longest)) ≡ true
head_fits limit q is keys =
    let key : q.key_len < 256 = omega (arith, is.key) in
    let longest : q.longest < 2 ^ 16 = omega (arith, is.most) in
    and_true (is_queue q.order q.key_len q.longest) _
    (and_true (nat_le 1 q.longest && nat_le q.longest longest_message) _ (and_true (nat_le 1 q.longest) _ (at_most 1 q.longest is.some) (at_most q.longest longest_message is.most)) keys)
    (and_true (order_form.fits q.order) _ (order_fits q.order) (and_true (byte.fits q.key_len) (u16.fits q.longest) (lt-ltb q.key_len 256 key) (lt-ltb q.longest (2 ^ 16) longest)))

pub queue_fits : (limit : ℕ) (q : MessageQueue) → limit ≤ 16777216 → IsQueue limit q → has_keys q.order q.key_len ≡ true → queue.fits q ≡ true
queue_fits limit q small is keys =
    let few : length q.messages < 2 ^ 32 = omega (arith, length_sum message_size some_bytes q.messages, is.image, small) in
    and_true (queue_head.fits (q.order, (q.key_len, q.longest))) ((list_of (message_form q.key_len q.longest)).fits q.messages) (head_fits limit q is keys)
    (list_fits (message_form q.key_len q.longest) q.messages few
    (times_fit (message_form q.key_len q.longest) (IsMessageOf q.key_len q.longest) (λ m of. message_fits q.key_len q.longest m is.most of) q.messages is.messages))
