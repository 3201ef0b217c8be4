use Rattle.std.proofs.Common.{ap, sym, refl, ◌∙◌, ◌+◌, ℕ, length, ◌∷◌, [], arith}
use Rattle.std.specs.Prelude.{sum_by}
use Rattle.s38_codec.specs.Formats.{u16, u32}
use Rattle.s38_image.specs.Queues.{order_number}
use Rattle.s38_image_writer.proofs.PrintLaws.{queue_bytes}
use Rattle.s38_image_writer.proofs.WriterLaws.{adds_same, adds_then}
use Rattle.s38_queues.specs.MessageQueue.{message_size, queue_image_size}
use Rattle.s38_image_writer.proofs.bodies.put_queue.Goals as goal

pub returns : goal.returns
returns c =
    let q = c.args.held.now in
    let order = c.order_number.ensures ∙ ap order_number c.order.ensures in
    let front = adds_same _ _ 1 1 _ (order_number q.order ∷ []) c.put_byte.ensures refl (ap (λ (n : ℕ). n ∷ []) order) in
    let key = adds_same _ _ 1 1 _ (q.key_len ∷ []) c.put_byte-2.ensures refl (ap (λ (n : ℕ). n ∷ []) c.key_len.ensures) in
    let longest = adds_same _ _ 2 2 _ (u16.print q.longest) c.put_u16.ensures refl (ap u16.print c.longest.ensures) in
    let count = adds_same _ _ 4 4 _ (u32.print (length q.messages)) c.put_count.ensures refl (ap u32.print c.len.ensures) in
    let all = adds_then _ _ _ 1 (1 + (2 + (4 + sum_by message_size q.messages))) _ _ front (adds_then _ _ _ 1 (2 + (4 + sum_by message_size q.messages)) _ _ key (adds_then _ _ _ 2 (4 + sum_by message_size q.messages) _ _ longest (adds_then _ _ _ 4 (sum_by message_size q.messages) _ _ count c.put_messages.ensures))) in
    adds_same _ _ _ (queue_image_size q.messages) _ _ all (omega arith) (sym (queue_bytes q))
