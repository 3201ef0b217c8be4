use Rattle.std.proofs.Common.{sym, subst, Option, arith}
use Rattle.s38_codec.specs.Reading.{Gives}
use Rattle.s38_image.proofs.QueueLaws.{gives_queue, head_len, queue_whole}
use Rattle.s38_image.specs.Queues.{QueueHead}
use Rattle.s38_queues.specs.MessageQueue.{MessageQueue}
use Rattle.s38_image.proofs.queues.queue_in.Goals as goal

pub messages_in-requires-clause-near : goal.messages_in-requires-clause-near
messages_in-requires-clause-near c =
    let h : QueueHead = (c.in_ok-order.order, (c.in_ok-order.key_len, c.in_ok-order.longest)) in
    let size = head_len c.args.bytes.now c.in_ok-order.rest.now c.in_ok-count.rest.now h c.in_ok-count.count (λ i. (c.type_inv.bytes i).fits) c.in_ok-order.ensures.read c.in_ok-count.ensures in
    omega (arith, size, c.requires)

pub returns : goal.returns
returns c =
    let h : QueueHead = (c.in_ok-order.order, (c.in_ok-order.key_len, c.in_ok-order.longest)) in
    let is = queue_whole c.args.bytes.now c.in_ok-order.rest.now c.in_ok-count.rest.now h c.in_ok-count.count c.in_ok-order.ensures.read c.in_ok-count.ensures in
    subst (λ (o : Option MessageQueue). Gives (λ q. q) c.messages_in.result o) (sym is) (gives_queue c.messages_in.result _ h c.messages_in.ensures.read c.messages_in.ensures.order c.messages_in.ensures.key_len c.messages_in.ensures.longest)
