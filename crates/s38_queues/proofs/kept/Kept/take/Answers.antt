use Rattle.s38_queues.proofs.Sizes.{size_left}
use Rattle.s38_queues.specs.Kept.{messages_of, order_of}
use Rattle.s38_queues.specs.MessageQueue.{message_place}
use Rattle.s38_queues.proofs.kept.Kept.take.Goals as goal

pub returns-clause-size : goal.returns-clause-size
returns-clause-size c =
    let ms = messages_of c.args.self.now in
    size_left ms (messages_of c.take_out.new.self) (message_place (order_of c.args.self.now) c.args.relation c.args.key.now ms) c.take_out.result
    c.take_out.ensures.message c.take_out.ensures.rest
