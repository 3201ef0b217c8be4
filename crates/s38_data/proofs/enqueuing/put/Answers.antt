use Rattle.s38_queues.specs.MessageQueue.{message, with_message}
use Rattle.s38_data.proofs.QueueLaws.{queue_left}
use Rattle.s38_data.proofs.enqueuing.put.Goals as goal

pub invariant_of-world : goal.invariant_of-world
invariant_of-world c = (
  c.world.invariant.0,
  queue_left c.world.inside.profiles c.world.inside.objects c.put_in.new.objects c.args.number.0 (λ q. with_message q (message c.args.key.now c.args.text.now))
      c.put_in.result c.put_in.ensures.ok c.put_in.ensures.err c.world.invariant.1,
)
