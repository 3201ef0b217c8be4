use Rattle.s38_image.proofs.QueueLaws.{message_len}
use Rattle.s38_image.proofs.queues.message_at.Goals as goal

pub returns-clause-len : goal.returns-clause-len
returns-clause-len c =
    message_len c.from.result c.args.longest c.args.from.now c.in_ok-key.key.now c.in_ok-key.rest.now c.in_ok-text.text.now c.in_ok-text.rest.now (λ i. (c.type_inv.from i).fits) c.in_ok-key.ensures.read c.in_ok-text.ensures.read
