use Rattle.std.proofs.Common.{arith}
use Rattle.s38_base.specs.Limits.{body_limit}
use Rattle.s38_laws_images.proofs.readable.QueueLaws.{queue_fits}
use Rattle.s38_laws_images.proofs.readable.bodies.queue_is_readable.Goals as goal

pub returns : goal.returns
returns c = queue_fits body_limit c.args.held.now (omega arith) c.requires.limits c.requires.keys
