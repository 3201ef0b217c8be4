use Rattle.s38_laws_flush.proofs.durable.ReadableLaws.{forced_readable}
use Rattle.s38_laws_flush.proofs.durable.readable.what_is_forced_is_read_again.Goals as goal

pub returns : goal.returns
returns c = λ all s bodies settles again. forced_readable all s bodies settles again
