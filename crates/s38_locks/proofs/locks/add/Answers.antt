use Rattle.std.proofs.Common.{◌∙◌}
use Rattle.s38_locks.proofs.OrderLaws.{inserted_at}
use Rattle.s38_locks.proofs.locks.add.Goals as goal

pub first_later-at-requires : goal.first_later-at-requires
first_later-at-requires c = rw c.deref.ensures.value c.requires

pub returns-in-Ok-clause-ok : goal.returns-in-Ok-clause-ok
returns-in-Ok-clause-ok c = c.in-Ok.ensures.items ∙ inserted_at c.args.lock c.args.locks.now.items c.first_later-at.result (rw c.deref.ensures.value at c.first_later-at.ensures.value)
