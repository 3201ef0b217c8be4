use Rattle.s38_locks.proofs.OrderLaws.{orderly_without}
use Rattle.s38_locks.proofs.SearchLaws.{in_order}
use Rattle.s38_locks.proofs.locks.exchange.Goals as goal

pub remove-requires-clause-order : goal.remove-requires-clause-order
remove-requires-clause-order c = in_order c.args.locks.now.items c.requires.order

pub add-requires : goal.add-requires
add-requires c = rw c.remove.ensures.items (in_order _ (orderly_without c.args.from c.args.locks.now.items c.requires.order))
