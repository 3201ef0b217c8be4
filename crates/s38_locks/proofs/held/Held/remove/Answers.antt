use Rattle.s38_locks.proofs.OrderLaws.{orderly_without}
use Rattle.s38_locks.proofs.SearchLaws.{in_order}
use Rattle.s38_locks.proofs.held.Held.remove.Goals as goal

pub invariant_of-self : goal.invariant_of-self
invariant_of-self c = rw c.remove.ensures.items (orderly_without c.args.lock c.self.inside.locks.items c.self.invariant)

pub remove-requires-clause-order : goal.remove-requires-clause-order
remove-requires-clause-order c = in_order _ c.self.invariant
