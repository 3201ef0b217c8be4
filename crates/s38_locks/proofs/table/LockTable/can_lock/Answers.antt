use Rattle.std.proofs.Common.{◌≡◌, ◌∙◌, List, ap, subst}
use Rattle.s38_locks.specs.Locks.{IsOrderly, Lock, hinders}
use Rattle.s38_locks.specs.Table.{Table, locks_of}
use Rattle.s38_locks.proofs.OrderLaws.{least_if}
use Rattle.s38_locks.proofs.SearchLaws.{in_order}
use Rattle.s38_locks.proofs.table.LockTable.can_lock.Goals as goal

pub returns-in-Some-clause-least : goal.returns-in-Some-clause-least
returns-in-Some-clause-least c =
    let object = c.args.object.0 in
    let same : c.locks_of-locks.result.now ≡ locks_of c.args.self.now object = c.locks_of-locks.ensures.locks ∙ ap (λ (t : Table). locks_of t object) c.self.view_is in
    least_if (hinders c.args.process c.args.state) (locks_of c.args.self.now object) (subst (λ (xs : List Lock). IsOrderly xs) same c.locks_of-locks.ensures.orderly)

pub lock_refusal-requires : goal.lock_refusal-requires
lock_refusal-requires c = in_order _ c.locks_of-locks.ensures.orderly
