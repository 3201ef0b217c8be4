use Rattle.std.proofs.Common.{◌≡◌, None, List, subst, sym}
use Rattle.s38_locks.specs.Locks.{Lock, hindrance, without_lock}
use Rattle.s38_locks.proofs.OrderLaws.{orderly_with, orderly_without}
use Rattle.s38_locks.proofs.held.Held.exchange.Goals as goal

pub invariant_of-self : goal.invariant_of-self
invariant_of-self c =
    let xs = c.self.inside.locks.items in
    let to = c.args.to in
    let none = subst (λ (ys : List Lock). hindrance to.0 to.1 (without_lock c.args.from ys) ≡ None) (sym c.self.view_is) c.requires.free in
    rw c.exchange.ensures (orderly_with to (without_lock c.args.from xs) none (orderly_without c.args.from xs c.self.invariant))
