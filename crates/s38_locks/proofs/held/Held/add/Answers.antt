use Rattle.std.proofs.Common.{◌≡◌, None, List, subst, sym}
use Rattle.s38_locks.specs.Locks.{Lock, hindrance}
use Rattle.s38_locks.proofs.OrderLaws.{orderly_added}
use Rattle.s38_locks.proofs.SearchLaws.{in_order}
use Rattle.s38_locks.proofs.held.Held.add.Goals as goal

pub invariant_of-self : goal.invariant_of-self
invariant_of-self c =
    let lock = c.args.lock in
    orderly_added c.add.result lock c.self.inside.locks.items c.add.new.locks.items c.add.ensures.ok c.add.ensures.err (subst (λ (xs : List Lock). hindrance lock.0 lock.1 xs ≡ None) (sym c.self.view_is) c.requires) c.self.invariant

pub add-requires : goal.add-requires
add-requires c = in_order _ c.self.invariant
