use Rattle.std.specs.Prelude.{◌==◌, not}
use Rattle.s38_locks.specs.Locks.{Lock}
use Rattle.s38_locks.proofs.OrderLaws.{orderly_filtered}
use Rattle.s38_locks.proofs.held.Held.release.Goals as goal

pub invariant_of-self : goal.invariant_of-self
invariant_of-self c = rw c.release.ensures (orderly_filtered (λ (lock : Lock). not (lock.0 == c.args.process)) c.self.inside.locks.items c.self.invariant)
