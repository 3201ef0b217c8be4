-- Why a request for a lock is refused.
use Rattle.std.specs.Prelude.{ℕ, nat_le, Option, Some, None, List, length, if◌then◌else◌}
use Rattle.s38_base.specs.Limits as limits
use Rattle.s38_base.specs.declared.words.LockState.{LockState}
use Rattle.s38_locks.specs.Locks.{Lock, hindrance, is_held, without_lock}
use Rattle.s38_locks.specs.declared.fault.LockFault.{LockFault}
use Rattle.s38_locks.specs.declared.fault.LockFault.TheVariants.{NotGrantable, Limit, NotHeld}

-- a lock that is in the way comes before what else refuses
abbrev pub in_the_way : Option Lock → Option LockFault → Option LockFault
in_the_way (Some lock) later = Some (NotGrantable lock.0 lock.1)
in_the_way None later = later

-- a process asks for a state: no lock may be in the way, and then there must be room for one more
abbrev pub lock_refusal : ℕ → LockState → List Lock → Option LockFault
lock_refusal process state locks =
    in_the_way (hindrance process state locks) (if nat_le limits.most_rows (length locks) then Some Limit else None)

abbrev pub unlock_refusal : ℕ → LockState → List Lock → Option LockFault
unlock_refusal process state locks = if is_held (process, state) locks then None else Some NotHeld

-- a process hands a lock on: it holds it, and no lock beside it may be in the way
abbrev pub transfer_refusal : ℕ → ℕ → LockState → List Lock → Option LockFault
transfer_refusal from to state locks =
    if is_held (from, state) locks then in_the_way (hindrance to state (without_lock (from, state) locks)) None else Some NotHeld
