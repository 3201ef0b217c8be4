use Rattle.s38_locks.proofs.SearchLaws.{in_order}
use Rattle.s38_locks.proofs.table.LockTable.can_unlock.Goals as goal

pub unlock_refusal-requires : goal.unlock_refusal-requires
unlock_refusal-requires c = in_order _ c.locks_of.ensures.orderly
