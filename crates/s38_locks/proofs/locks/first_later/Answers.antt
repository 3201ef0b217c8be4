use Rattle.std.proofs.Common.{rules}
use Rattle.std.proofs.lemmas.List.Sorted.{IsPartitionedBy-leb, IsPartitionPoint-from_clause}
use Rattle.std.specs.Prelude.{nat_le}
use Rattle.s38_locks.specs.Locks.{lock_place}
use Rattle.s38_locks.proofs.SearchLaws.{later_found}
use Rattle.s38_locks.proofs.locks.first_later.Goals as goal

pub returns-clause-value : goal.returns-clause-value
returns-clause-value c =
    let lock = c.args.lock in
    let xs = c.args.locks.now in
    let n = c.partition_point.result in
    later_found lock xs n c.partition_point.ensures.bound
    (IsPartitionPoint-from_clause (λ other. nat_le (lock_place other) (lock_place lock)) xs n c.partition_point.ensures.partitioned (IsPartitionedBy-leb lock_place xs (lock_place lock) c.requires) (λ a r q k. search rules))
