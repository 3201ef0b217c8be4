use Rattle.std.proofs.Common.{rules, sym, []}
use Rattle.std.proofs.lemmas.List.Sorted.{IsPartitionPoint-from_clause}
use Rattle.s38_indexes.specs.Entries.{is_in_relation}
use Rattle.s38_indexes.proofs.CutLaws.{cut_partition, point_is}
use Rattle.s38_indexes.proofs.OrderLaws.{rising_cut}
use Rattle.s38_indexes.proofs.entries.front.Goals as goal

pub returns-clause-value : goal.returns-clause-value
returns-clause-value c =
    let p = is_in_relation c.args.relation c.args.key.now in
    let xs = c.args.entries.now in
    let n = c.partition_point.result in
    let parted = cut_partition p xs (rising_cut c.args.relation c.args.key.now xs c.requires.downward c.requires.rising) in
    let point = IsPartitionPoint-from_clause p xs n c.partition_point.ensures.partitioned parted (λ a r q k. search rules) in
    sym (point_is p [] xs n c.partition_point.ensures.bound point)
