use Rattle.std.proofs.Common.{rules, sym}
use Rattle.std.proofs.lemmas.List.Sorted.{IsPartitionPoint-from_clause}
use Rattle.s38_space_map.proofs.SearchLaws.{count_is, is_before, parted}
use Rattle.s38_space_map.proofs.extents.place_of.Goals as goal

pub returns-clause-place : goal.returns-clause-place
returns-clause-place c =
    let number = c.args.number.0 in
    let xs = c.args.extents.now in
    let n = c.partition_point.result in
    sym (count_is number xs n c.partition_point.ensures.bound
    (IsPartitionPoint-from_clause (is_before number) xs n c.partition_point.ensures.partitioned
    (parted number xs c.requires.rising) (λ a r q k. search rules)))
