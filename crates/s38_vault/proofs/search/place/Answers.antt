use Rattle.std.proofs.Common.{rules, sym}
use Rattle.std.proofs.lemmas.List.Sorted.{IsPartitionPoint-from_clause}
use Rattle.std.specs.Ordering.{is_lt}
use Rattle.s38_vault.specs.Keys.{key_cmp, key_cmp_total}
use Rattle.s38_vault.proofs.PlaceLaws.{cut_partition, point_is, sorted_cut}
use Rattle.s38_vault.proofs.search.place.Goals as goal

pub returns-clause-value : goal.returns-clause-value
returns-clause-value g c =
    let key = c.args.key in
    let xs = c.args.entries.now in
    let n = c.partition_point.result in
    sym (point_is (λ e. is_lt (key_cmp e.0 key)) xs n c.partition_point.ensures.bound
    (IsPartitionPoint-from_clause (λ e. is_lt (key_cmp e.0 key)) xs n c.partition_point.ensures.partitioned
    (cut_partition (λ e. is_lt (key_cmp e.0 key)) xs (sorted_cut key_cmp_total key xs c.requires)) (λ a r q k. search rules)))
