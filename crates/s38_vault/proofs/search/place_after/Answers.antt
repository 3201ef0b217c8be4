use Rattle.std.proofs.Common.{not, rules, sym}
use Rattle.std.proofs.lemmas.List.Sorted.{IsPartitionPoint-from_clause}
use Rattle.std.specs.Ordering.{is_lt}
use Rattle.s38_vault.specs.Keys.{key_cmp, key_cmp_total}
use Rattle.s38_vault.proofs.PlaceLaws.{cut_partition, point_passed, sorted_cut_after}
use Rattle.s38_vault.proofs.search.place_after.Goals as goal

pub returns : goal.returns
returns g c =
    let key = c.args.key in
    let xs = c.args.entries.now in
    let n = c.partition_point.result in
    sym (point_passed (λ e. is_lt (key_cmp key e.0)) xs n c.partition_point.ensures.bound
    (IsPartitionPoint-from_clause (λ e. not (is_lt (key_cmp key e.0))) xs n c.partition_point.ensures.partitioned
    (cut_partition (λ e. not (is_lt (key_cmp key e.0))) xs (sorted_cut_after key_cmp_total key xs c.requires)) (λ a r q k. search rules)))
