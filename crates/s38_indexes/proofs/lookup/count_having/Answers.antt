use Rattle.std.proofs.Common.{rules}
use Rattle.std.proofs.lemmas.List.Sorted.{IsPartitionPoint-from_clause}
use Rattle.s38_indexes.specs.Entries.{is_in_relation}
use Rattle.s38_indexes.specs.Leaves.{has, joined}
use Rattle.s38_indexes.proofs.CutLaws.{cut_partition}
use Rattle.s38_indexes.proofs.LookupLaws.{cut_has}
use Rattle.s38_indexes.proofs.OrderLaws.{rising_cut}
use Rattle.s38_indexes.proofs.lookup.count_having.Goals as goal

pub returns-clause-first : goal.returns-clause-first
returns-clause-first c =
    let relation = c.args.relation in
    let key = c.args.key.now in
    let leaves = c.args.leaves.now in
    let q = has relation key in
    let cut = cut_has (is_in_relation relation key) leaves (rising_cut relation key (joined leaves) c.requires.downward c.requires.rising) c.requires.none_empty in
    (IsPartitionPoint-from_clause q leaves c.partition_point.result c.partition_point.ensures.partitioned (cut_partition q leaves cut) (λ a r f k. search rules)).0

pub returns-clause-rest : goal.returns-clause-rest
returns-clause-rest c =
    let relation = c.args.relation in
    let key = c.args.key.now in
    let leaves = c.args.leaves.now in
    let q = has relation key in
    let cut = cut_has (is_in_relation relation key) leaves (rising_cut relation key (joined leaves) c.requires.downward c.requires.rising) c.requires.none_empty in
    (IsPartitionPoint-from_clause q leaves c.partition_point.result c.partition_point.ensures.partitioned (cut_partition q leaves cut) (λ a r f k. search rules)).1
