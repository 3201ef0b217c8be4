use Rattle.std.proofs.Common.{Bool, List, not, rules, sym, []}
use Rattle.std.proofs.lemmas.List.Sorted.{IsPartitionPoint-from_clause}
use Rattle.s38_indexes.specs.Entries.{IndexEntry, is_in_relation}
use Rattle.s38_indexes.specs.Leaves.{joined, passes}
use Rattle.s38_indexes.proofs.CutLaws.{cut_partition, point_passed}
use Rattle.s38_indexes.proofs.LookupLaws.{cut_passes}
use Rattle.s38_indexes.proofs.OrderLaws.{rising_cut}
use Rattle.s38_indexes.proofs.lookup.first_passing.Goals as goal

pub returns-clause-value : goal.returns-clause-value
returns-clause-value c =
    let relation = c.args.relation in
    let key = c.args.key.now in
    let leaves = c.args.leaves.now in
    let q : List IndexEntry → Bool = λ leaf. not (passes relation key leaf) in
    let n = c.partition_point.result in
    let cut = cut_passes (is_in_relation relation key) leaves (rising_cut relation key (joined leaves) c.requires.downward c.requires.rising) c.requires.none_empty in
    let point = IsPartitionPoint-from_clause q leaves n c.partition_point.ensures.partitioned (cut_partition q leaves cut) (λ a r f k. search rules) in
    sym (point_passed (passes relation key) [] leaves n c.partition_point.ensures.bound point)
