use Rattle.std.proofs.Common.{◌≡◌, length, take}
use Rattle.s38_joblog.specs.Grouped.{AreGrouped, heads}
use Rattle.s38_joblog.proofs.log.grouped.Given as goal

abbrev pub invariant-loop-k : goal.invariant-loop-k
invariant-loop-k l = record {
  count : length l.texts.items ≡ length l.jobs;
  lines : AreGrouped (heads l.jobs) (take l.k l.history) l.texts.items;
}
