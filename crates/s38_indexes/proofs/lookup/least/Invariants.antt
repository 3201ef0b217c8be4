use Rattle.std.proofs.Common.{◌≡◌, drop}
use Rattle.s38_indexes.specs.Entries.{least}
use Rattle.s38_indexes.specs.Leaves.{joined}
use Rattle.s38_indexes.proofs.lookup.least.Given as goal

abbrev pub invariant-loop-leaf : goal.invariant-loop-leaf
invariant-loop-leaf l = least l.relation l.key (joined l.leaves) ≡ least l.relation l.key (joined (drop l.leaf-index l.leaves))
