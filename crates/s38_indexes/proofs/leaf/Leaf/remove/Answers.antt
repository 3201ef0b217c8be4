use Rattle.std.proofs.Common.{subst, sym}
use Rattle.s38_indexes.specs.Leaves.{IsLeaf}
use Rattle.s38_indexes.proofs.OrderLaws.{leaf_without}
use Rattle.s38_indexes.proofs.leaf.Leaf.remove.Goals as goal

pub invariant_of-self : goal.invariant_of-self
invariant_of-self c = subst IsLeaf (sym c.remove.ensures.rest) (leaf_without c.args.key.now c.self.inside.entries.items c.self.invariant)
