use Rattle.s38_indexes.proofs.OrderLaws.{leaf_lower, leaf_upper}
use Rattle.s38_indexes.proofs.leaf.Leaf.split.Goals as goal

pub invariant_of-result : goal.invariant_of-result
invariant_of-result c = leaf_upper c.split.new.entries.items c.in-Ok.entries.items c.self.inside.entries.items c.in-Ok.ensures.ok c.self.invariant

pub invariant_of-self : goal.invariant_of-self
invariant_of-self c = leaf_lower (λ upper. upper.items) c.split.result c.split.new.entries.items c.self.inside.entries.items c.split.ensures.ok c.split.ensures.err c.self.invariant
