use Rattle.std.proofs.Common.{◌≡◌, ◌<◌, false, length, List, subst, sym}
use Rattle.s38_indexes.specs.Entries.{IndexEntry, has_entry}
use Rattle.s38_indexes.specs.Leaves.{most}
use Rattle.s38_indexes.proofs.OrderLaws.{leaf_added}
use Rattle.s38_indexes.proofs.leaf.Leaf.add.Goals as goal

pub invariant_of-self : goal.invariant_of-self
invariant_of-self c =
    let entry = c.args.entry in
    let is = sym c.self.view_is in
    leaf_added c.add.result entry c.self.inside.entries.items c.add.new.entries.items c.add.ensures.ok c.add.ensures.err (subst (λ (xs : List IndexEntry). has_entry entry xs ≡ false) is c.requires.new) (subst (λ (xs : List IndexEntry). length xs < most) is c.requires.room) c.self.invariant
