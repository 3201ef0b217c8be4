use Rattle.std.proofs.Common.{◌≡◌, take}
use Rattle.s38_base.proofs.seq.try_clones.Given as goal

abbrev pub invariant-loop-item : goal.invariant-loop-item
invariant-loop-item g l = l.list.items ≡ take l.item-index l.items
