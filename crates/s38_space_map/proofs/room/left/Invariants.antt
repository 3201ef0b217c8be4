use Rattle.std.proofs.Common.{◌≡◌, ◌-◌, sum_by, take}
use Rattle.s38_rules.specs.store.Room.{parts_of}
use Rattle.s38_space_map.proofs.room.left.Given as goal

abbrev pub invariant-loop-extent : goal.invariant-loop-extent
invariant-loop-extent l = l.left ≡ l.fn.parts - sum_by parts_of (take l.extent-index l.extents)
