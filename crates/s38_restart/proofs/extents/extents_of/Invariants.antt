use Rattle.std.proofs.Common.{◌≡◌, map, take}
use Rattle.s38_durable_state.specs.Following.{extent_in}
use Rattle.s38_restart.proofs.extents.extents_of.Given as goal

abbrev pub invariant-loop-one : goal.invariant-loop-one
invariant-loop-one l = l.extents.items ≡ map extent_in (take l.one-index l.stored)
