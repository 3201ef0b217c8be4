use Rattle.std.proofs.Common.{◌≡◌, map, take}
use Rattle.s38_restart.specs.Restarted.{number_in_stored}
use Rattle.s38_restart.proofs.following.numbers_of.Given as goal

abbrev pub invariant-loop-one : goal.invariant-loop-one
invariant-loop-one l = l.numbers.items ≡ map number_in_stored (take l.one-index l.stored)
