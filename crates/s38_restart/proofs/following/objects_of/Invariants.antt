use Rattle.std.proofs.Common.{◌≡◌, map}
use Rattle.s38_restart.specs.catalog.Readings.{object_in_stored}
use Rattle.s38_restart.proofs.following.objects_of.Given as goal

abbrev pub invariant-loop-one : goal.invariant-loop-one
invariant-loop-one l = l.objects.items ≡ map object_in_stored l.yielded
