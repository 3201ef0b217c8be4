use Rattle.std.proofs.Common.{◌≡◌, drop}
use Rattle.std.specs.List.{list_any}
use Rattle.s38_space_map.specs.Forcings.{all_forced}
use Rattle.s38_flush.specs.Stepping.{is_forced_ceiling}
use Rattle.s38_flush.proofs.objects.forces_ceiling.Given as goal

abbrev pub invariant-loop-one : goal.invariant-loop-one
invariant-loop-one l = list_any is_forced_ceiling (all_forced (drop l.one-index l.all)) ≡ list_any is_forced_ceiling (all_forced l.all)
