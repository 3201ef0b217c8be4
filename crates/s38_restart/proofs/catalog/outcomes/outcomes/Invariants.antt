use Rattle.std.proofs.Common.{◌≡◌, take}
use Rattle.std.specs.Prelude.{filter_map}
use Rattle.s38_image.specs.Faults.{sound}
use Rattle.s38_restart.specs.catalog.Readings.{fault_alone}
use Rattle.s38_restart.proofs.catalog.outcomes.outcomes.Given as goal

abbrev pub invariant-loop-at : goal.invariant-loop-at
invariant-loop-at l = record {
  stored : l.stored.items ≡ filter_map (sound l.groups l.limit l.ceiling) (take l.at l.groups);
  faults : l.faults.items ≡ filter_map (fault_alone l.groups l.limit l.ceiling) (take l.at l.groups);
}
