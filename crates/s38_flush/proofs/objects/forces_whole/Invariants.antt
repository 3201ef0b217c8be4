use Rattle.std.proofs.Common.{◌≡◌, drop}
use Rattle.std.specs.List.{list_any}
use Rattle.s38_rules.specs.store.Forcing.{is_whole}
use Rattle.s38_space_map.specs.Forcings.{all_forced}
use Rattle.s38_flush.proofs.objects.forces_whole.Given as goal

abbrev pub invariant-loop-one : goal.invariant-loop-one
invariant-loop-one l = list_any (is_whole l.number) (all_forced (drop l.one-index l.all)) ≡ list_any (is_whole l.number) (all_forced l.all)
