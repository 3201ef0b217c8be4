use Rattle.std.proofs.Common.{◌≡◌, filter, map, take}
use Rattle.s38_restart.specs.catalog.Groups.{group_of, is_header}
use Rattle.s38_restart.specs.catalog.Runs.{number_of}
use Rattle.s38_restart.proofs.catalog.groups.Groups.of.Given as goal

abbrev pub invariant-loop-at : goal.invariant-loop-at
invariant-loop-at l = record {
  groups : l.groups.items ≡ map (group_of l.parts) (filter is_header (take l.at l.parts));
  numbers : l.numbers.items ≡ map number_of l.groups.items;
}
