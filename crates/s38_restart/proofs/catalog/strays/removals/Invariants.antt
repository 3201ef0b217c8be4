use Rattle.std.proofs.Common.{◌≡◌, filter, map, take}
use Rattle.s38_restart.specs.catalog.Groups.{is_stray, part_taken}
use Rattle.s38_restart.proofs.catalog.strays.removals.Given as goal

abbrev pub invariant-loop-part : goal.invariant-loop-part
invariant-loop-part l = l.changes.items ≡ map part_taken (filter (is_stray l.groups) (take l.part-index l.parts))
