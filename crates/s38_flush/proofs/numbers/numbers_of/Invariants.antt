use Rattle.std.proofs.Common.{◌≡◌, drop}
use Rattle.s38_space_map.specs.Forcings.{all_forced}
use Rattle.s38_flush.specs.Numbers.{numbers, with_all_numbers}
use Rattle.s38_flush.proofs.numbers.numbers_of.Given as goal

-- those that are left lead to all
abbrev pub invariant-loop-one : goal.invariant-loop-one
invariant-loop-one l = with_all_numbers l.found.items (all_forced (drop l.one-index l.all)) ≡ numbers (all_forced l.all)
