use Rattle.std.proofs.Common.{◌≡◌, ◌-◌, ◌^◌}
use Rattle.s38_commits.specs.Units.{above}
use Rattle.s38_rules.specs.families.Units.{all_decommitted}
use Rattle.s38_units.proofs.ends.take_all_back.Given as goal

abbrev pub invariant-loop-next : goal.invariant-loop-next
invariant-loop-next l =
    all_decommitted l.world l.process (above l.block.0 l.world.units) ≡ all_decommitted l.fn.world l.process l.fn.world.units

abbrev pub decreases-loop-next : goal.decreases-loop-next
decreases-loop-next l = 2 ^ 64 - l.block.0
