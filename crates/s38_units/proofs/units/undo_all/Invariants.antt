use Rattle.std.proofs.Common.{◌≡◌, ◌-◌, length, take}
use Rattle.s38_rules.specs.families.Units.{all_undone}
use Rattle.s38_units.proofs.units.undo_all.Given as goal

abbrev pub invariant-loop-taken : goal.invariant-loop-taken
invariant-loop-taken l = all_undone l.objects (take (length l.changes - l.taken) l.changes) ≡ all_undone l.fn.objects l.changes
