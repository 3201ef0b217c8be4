use Rattle.std.proofs.Common.{◌≡◌, ◌-◌, length}
use Rattle.s38_restart.specs.Redo.{with_deleted}
use Rattle.s38_restart.proofs.changes.add_deleted.Given as goal

-- the ordinals that are left make what all make
abbrev pub invariant-loop-space : goal.invariant-loop-space
invariant-loop-space l =
    with_deleted l.space (l.at - length l.space.entries) ≡ with_deleted l.initial.space (l.at - length l.initial.space.entries)

abbrev pub decreases-loop-space : goal.decreases-loop-space
decreases-loop-space l = l.at - length l.space.entries
