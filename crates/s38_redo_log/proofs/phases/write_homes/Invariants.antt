use Rattle.std.proofs.Common.{◌≡◌, ℕ, take}
use Rattle.s38_disk.specs.Costs.{Costs}
use Rattle.s38_disk.specs.Moves.{Moves, MovesBy, Near}
use Rattle.s38_redo_log.specs.Store.{entries_written, targets}
use Rattle.s38_redo_log.proofs.phases.write_homes.Given as goal

abbrev pub invariant-loop-slot : goal.invariant-loop-slot
invariant-loop-slot g l = record {
  moves : Moves (g.D.Disk.view l.initial.disk) (g.D.Disk.view l.disk) l.slot-index (Near (targets l.slots));
  cost : Costs (g.D.Disk.view l.initial.disk) (g.D.Disk.view l.disk) l.slot-index 0;
  done : MovesBy (g.D.Disk.view l.initial.disk) (g.D.Disk.view l.disk) (λ s t. (i : ℕ) → t.now i ≡ entries_written (take l.slot-index l.slots) s.now i);
  count : (g.D.Disk.view l.disk).faults ≡ (g.D.Disk.view l.initial.disk).faults;
}
