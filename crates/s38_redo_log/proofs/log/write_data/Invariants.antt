use Rattle.std.proofs.Common.{◌≡◌, ◌<◌, ◌+◌, ◌/◌, ℕ, length}
use Rattle.s38_disk.specs.Costs.{Costs}
use Rattle.s38_disk.specs.Moves.{Moves, MovesBy, Near}
use Rattle.s38_redo_log.specs.Phases.{block_between, slot_at}
use Rattle.s38_redo_log.proofs.log.write_data.Given as goal

abbrev pub invariant-loop-k : goal.invariant-loop-k
invariant-loop-k g l = record {
  moves : Moves (g.D.Disk.view l.initial.disk) (g.D.Disk.view l.disk) l.k (Near (block_between (3 + length l.slots / 132) (3 + length l.slots / 132 + length l.slots)));
  cost : Costs (g.D.Disk.view l.initial.disk) (g.D.Disk.view l.disk) l.k 0;
  done : MovesBy (g.D.Disk.view l.initial.disk) (g.D.Disk.view l.disk) (λ s t. (i : ℕ) → i < l.k → t.now (3 + length l.slots / 132 + i) ≡ (slot_at l.slots i).block);
  count : (g.D.Disk.view l.disk).faults ≡ (g.D.Disk.view l.initial.disk).faults;
}
