use Rattle.std.proofs.Common.{◌≡◌, ◌<◌, ◌+◌, ◌*◌, ◌/◌, ℕ, length}
use Rattle.s38_disk.specs.Costs.{Costs}
use Rattle.s38_disk.specs.Moves.{Moves, MovesBy, Near}
use Rattle.s38_redo_log.specs.Store.{log_word}
use Rattle.s38_redo_log.specs.Phases.{block_between, log_number_at}
use Rattle.s38_redo_log.proofs.log.write_numbers.Given as goal

abbrev pub invariant-loop-j : goal.invariant-loop-j
invariant-loop-j g l = record {
  moves : Moves (g.D.Disk.view l.initial.disk) (g.D.Disk.view l.disk) l.j (Near (block_between 2 (3 + length l.slots / 132)));
  cost : Costs (g.D.Disk.view l.initial.disk) (g.D.Disk.view l.disk) l.j 0;
  done : MovesBy (g.D.Disk.view l.initial.disk) (g.D.Disk.view l.disk) (λ s t. (k : ℕ) → k < 132 * l.j → log_word t.now k ≡ log_number_at l.slots k);
  count : (g.D.Disk.view l.disk).faults ≡ (g.D.Disk.view l.initial.disk).faults;
}
