use Rattle.std.proofs.Common.{◌≡◌, ◌≤◌, ◌<◌, ◌-◌, ℕ}
use Rattle.s38_disk.specs.Moves.{Moves, MovesBy, Near}
use Rattle.s38_redo_log.specs.Phases.{block_between}
use Rattle.s38_pages.specs.Formats.{IsBlank}
use Rattle.s38_pages.proofs.formatting.write_zeros.Given as goal

-- the blocks so far are blank
abbrev pub invariant-loop-at : goal.invariant-loop-at
invariant-loop-at g l = record {
  moves : Moves (g.D.Disk.view l.initial.disk) (g.D.Disk.view l.disk) (l.at - 1) (Near (block_between 1 l.size));
  done : MovesBy (g.D.Disk.view l.initial.disk) (g.D.Disk.view l.disk) (λ s t. (i : ℕ) → 1 ≤ i → i < l.at → IsBlank (t.now i));
  count : (g.D.Disk.view l.disk).faults ≡ (g.D.Disk.view l.initial.disk).faults;
}
