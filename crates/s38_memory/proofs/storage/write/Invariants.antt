use Rattle.std.proofs.Common.{◌≡◌, ◌+◌, ◌*◌, ◌<◌, ◌≤◌, All, length}
use Rattle.s38_memory.specs.Cell.{IsCell}
use Rattle.s38_memory.specs.Tagged.{cells_written}
use Rattle.s38_memory.proofs.storage.write.Given as goal

abbrev pub invariant-loop-rest : goal.invariant-loop-rest
invariant-loop-rest l =
    record {
      offset : l.offset < 16;
      room : 16 * l.place + l.offset + length l.rest ≤ 16 * length l.cells;
      cells : All IsCell l.cells;
      to_come : cells_written (16 * l.place + l.offset) l.rest l.cells ≡ cells_written l.at l.piece l.initial.cells;
    }

abbrev pub decreases-loop-rest : goal.decreases-loop-rest
decreases-loop-rest l = length l.rest
