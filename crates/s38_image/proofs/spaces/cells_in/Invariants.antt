use Rattle.std.proofs.Common.{◌≡◌, drop, take}
use Rattle.std.specs.Prelude.{All}
use Rattle.s38_codec.proofs.Loop.{with_front}
use Rattle.s38_image.specs.Spaces.{cells_by, flags_in}
use Rattle.s38_memory.specs.Cell.{IsCell}
use Rattle.s38_image.proofs.spaces.cells_in.Given as goal

abbrev pub invariant-loop-at : goal.invariant-loop-at
invariant-loop-at l =
    record {
      read : with_front l.cells.items ((cells_by (drop l.at (take l.count (flags_in l.tags)))).read l.rest) ≡ (cells_by (take l.count (flags_in l.tags))).read l.fn.from;
      cells : All IsCell l.cells.items;
    }
