use Rattle.std.proofs.Common.{◌≡◌, ◌*◌, length, take}
use Rattle.s38_memory.specs.Tagged.{bytes_in}
use Rattle.s38_image_writer.proofs.pages.bytes_in.Given as goal

abbrev pub invariant-loop-cell : goal.invariant-loop-cell
invariant-loop-cell l =
    record {
      bytes : l.bytes.items ≡ bytes_in (take l.cell-index l.cells);
      len : length l.bytes.items ≡ 16 * l.cell-index;
    }
