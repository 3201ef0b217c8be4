use Rattle.std.proofs.Common.{◌*◌, take}
use Rattle.s38_image_writer.specs.Writing.{Adds}
use Rattle.s38_memory.specs.Tagged.{bytes_in}
use Rattle.s38_image_writer.proofs.bodies.put_cells.Given as goal

abbrev pub invariant-loop-cell : goal.invariant-loop-cell
invariant-loop-cell l = Adds l.initial.into l.into (16 * l.cell-index) (bytes_in (take l.cell-index l.cells))
