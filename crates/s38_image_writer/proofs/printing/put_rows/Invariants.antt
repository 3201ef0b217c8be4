use Rattle.std.proofs.Common.{◌*◌, take}
use Rattle.std.specs.List.{flat_map}
use Rattle.s38_image.specs.Headers.{row_form}
use Rattle.s38_image_writer.specs.Writing.{Adds}
use Rattle.s38_image_writer.proofs.printing.put_rows.Given as goal

abbrev pub invariant-loop-held_row : goal.invariant-loop-held_row
invariant-loop-held_row l = Adds l.initial.into l.into (9 * l.held_row-index) (flat_map row_form.print (take l.held_row-index l.held))
