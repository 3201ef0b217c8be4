use Rattle.std.proofs.Common.{◌*◌, take}
use Rattle.std.specs.List.{flat_map}
use Rattle.s38_image.specs.Scalars.{attr}
use Rattle.s38_image_writer.specs.Writing.{Adds}
use Rattle.s38_image_writer.proofs.data_spaces.put_fields.Given as goal

abbrev pub invariant-loop-field : goal.invariant-loop-field
invariant-loop-field l = Adds l.initial.into l.into (3 * l.field-index) (flat_map attr.print (take l.field-index l.fields))
