use Rattle.std.proofs.Common.{◌∙◌, ap, sym}
use Rattle.std.specs.Option.{option_map}
use Rattle.s38_base.specs.declared.id.ObjNum.{ObjNum}
use Rattle.s38_image_writer.proofs.DataLaws.{no_first}
use Rattle.s38_image_writer.proofs.data_spaces.first_change.Goals as goal

pub change_in-requires : goal.change_in-requires
change_in-requires c = sym c.block_of.ensures ∙ ap (option_map (λ (block : ObjNum). block.0)) c.in-Some.is

pub returns-in-None : goal.returns-in-None
returns-in-None c = sym (no_first c.args.units.now c.args.space.0 c.args.at (sym c.block_of.ensures ∙ ap (option_map (λ (block : ObjNum). block.0)) c.in-None.is))
