use Rattle.std.proofs.Common.{◌∙◌, ap, sym}
use Rattle.std.specs.Option.{option_copied}
use Rattle.s38_image_writer.proofs.DataLaws.{first_len}
use Rattle.s38_image_writer.proofs.data_spaces.settled_entry.Goals as goal

pub returns-in-Some-clause-len : goal.returns-in-Some-clause-len
returns-in-Some-clause-len c =
    λ x e. first_len c.args.units.now c.args.space.0 c.args.at c.args.held.now c.in-Some.change.now x.now c.requires (sym c.first_change.ensures ∙ ap option_copied c.in-Some.is) (sym c.before-in-Some.ensures ∙ ap option_copied e)
