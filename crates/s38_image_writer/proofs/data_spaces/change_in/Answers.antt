use Rattle.std.proofs.Common.{◌∙◌, ap, sym}
use Rattle.std.specs.Prelude.{find}
use Rattle.std.specs.Option.{option_copied}
use Rattle.s38_commits.specs.Changes.{is_of_entry}
use Rattle.s38_image_writer.proofs.DataLaws.{first_in_unit, unit_there}
use Rattle.s38_image_writer.proofs.data_spaces.change_in.Goals as goal

pub returns-in-Some : goal.returns-in-Some
returns-in-Some c =
    let there = sym c.get.ensures.unit ∙ ap option_copied c.in-Some.is in
    c.change_of.ensures ∙ ap (find (is_of_entry c.args.space.0 c.args.at)) c.changes.ensures.changes
    ∙ first_in_unit c.args.units.now c.args.space.0 c.args.at c.args.block.0 c.in-Some.unit.now c.get.ensures.rising c.requires there

pub returns-in-None : goal.returns-in-None
returns-in-None c =
    absurd (unit_there c.args.units.now c.args.space.0 c.args.at c.args.block.0 c.get.ensures.rising c.requires (sym c.get.ensures.unit ∙ ap option_copied c.in-None.is))
