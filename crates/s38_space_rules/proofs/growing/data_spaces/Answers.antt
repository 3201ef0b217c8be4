use Rattle.std.proofs.Common.{◌∙◌, ap}
use Rattle.s38_rules.specs.families.DataSpaces.{data_spaces_row}
use Rattle.s38_rules.specs.state.Journaling.{journal_for}
use Rattle.s38_space_rules.specs.declared.logging.EntryChange.{EntryChange}
use Rattle.s38_space_rules.specs.Growing.{entered_growth}
use Rattle.s38_space_rules.proofs.growing.data_spaces.Goals as goal

pub returns-in-Insdsen-clause-parts : goal.returns-in-Insdsen-clause-parts
unfolding data_spaces_row
returns-in-Insdsen-clause-parts c =
    let w = c.args.world.now in
    let xs = c.args.room.now.room.extents in
    rw c.in-Insdsen.is (c.entered_growth.ensures.parts ∙ ap (λ (x : EntryChange). entered_growth xs w x.block.0 x.before x.after (journal_for w.held x.space.0)) c.insertion.ensures)

pub returns-in-Updsen-clause-parts : goal.returns-in-Updsen-clause-parts
unfolding data_spaces_row
returns-in-Updsen-clause-parts c =
    let w = c.args.world.now in
    let xs = c.args.room.now.room.extents in
    rw c.in-Updsen.is (c.entered_growth-in-Updsen.ensures.parts ∙ ap (λ (x : EntryChange). entered_growth xs w x.block.0 x.before x.after (journal_for w.held x.space.0)) c.update.ensures)

pub returns-in-Deldsen-clause-parts : goal.returns-in-Deldsen-clause-parts
unfolding data_spaces_row
returns-in-Deldsen-clause-parts c =
    let w = c.args.world.now in
    let xs = c.args.room.now.room.extents in
    rw c.in-Deldsen.is (c.entered_growth-in-Deldsen.ensures.parts ∙ ap (λ (x : EntryChange). entered_growth xs w x.block.0 x.before x.after (journal_for w.held x.space.0)) c.deletion.ensures)
