use Rattle.std.proofs.Common.{◌∙◌, refl, sym}
use Rattle.std.proofs.lemmas.List.{append-nil}
use Rattle.s38_rules.specs.families.DataSpaces.{data_spaces_row}
use Rattle.s38_rules.specs.families.EntryChanges.{change_at, insertion, with_changed, with_inserted}
use Rattle.s38_rules.specs.families.Cursors.{cursor_named}
use Rattle.s38_rules.specs.ask.Operands.{bytes_at}
use Rattle.s38_space_rules.proofs.RowLaws.{changed_row}
use Rattle.s38_space_rules.specs.EntryChanges.{inserted_entry}
use Rattle.std.specs.Prelude.{Some, None}
use Rattle.s38_space_rules.proofs.events.data_spaces.Goals as goal

pub returns-in-Crtds : goal.returns-in-Crtds
unfolding data_spaces_row
returns-in-Crtds c = rw c.in-Crtds.is (c.made.ensures _ _ _ _ refl refl)

pub returns-in-Crtcr : goal.returns-in-Crtcr
unfolding data_spaces_row
returns-in-Crtcr c = rw c.in-Crtcr.is (c.made-in-Crtcr.ensures _ _ _ _ refl refl)

pub returns-in-Insdsen : goal.returns-in-Insdsen
unfolding data_spaces_row
returns-in-Insdsen c =
    let h = c.args.world.now.held in
    let ops = c.args.act.request.now.operands in
    rw c.in-Insdsen.is
    (changed_row c.args.world.now c.args.act.process c.changed.result c.insertion.result (inserted_entry h ops) (insertion h ops) (with_inserted (bytes_at h ops 2)) c.changed.ensures c.insertion.ensures refl refl refl
    ∙ sym (append-nil _))

pub returns-in-Updsen : goal.returns-in-Updsen
unfolding data_spaces_row
returns-in-Updsen c =
    let h = c.args.world.now.held in
    let ops = c.args.act.request.now.operands in
    rw c.in-Updsen.is
    (changed_row c.args.world.now c.args.act.process c.changed-in-Updsen.result c.update.result _ (change_at h ops (Some (bytes_at h ops 2))) (with_changed (cursor_named h ops 1).position (Some (bytes_at h ops 2))) c.changed-in-Updsen.ensures c.update.ensures refl refl refl)

pub returns-in-Deldsen : goal.returns-in-Deldsen
unfolding data_spaces_row
returns-in-Deldsen c =
    let h = c.args.world.now.held in
    let ops = c.args.act.request.now.operands in
    rw c.in-Deldsen.is
    (changed_row c.args.world.now c.args.act.process c.changed-in-Deldsen.result c.deletion.result _ (change_at h ops None) (with_changed (cursor_named h ops 1).position None) c.changed-in-Deldsen.ensures c.deletion.ensures refl refl refl)
