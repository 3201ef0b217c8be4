use Rattle.std.proofs.Common.{◌≡◌, ◌<◌, ap, ◌∙◌}
use Rattle.std.specs.Prelude.{None, true}
use Rattle.s38_commits.specs.Changes.{journal_bytes}
use Rattle.s38_cursors.specs.Insertion.{given_back, logged_by, with_room}
use Rattle.s38_dataspaces.specs.Refusals.{insert_refusal}
use Rattle.s38_dataspaces.specs.Values.{have_values}
use Rattle.s38_journals.specs.Journals.{JournalList}
use Rattle.s38_rules.specs.families.Changing.{units_after}
use Rattle.s38_rules.specs.families.EntryChanges.{with_inserted}
use Rattle.s38_rules.specs.state.Held.{Held}
use Rattle.s38_rules.specs.state.PartsAt.{on_journal, on_table}
use Rattle.s38_cursors.proofs.InsertLaws.{full_with_room, inserted_after, logged_with_room, number_with_room, ready, room_back, roomy_fits, roomy_room, roomy_values, there_with_room}
use Rattle.s38_cursors.proofs.insertion.insert_both.Goals as goal

pub log_in-requires-clause-there : goal.log_in-requires-clause-there
log_in-requires-clause-there c = there_with_room c.args.objects.now c.make_room_in.new.objects c.args.change.now.space.0 c.args.journal.0 c.in-Ok.ensures.ok c.requires.there

pub log_in-requires-clause-room : goal.log_in-requires-clause-room
log_in-requires-clause-room c =
    full_with_room c.args.objects.now c.make_room_in.new.objects c.args.change.now.space.0 c.args.units.now c.args.journal.0 c.args.block.0 (journal_bytes c.args.change.now)
    c.in-Ok.ensures.ok c.requires.room

pub insert_in-requires-clause-fits : goal.insert_in-requires-clause-fits
insert_in-requires-clause-fits c =
    let g = logged_by c.make_room_in.new.objects c.args.units.now c.args.process c.args.block.0 c.args.journal.0 c.args.change.now in
    let journaled : c.log_in.new.objects ≡ on_journal (with_room c.args.objects.now c.args.change.now.space.0) c.args.journal.0 g =
    c.in-Ok-log_in.ensures.objects ∙ ap (λ (k : Held). on_journal k c.args.journal.0 g) c.in-Ok.ensures.ok in
    ready (λ body. insert_refusal body.space c.args.entry.now ≡ None) c.args.objects.now c.log_in.new.objects c.args.change.now.space.0 c.args.journal.0 g journaled
    (λ d there. roomy_fits c.args.entry.now c.args.objects.now c.args.change.now.space.0 c.requires.fits d there)

pub insert_in-requires-clause-room : goal.insert_in-requires-clause-room
insert_in-requires-clause-room c =
    let g = logged_by c.make_room_in.new.objects c.args.units.now c.args.process c.args.block.0 c.args.journal.0 c.args.change.now in
    let journaled : c.log_in.new.objects ≡ on_journal (with_room c.args.objects.now c.args.change.now.space.0) c.args.journal.0 g =
    c.in-Ok-log_in.ensures.objects ∙ ap (λ (k : Held). on_journal k c.args.journal.0 g) c.in-Ok.ensures.ok in
    ready (λ body. 0 < body.space.spare) c.args.objects.now c.log_in.new.objects c.args.change.now.space.0 c.args.journal.0 g journaled (λ d there. roomy_room d)

pub insert_in-requires-clause-values : goal.insert_in-requires-clause-values
insert_in-requires-clause-values c =
    let g = logged_by c.make_room_in.new.objects c.args.units.now c.args.process c.args.block.0 c.args.journal.0 c.args.change.now in
    let journaled : c.log_in.new.objects ≡ on_journal (with_room c.args.objects.now c.args.change.now.space.0) c.args.journal.0 g =
    c.in-Ok-log_in.ensures.objects ∙ ap (λ (k : Held). on_journal k c.args.journal.0 g) c.in-Ok.ensures.ok in
    ready (λ body. have_values body.space.fields c.args.entry.now ≡ true) c.args.objects.now c.log_in.new.objects c.args.change.now.space.0 c.args.journal.0 g journaled
    (λ d there. roomy_values c.args.entry.now c.args.objects.now c.args.change.now.space.0 c.requires.values d there)

pub returns-in-Ok-log_in-clause-objects : goal.returns-in-Ok-log_in-clause-objects
returns-in-Ok-log_in-clause-objects c =
    let h = c.args.objects.now in
    let space = c.args.change.now.space.0 in
    let journal = c.args.journal.0 in
    let g = logged_by c.make_room_in.new.objects c.args.units.now c.args.process c.args.block.0 journal c.args.change.now in
    let journaled : c.log_in.new.objects ≡ on_journal (with_room h space) journal g = c.in-Ok-log_in.ensures.objects ∙ ap (λ (k : Held). on_journal k journal g) c.in-Ok.ensures.ok in
    c.insert_in.ensures
    ∙ ap (λ (k : Held). on_table k space (with_inserted c.args.entry.now)) journaled
    ∙ inserted_after c.args.entry.now g h space journal
    ∙ ap (λ (f : JournalList → JournalList). on_table (on_journal h journal f) space (with_inserted c.args.entry.now))
    (logged_with_room h c.make_room_in.new.objects space c.args.units.now c.args.process c.args.block.0 journal c.args.change.now c.in-Ok.ensures.ok)

pub returns-in-Ok-log_in-clause-units : goal.returns-in-Ok-log_in-clause-units
returns-in-Ok-log_in-clause-units c =
    c.in-Ok-log_in.ensures.units
    ∙ ap (λ number. units_after c.args.units.now c.args.process c.args.block.0 number c.args.change.now)
    (number_with_room c.args.objects.now c.make_room_in.new.objects c.args.change.now.space.0 c.args.units.now c.args.journal.0 c.args.block.0 c.in-Ok.ensures.ok)

pub returns-in-Err-log_in-clause-objects_left : goal.returns-in-Err-log_in-clause-objects_left
returns-in-Err-log_in-clause-objects_left c =
    let h = c.args.objects.now in
    let space = c.args.change.now.space.0 in
    c.give_back.ensures
    ∙ ap (λ (k : Held). given_back k space c.in-Ok.taken) (c.in-Err-log_in.ensures.objects_left ∙ c.in-Ok.ensures.ok)
    ∙ ap (λ b. given_back (with_room h space) space b) c.in-Ok.ensures.taken
    ∙ room_back h space
