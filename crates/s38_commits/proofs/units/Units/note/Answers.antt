use Rattle.std.proofs.Common.{◌∙◌}
use Rattle.s38_commits.proofs.MapLaws.{back_again, refusal_known}
use Rattle.s38_commits.proofs.PlaceLaws.{entered_same, noted_entered}
use Rattle.s38_commits.proofs.units.Units.note.Goals as goal

pub note-requires : goal.note-requires
note-requires c =
    refusal_known c.self.inside.units.entries c.args.self.now c.args.block.0 c.args.change.now c.in-Ok.noted c.self.view_is c.in-Ok.ensures c.in_ok-can_note.ensures.ok

pub invariant_of-self-in-Ok-insert : goal.invariant_of-self-in-Ok-insert
invariant_of-self-in-Ok-insert c =
    let m = c.self.inside in
    noted_entered m.units.entries c.args.self.now c.note.new.units.entries m.places c.insert.new.self c.args.change.now c.in-Ok.noted c.args.block.0 c.place_of.result c.self.invariant c.self.view_is
    c.in-Ok-note.ensures.ok c.in-Ok.ensures c.requires.begun c.requires.free c.place_of.ensures c.in-Ok-insert.ensures.updates.0

pub invariant_of-self-in-Err-insert : goal.invariant_of-self-in-Err-insert
invariant_of-self-in-Err-insert c =
    let m = c.self.inside in
    entered_same m.units.entries c.take_back.new.units.entries m.places c.insert.new.self c.self.invariant
    (back_again m.units.entries c.note.new.units.entries c.take_back.new.units.entries c.args.block.0 c.in-Ok.noted c.in-Ok-note.ensures.ok c.take_back.ensures)
    c.in-Err-insert.ensures.err

pub returns-in-Err-insert-clause-err : goal.returns-in-Err-insert-clause-err
returns-in-Err-insert-clause-err c =
    back_again c.self.inside.units.entries c.note.new.units.entries c.take_back.new.units.entries c.args.block.0 c.in-Ok.noted c.in-Ok-note.ensures.ok c.take_back.ensures
    ∙ c.self.view_is
