use Rattle.s38_commits.proofs.JoinLaws.{ended_again, is_begun, only_memory, still_free}
use Rattle.s38_commits.proofs.units.Units.begin_with.Goals as goal

pub note-requires-clause-begun : goal.note-requires-clause-begun
note-requires-clause-begun c =
    is_begun c.args.self.now c.begin.new.self c.args.block.0 c.args.process c.args.number c.in-Ok.ensures.ok

pub note-requires-clause-free : goal.note-requires-clause-free
note-requires-clause-free c =
    still_free c.args.self.now c.begin.new.self c.args.block.0 c.args.process c.args.number c.args.change.now.space.0 c.args.change.now.at c.in-Ok.ensures.ok c.requires.new c.requires.free

pub returns-in-Err-note-clause-fault : goal.returns-in-Err-note-clause-fault
returns-in-Err-note-clause-fault c =
    only_memory c.args.self.now c.begin.new.self c.args.block.0 c.args.process c.args.number c.args.change.now c.in-Err-note.fault c.in-Ok.ensures.ok c.requires.fits c.in-Err-note.ensures.fault

pub returns-in-Err-note-clause-err : goal.returns-in-Err-note-clause-err
returns-in-Err-note-clause-err c =
    ended_again c.args.self.now c.begin.new.self c.note.new.self c.end.new.self c.args.block.0 c.args.process c.args.number c.requires.new c.in-Ok.ensures.ok c.in-Err-note.ensures.err c.end.ensures.rest
