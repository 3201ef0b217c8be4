use Rattle.s38_rules.specs.step.Legal.{Run}
use Rattle.s38_run.proofs.StillLaws.{kept_still, later_still, moved_still, same_beginning, step_or_none, still_yet}
use Rattle.s38_run.proofs.run_machine.MachineRunMachine.ask.Goals as goal

pub returns-clause-sound : goal.returns-clause-sound
returns-clause-sound c =
    let m = c.args.self.now in
    let n = c.ask.new.self in
    still_yet m n (step_or_none c.ask.result m n c.args.process c.args.event c.ask.ensures.ok c.ask.ensures.err) c.requires.sound c.ask.ensures.sound

pub returns-clause-origin : goal.returns-clause-origin
returns-clause-origin c =
    let m = c.args.self.now in
    let n = c.ask.new.self in
    same_beginning m n (step_or_none c.ask.result m n c.args.process c.args.event c.ask.ensures.ok c.ask.ensures.err)

pub returns-clause-moved : goal.returns-clause-moved
returns-clause-moved c = moved_still c.ask.result c.args.self.now c.ask.new.self c.args.process c.args.event c.ask.ensures.ok

pub returns-clause-later : goal.returns-clause-later
returns-clause-later c = later_still c.ask.result c.args.self.now c.ask.new.self c.args.process c.args.event c.ask.ensures.ok

pub returns-clause-begun : goal.returns-clause-begun
returns-clause-begun c = kept_still c.ask.result c.args.self.now c.ask.new.self (λ (r : Run). r.origin) c.ask.ensures.err

pub returns-clause-history : goal.returns-clause-history
returns-clause-history c = kept_still c.ask.result c.args.self.now c.ask.new.self (λ (r : Run). r.history) c.ask.ensures.err

pub returns-clause-marks : goal.returns-clause-marks
returns-clause-marks c = kept_still c.ask.result c.args.self.now c.ask.new.self (λ (r : Run). r.marks) c.ask.ensures.err

pub returns-clause-stopped : goal.returns-clause-stopped
returns-clause-stopped c stop = absurd (c.ask.ensures.going stop)
