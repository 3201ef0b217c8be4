use Rattle.std.proofs.Common.{inl, sym, ◌∙◌, ap}
use Rattle.s38_process.specs.Asked.{asked}
use Rattle.s38_code.specs.declared.step.StepFault.TheVariants.{Stopped}
use Rattle.s38_run.proofs.EndLaws.{handed_on}
use Rattle.s38_run.proofs.Turning.{broke_after, broke_before, is_there, not_answered, was_stopped, was_turned}
use Rattle.s38_run.proofs.turn.turn.Goals as goal

pub absorb_asked-requires-clause-replied : goal.absorb_asked-requires-clause-replied
absorb_asked-requires-clause-replied g c = is_there _ _ c.in-Ok.ensures.reply

pub returns-in-Err-clause-broke : goal.returns-in-Err-clause-broke
returns-in-Err-clause-broke g c = broke_before c.args.number (g.M.RunMachine.run c.args.machine.now) c.args.process.now

pub returns-in-Err-ask-clause-broke : goal.returns-in-Err-ask-clause-broke
returns-in-Err-ask-clause-broke g c =
    let S = g.M.RunMachine in
    inl (not_answered (S.run c.args.machine.now) (S.run c.ask.new.self) c.in-Err-ask.ensures.begun c.in-Err-ask.ensures.history)

pub returns-in-Err-ask-clause-stopped : goal.returns-in-Err-ask-clause-stopped
returns-in-Err-ask-clause-stopped g c stop =
    let S = g.M.RunMachine in
    was_stopped c.args.number (S.run c.args.machine.now) (S.run c.ask.new.self) c.args.process.now c.in-Ok-Step.event (S.stopped c.ask.new.self) (sym c.in-Ok-Step.ensures.asked ∙ ap asked c.in-Ok-Step.field-0-is)
    (c.ask.ensures.stopped (handed_on c.ask.result c.in-Err-ask.fault Stopped c.in-Err-ask.is stop)) (not_answered (S.run c.args.machine.now) (S.run c.ask.new.self) c.in-Err-ask.ensures.begun c.in-Err-ask.ensures.history)

pub returns-in-Err-absorb_asked-clause-broke : goal.returns-in-Err-absorb_asked-clause-broke
returns-in-Err-absorb_asked-clause-broke g c =
    let S = g.M.RunMachine in
    broke_after c.args.number (S.run c.args.machine.now) (S.run c.ask.new.self) c.args.process.now c.in-Ok-Step.event (sym c.in-Ok-Step.ensures.asked ∙ ap asked c.in-Ok-Step.field-0-is) c.in-Ok.ensures.moved c.in-Ok.ensures.later

pub returns-in-Ok-absorb_asked-clause-turned : goal.returns-in-Ok-absorb_asked-clause-turned
returns-in-Ok-absorb_asked-clause-turned g c =
    let S = g.M.RunMachine in
    was_turned c.args.number (S.run c.args.machine.now) (S.run c.ask.new.self) c.args.process.now c.next.new.self c.absorb_asked.new.process c.in-Ok-Step.event c.is_finish-ends.result c.in-Ok.asked c.in-Ok-absorb_asked.outcome
    (sym c.in-Ok-Step.ensures.asked ∙ ap asked c.in-Ok-Step.field-0-is) c.is_finish-ends.ensures c.in-Ok-Step.ensures.same c.in-Ok.ensures.moved c.in-Ok.ensures.later c.in-Ok.ensures.reply c.in-Ok-absorb_asked.ensures
