use Rattle.std.proofs.Common.{refl, sym, ap, ◌∙◌, subst}
use Rattle.s38_process.specs.Asked.{asked}
use Rattle.s38_run.proofs.Asking.{none_asked}
use Rattle.s38_turn.specs.Items.{items_of}
use Rattle.s38_turn.specs.Lists.{list_of}
use Rattle.s38_workers.specs.Asking.{WasStopped, Went}
use Rattle.s38_workers.proofs.AskLaws.{over, went}
use Rattle.s38_workers.proofs.going.ask.Goals as goal

pub returns-in-Ok-Ended-clause-went : goal.returns-in-Ok-Ended-clause-went
returns-in-Ok-Ended-clause-went g c =
    let S = g.M.Stepper in
    let xs = list_of c.args.number c.args.seat.now.lists in
    over (WasStopped S.is_sound S.origin S.steps c.args.turn.now.machine) c.args.hearer.now.process c.next.new.self xs xs
    (none_asked c.args.hearer.now.process (sym c.in-Ok-Ended.ensures.asked ∙ ap asked c.in-Ok-Ended.field-0-is)) refl

pub returns-in-Ok-Step-clause-went : goal.returns-in-Ok-Step-clause-went
returns-in-Ok-Step-clause-went g c =
    let S = g.M.Stepper in
    let Halted = WasStopped S.is_sound S.origin S.steps c.args.turn.now.machine in
    let old = c.args.seat.now in
    let new = c.call-call.new.seat in
    let d = c.args.hearer.now.process in
    subst (λ a. Went Halted d (list_of c.args.number old.lists) a c.call-call.new.listener.process (list_of c.args.number new.lists)) (sym c.told.ensures)
    (went S.is_sound S.origin (items_of S.history S.stopped) S.steps c.args.turn.now.machine c.args.number c.in-Ok-Step.event c.call-call.result d (record c.args.hearer.now { process = c.next.new.self }) c.call-call.new.listener old new
    c.call-call.ensures.called c.in-Ok-Step.ensures.same (sym c.in-Ok-Step.ensures.asked ∙ ap asked c.in-Ok-Step.field-0-is) c.requires.has)
