use Rattle.s38_turn.specs.Lists.{list_of}
use Rattle.s38_workers.specs.Asking.{WasStopped}
use Rattle.s38_workers.proofs.GoLaws.{moved}
use Rattle.s38_workers.proofs.going.move_on.Goals as goal

pub returns-clause-moved : goal.returns-clause-moved
returns-clause-moved g c =
    let S = g.M.Stepper in
    moved (WasStopped S.is_sound S.origin S.steps c.args.turn.now.machine) c.in-Running.hearer c.ask-told.new.hearer c.ask-told.result (list_of c.args.number c.args.seat.now.lists) (list_of c.args.number c.ask-told.new.seat.lists)
    c.args.progress.now c.settle.new.progress c.in-Running.is c.settle.ensures c.ask-told.ensures.went
