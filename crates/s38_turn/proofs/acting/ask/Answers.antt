use Rattle.std.proofs.Common.{Ok, Err, refl, sym, subst}
use Rattle.s38_code.specs.Asking.{reply_by}
use Rattle.s38_turn.specs.Calls.{IsTold}
use Rattle.s38_turn.proofs.Asking.{asked, heard, ToldBy}
use Rattle.s38_turn.proofs.acting.ask.Goals as goal

pub returns-in-Err : goal.returns-in-Err
returns-in-Err g c =
    let S = g.M.Stepper in
    let e = c.ask.ensures in
    let m = c.args.machine.now in
    let n = c.ask.new.self in
    let told = IsTold g.L.Listener.hears c.args.listener.now (Err c.in-Err.fault) c.args.listener.now in
    asked S.is_sound S.origin S.history S.stopped S.steps c.args.process c.args.event told m n c.ask.result
    (subst (ToldBy S.is_sound S.origin S.history S.stopped S.steps c.args.process c.args.event told m n) (sym c.in-Err.is) (refl, refl))
    e.origin e.sound e.replied e.steps e.answered e.err e.stopped e.going e.refused e.over

pub returns-in-Ok : goal.returns-in-Ok
returns-in-Ok g c =
    let S = g.M.Stepper in
    let e = c.ask.ensures in
    let m = c.args.machine.now in
    let n = c.ask.new.self in
    let told = IsTold g.L.Listener.hears c.args.listener.now (Ok tt) c.tell.new.listener in
    asked S.is_sound S.origin S.history S.stopped S.steps c.args.process c.args.event told m n c.ask.result
    (subst (ToldBy S.is_sound S.origin S.history S.stopped S.steps c.args.process c.args.event told m n) (sym c.in-Ok.is) (heard g.L.Listener.hears c.args.listener.now c.tell.new.listener (reply_by c.in-Ok.asked (S.history n)) c.tell.ensures))
    e.origin e.sound e.replied e.steps e.answered e.err e.stopped e.going e.refused e.over
