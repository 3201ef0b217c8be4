use Rattle.std.proofs.Common.{◌∙◌, sym, ap, subst}
use Rattle.s38_turn.specs.Calls.{Called, IsTold}
use Rattle.s38_turn.specs.Items.{entries_in, items_of}
use Rattle.s38_turn.specs.Lists.{has, list_of}
use Rattle.s38_turn.specs.Seats.{SeatView, TurnView, seat_view}
use Rattle.s38_turn.proofs.ListLaws.{long_has}
use Rattle.s38_turn.proofs.Calling.{called, fine, hand, may, ready}
use Rattle.s38_turn.proofs.turn.Turn.call.Goals as goal

pub act-result-requires-clause-machine : goal.act-result-requires-clause-machine
act-result-requires-clause-machine g c =
    let S = g.M.Stepper in
    let M = g.row.M.Denot in
    let s0 = c.seat.inside.inner in
    let s1 = c.draw-ticket.new.seat in
    let s2 = c.enter.new.seat in
    let key = c.self.inside.table.shared.key.machine.value in
    let p = c.args.process in
    let d = c.draw-ticket.ensures in
    let t = c.enter.ensures.took in
    let first_is = ap (λ (v : TurnView M). v.machine) c.self.view_is in
    let lists_are = ap (λ (v : SeatView M). v.lists) c.seat.view_is in (
      t.machine,
      hand M S.Origin S.is_sound S.origin S.history S.stopped S.steps c.self.inside.table.shared.table_id key p c.draw-ticket.result c.args.event s0 s1 s2 d.knows d.ticket.1 t,
      fine M S.Origin S.is_sound S.origin S.history S.stopped S.steps c.self.inside.table.shared.table_id key p c.draw-ticket.result c.args.event s0 s1 s2 d.knows d.ticket.1 t,
      may M S.Origin S.is_sound S.origin S.history S.stopped S.steps c.self.inside.table.shared.table_id key p c.draw-ticket.result c.args.event s0 s1 s2 d.knows d.ticket.1 t S.may_ask
          (ap (has p) lists_are ∙ c.requires.has)
          (subst (λ m. S.may_ask (S.origin m) p c.args.event (entries_in (list_of p s0.me.0.lists))) (sym first_is)
          (subst (λ ls. S.may_ask (S.origin c.args.self.now.machine) p c.args.event (entries_in (list_of p ls))) (sym lists_are) c.requires.may)),
    )

pub serve-requires-clause-acts : goal.serve-requires-clause-acts
serve-requires-clause-acts g c =
    let S = g.M.Stepper in
    let M = g.row.M.Denot in
    let d = c.draw-ticket.ensures in
    let t = c.enter.ensures.took in
    let r = ready M S.Origin S.is_sound S.origin S.history S.stopped S.steps c.self.inside.table.shared.table_id c.self.inside.table.shared.key.machine.value c.args.process c.draw-ticket.result c.args.event
    c.seat.inside.inner c.draw-ticket.new.seat c.enter.new.seat d.knows d.ticket.1 t
    (IsTold g.L.Listener.hears c.args.listener.now c.act-result.result c.act-result.new.listener) c.act-result.new.seat c.act-result.ensures
    (c.enter.ensures.same.0 ∙ d.ticket.0) in
    (c.act-result.ensures.after, r.0, r.1, r.2)

pub returns-clause-called : goal.returns-clause-called
returns-clause-called g c =
    let S = g.M.Stepper in
    let M = g.row.M.Denot in
    let d = c.draw-ticket.ensures in
    let t = c.enter.ensures.took in
    let told = IsTold g.L.Listener.hears c.args.listener.now c.act-result.result c.act-result.new.listener in
    let now = seat_view c.serve.new.seat in
    subst (λ (v : TurnView M). Called S.is_sound S.origin (items_of S.history S.stopped) S.steps v.machine c.args.process c.args.event told c.args.seat.now now) c.self.view_is
    (subst (λ (v : SeatView M). Called S.is_sound S.origin (items_of S.history S.stopped) S.steps c.self.inside.table.shared.key.machine.value c.args.process c.args.event told v now) c.seat.view_is
    (called M S.Origin S.is_sound S.origin S.history S.stopped S.steps c.self.inside.table.shared.table_id c.self.inside.table.shared.key.machine.value c.args.process c.draw-ticket.result c.args.event
    c.seat.inside.inner c.draw-ticket.new.seat c.enter.new.seat d.knows d.ticket.1 t
    told c.act-result.new.seat c.act-result.ensures c.serve.new.seat c.serve.ensures.served))

pub returns-clause-processes : goal.returns-clause-processes
returns-clause-processes g c p =
    let e = returns-clause-called g c in
    ap (has p) e.lists ∙ long_has c.args.process p e.step.added c.args.seat.now.lists
