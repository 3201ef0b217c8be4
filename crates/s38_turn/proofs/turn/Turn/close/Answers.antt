use Rattle.std.proofs.Common.{◌∙◌, ap}
use Rattle.s38_turn.specs.Lists.{list_of}
use Rattle.s38_turn.specs.Seats.{SeatView}
use Rattle.s38_turn.proofs.HistoryLaws.{stop_noted}
use Rattle.s38_turn.proofs.turn.Turn.close.Goals as goal

pub returns-clause-stopped : goal.returns-clause-stopped
returns-clause-stopped g c =
    let S = g.M.Stepper in
    let m = c.taken_back.result in
    stop_noted (S.history m) (S.stopped m) c.args.seat.lists (λ p. c.taken_back.ensures.own p ∙ ap (λ (v : SeatView g.row.M.Denot). list_of p v.lists) c.seat.view_is)
