use Rattle.std.proofs.Common.{arith, ◌≡◌, ◌+◌, ◌-◌, subst, sym, ap}
use Rattle.s38_turn.specs.Lists.{without}
use Rattle.s38_turn.specs.Seats.{SeatView}
use Rattle.s38_workers.specs.Runs.{AreLeft}
use Rattle.s38_workers.proofs.ListLaws.{left_next}
use Rattle.s38_workers.proofs.seats.seated.Goals as goal

pub returns-clause-left : goal.returns-clause-left
returns-clause-left g c =
    let people = c.args.turn.now.processes in
    let first = c.requires.first in
    let old = c.args.seat.now.lists in
    let n : c.args.number - 1 + 1 ≡ c.args.number = omega (arith, first) in
    subst (AreLeft people c.args.number) (sym (ap (λ (s : SeatView g.row.M.Denot). s.lists) c.split.ensures.left))
    (subst (λ k. AreLeft people k (without k old)) n (left_next people (c.args.number - 1) old c.requires.left))
