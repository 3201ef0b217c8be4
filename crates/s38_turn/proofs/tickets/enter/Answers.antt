use Rattle.std.proofs.Common.{arith, ap, ◌∙◌}
use Rattle.s38_turn.specs.Calls.{IsLike}
use Rattle.s38_turn.specs.Items.{items_of}
use Rattle.s38_turn.proofs.Enters.{looks}
use Rattle.s38_turn.proofs.tickets.enter.Goals as goal

pub load-served-requires : goal.load-served-requires
load-served-requires g c =
    let S = g.M.Stepper in
    let z = c.args.board.now in
    let words = c.requires.sized.0 in
    let w = c.requires.waits in
    let me = c.loop.invariant.2 in (
      c.loop.invariant.0 ∙ w.0,
      omega (arith, words),
      looks g.row.M.Denot z.key.machine.value z.key.processes (IsLike S.is_sound S.origin) (items_of S.history S.stopped)
          z.table_id.slots c.loop.seat.id c.loop.seat.me c.args.ticket (ap (λ x. x.0.first) me ∙ w.1) (ap (λ x. x.0.place) me ∙ w.2) (ap (λ x. x.1) me ∙ w.3),
    )
