use Rattle.std.proofs.Common.{arith}
use Rattle.s38_turn.specs.Calls.{IsLike}
use Rattle.s38_turn.specs.Items.{items_of}
use Rattle.s38_turn.proofs.Draws.{draws}
use Rattle.s38_turn.proofs.tickets.try_draw.Goals as goal

pub compare_exchange-requires : goal.compare_exchange-requires
compare_exchange-requires g c =
    let S = g.M.Stepper in
    let z = c.args.board.now in
    let words = c.requires.sized.0 in (
      c.requires.idle.0,
      omega (arith, words),
      draws g.row.M.Denot z.key.machine.value z.key.processes (IsLike S.is_sound S.origin z.key.machine.value) (items_of S.history S.stopped)
          z.table_id.slots c.args.seat.now.id c.args.seat.now.me c.args.next c.args.process c.requires.idle.2 c.requires.has,
    )
