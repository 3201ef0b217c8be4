use Rattle.std.proofs.Common.{arith}
use Rattle.s38_turn.specs.Calls.{IsLike}
use Rattle.s38_turn.specs.Items.{items_of}
use Rattle.s38_turn.proofs.Serves.{serves}
use Rattle.s38_turn.proofs.tickets.serve.Goals as goal

pub store-requires : goal.store-requires
store-requires g c =
    let S = g.M.Stepper in
    let z = c.args.board.now in
    let words = c.requires.sized.0 in
    let a = c.requires.acts in (
      a.1.0,
      omega (arith, words),
      serves g.row.M.Denot z.key.machine.value z.key.processes (IsLike S.is_sound S.origin z.key.machine.value) (items_of S.history S.stopped)
          z.table_id.slots c.args.seat.now.id c.args.seat.now.me c.args.ticket c.args.process a.0 a.1.1 a.1.2 a.1.3 c.requires.has a.2 a.3,
    )
