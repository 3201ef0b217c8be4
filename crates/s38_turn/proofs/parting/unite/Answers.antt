use Rattle.std.proofs.Common.{arith}
use Rattle.s38_turn.specs.Calls.{IsLike}
use Rattle.s38_turn.specs.Items.{items_of}
use Rattle.s38_turn.proofs.Parts.{joins}
use Rattle.s38_turn.proofs.parting.unite.Goals as goal

pub join_seat-requires : goal.join_seat-requires
join_seat-requires g c =
    let S = g.M.Stepper in
    let z = c.args.board.now in
    let words = c.requires.sized.0 in
    let a = c.requires.idle in
    let b = c.requires.other in (
      a.0,
      b.0,
      b.3,
      omega (arith, words),
      joins g.row.M.Denot z.key.machine.value z.key.processes (IsLike S.is_sound S.origin z.key.machine.value) (items_of S.history S.stopped)
          c.args.seat.now.id c.args.seat.now.me.0 c.args.other.id c.args.other.me.0 a.1 a.2 b.2,
    )
