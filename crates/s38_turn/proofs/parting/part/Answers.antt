use Rattle.std.proofs.Common.{arith, ◌≡◌, subst, true}
use Rattle.s38_turn.specs.Calls.{IsLike}
use Rattle.s38_turn.specs.Items.{items_of}
use Rattle.s38_turn.specs.Lists.{has}
use Rattle.s38_turn.proofs.Parts.{splits}
use Rattle.s38_turn.proofs.parting.part.Goals as goal

pub split_seat-requires : goal.split_seat-requires
split_seat-requires g c =
    let S = g.M.Stepper in
    let z = c.args.board.now in
    let words = c.requires.sized.0 in (
      c.requires.idle.0,
      omega (arith, words),
      splits g.row.M.Denot z.key.machine.value z.key.processes (IsLike S.is_sound S.origin z.key.machine.value) (items_of S.history S.stopped)
          c.args.seat.now.id c.args.seat.now.me.0 g.J.Chosen.process c.requires.idle.1 c.requires.idle.2 (subst (λ p. has p c.args.seat.now.me.0.lists ≡ true) c.requires.chosen c.requires.has),
    )
