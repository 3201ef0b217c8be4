use Rattle.std.proofs.Common.{◌≡◌, ◌-◌, arith, length, suc}
use Rattle.s38_indexes.proofs.LeafLaws.{first_place, last_place}
use Rattle.s38_indexes.proofs.leaves.place_for.Goals as goal

pub returns-then-first-leaves : goal.returns-then-first-leaves
returns-then-first-leaves c = λ key is. first_place key c.args.leaves.now c.args.first is c.if-first-leaves.true

pub returns-else-first-leaves : goal.returns-else-first-leaves
returns-else-first-leaves c = λ key is.
    let some = c.requires in
    let last : suc (length c.args.leaves.now - 1) ≡ length c.args.leaves.now = omega arith in
    last_place key c.args.leaves.now c.args.first (length c.args.leaves.now - 1) is c.if-first-leaves.false last
