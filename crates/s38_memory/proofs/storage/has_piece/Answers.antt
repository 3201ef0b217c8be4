use Rattle.std.proofs.Common.{◌≡◌, ◌+◌, ◌*◌, ◌≤◌, length, arith}
use Rattle.std.proofs.lemmas.Bool.Decides.{nat_tests}
use Rattle.s38_memory.proofs.Cells.{length-piece}
use Rattle.s38_memory.proofs.storage.has_piece.Goals as goal

pub returns-then-len-size-clause-long : goal.returns-then-len-size-clause-long
returns-then-len-size-clause-long c h =
    let first = c.if-len-size.true in
    length-piece c.args.cells.now c.args.at c.args.len c.requires.whole (grind (arith, nat_tests, h, first))
