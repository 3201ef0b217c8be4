use Rattle.std.proofs.Common.{arith, false, get_or}
use Rattle.s38_restart.specs.Redo.{is_committed}
use Rattle.s38_restart.proofs.RedoLaws.{marked_all}
use Rattle.s38_restart.proofs.committed.committed_units.Goals as goal

pub returns : goal.returns
returns c =
    let es = c.args.journal.now.entries in
    λ unit. marked_all c.args.image unit c.loop-at.at es (get_or c.loop-at.marks.items unit false) (is_committed c.args.image unit 1 es) (omega (arith, c.last-last.ensures.last, c.loop-at-test.false)) (c.loop-at.invariant.marks unit)
