use Rattle.std.proofs.Common.{◌∙◌, arith, sym}
use Rattle.s38_restart.proofs.RedoLaws.{redone_all}
use Rattle.s38_restart.proofs.journaled.redo.Goals as goal

pub returns : goal.returns
returns c =
    let es = c.args.journal.now.entries in
    sym (redone_all c.args.number.0 c.args.image c.loop-at.at es c.loop-at.space (omega (arith, c.last-at-end.ensures.last, c.loop-at-test.false))) ∙ c.loop-at.invariant
