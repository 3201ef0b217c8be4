use Rattle.std.proofs.Common.{◌-◌, sym, ◌∙◌, arith}
use Rattle.s38_image.proofs.RowLaws.{short_rises}
use Rattle.s38_image.proofs.rows.are_rising.Goals as goal

pub returns : goal.returns
returns c = sym (short_rises c.args.rows.now (c.loop-at.at - 1) (omega (arith, c.loop-at-test.false, c.loop-at.auto.at))) ∙ c.loop-at.invariant
