use Rattle.std.proofs.Common.{◌∙◌, ap, sym}
use Rattle.std.specs.Option.{option_copied}
use Rattle.s38_indexes.specs.Leaves.{joined}
use Rattle.s38_indexes.proofs.OrderLaws.{equal_none, equal_other, equal_some}
use Rattle.s38_indexes.proofs.lookup.equal.Goals as goal

pub returns-in_err-entry : goal.returns-in_err-entry
returns-in_err-entry c = ap option_copied c.from_residual.ensures ∙ equal_none c.args.key.now (joined c.args.leaves.now) c.requires.rising (ap option_copied (sym c.in_err-entry.was) ∙ c.least_past.ensures)

pub returns-then-equals : goal.returns-then-equals
returns-then-equals c = equal_some c.args.key.now c.in_ok-entry.entry.now (joined c.args.leaves.now) c.requires.rising (ap option_copied (sym c.in_ok-entry.was) ∙ c.least_past.ensures) (sym c.equals.ensures ∙ c.if-equals.true)

pub returns-else-equals : goal.returns-else-equals
returns-else-equals c = equal_other c.args.key.now c.in_ok-entry.entry.now (joined c.args.leaves.now) c.requires.rising (ap option_copied (sym c.in_ok-entry.was) ∙ c.least_past.ensures) (sym c.equals.ensures ∙ c.if-equals.false)
