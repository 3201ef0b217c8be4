use Rattle.s38_local.proofs.PlaceLaws.{absent_end, absent_values}
use Rattle.s38_local.proofs.overlap.string_at.Goals as goal

pub returns-then-values-at-clause-end : goal.returns-then-values-at-clause-end
returns-then-values-at-clause-end c = absent_end c.args.homes.now c.args.values.now c.args.at c.args.op c.args.args.now c.requires.place c.if-values-at.true

pub returns-then-values-at-clause-values : goal.returns-then-values-at-clause-values
returns-then-values-at-clause-values c = absent_values c.args.homes.now c.args.values.now c.args.at c.args.op c.args.args.now c.requires.place c.if-values-at.true
