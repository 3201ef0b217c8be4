use Rattle.std.proofs.Common.{◌-◌, ◌*◌, ap, arith}
use Rattle.s38_decimal.proofs.Fractions.{bottom_pos, cut_or_rounded-less, cut_or_rounded-more}
use Rattle.s38_decimal.proofs.results.whole.Goals as goal

pub cut_or_rounded-requires-else-down-up : goal.cut_or_rounded-requires-else-down-up
cut_or_rounded-requires-else-down-up c = omega (arith, ap (λ p. c.args.m * p) c.ten-else-down-up.ensures.value, bottom_pos c.args.m (c.args.down - c.args.up) c.requires.bottom)

pub returns-then-down-up-clause-value : goal.returns-then-down-up-clause-value
returns-then-down-up-clause-value c = let e = cut_or_rounded-more c.args.round c.args.n c.args.m c.args.up c.args.down c.if-down-up.true in cc

pub returns-else-down-up-clause-value : goal.returns-else-down-up-clause-value
returns-else-down-up-clause-value c = let e = cut_or_rounded-less c.args.round c.args.n c.args.m c.args.up c.args.down (omega arith) in cc
