use Rattle.std.proofs.Common.{rules, arith}
use Rattle.std.proofs.lemmas.Grind.{common_steps}
use Rattle.std.proofs.lemmas.List.FromFn.{fill_by_all}
use Rattle.s38_base.specs.Scalar.{digit_at}
use Rattle.s38_decimal.proofs.DigitAt.{rest_more}
use Rattle.s38_decimal.proofs.write.spread.Goals as goal

pub loop-k-preserved : goal.loop-k-preserved
loop-k-preserved c = record {
  rest = rest_more c.args.number c.loop-k.rest c.loop-k.k c.loop-k.invariant.rest;
  written = λ k h. grind (arith, common_steps, c.loop-k.invariant.written k);
}

pub returns : goal.returns
returns c = fill_by_all (digit_at 10 c.args.number) c.loop-k.into _ 0 (search rules) (search rules)
