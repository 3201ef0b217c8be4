use Rattle.std.proofs.Common.{◌-◌, length, ⊎_elim, rules, arith}
use Rattle.std.proofs.lemmas.Bool.{cases_eq}
use Rattle.std.proofs.lemmas.Grind.{common_steps}
use Rattle.std.proofs.lemmas.List.FromFn.{fill_by_all}
use Rattle.s38_decimal.specs.Images.{packed_with}
use Rattle.s38_decimal.proofs.DigitAt.{pair_byte, rest_more_two}
use Rattle.s38_decimal.proofs.write.write_pairs.Goals as goal

pub loop-k-preserved : goal.loop-k-preserved
loop-k-preserved c =
    let last = length c.args.into.now - 1 in
    record {
      rest = rest_more_two c.args.number c.loop-k.rest c.loop-k.k c.loop-k.invariant.rest;
      written = λ j above below. ⊎_elim
          (λ here. grind (arith, common_steps, c.pair_of.ensures, pair_byte c.args.number c.loop-k.rest c.loop-k.k last c.args.sign j c.loop-k.invariant.rest (omega arith)))
          (λ apart. grind (arith, common_steps, c.loop-k.invariant.written j (omega arith) below))
          (cases_eq j (last - 1 - c.loop-k.k));
    }

pub returns : goal.returns
returns c = fill_by_all (packed_with (length c.args.into.now - 1) c.args.number c.args.sign) c.loop-k.into _ 0 (search rules) (λ k below. c.loop-k.invariant.written k (omega arith) (omega arith))
