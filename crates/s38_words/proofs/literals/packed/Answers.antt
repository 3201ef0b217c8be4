use Rattle.std.proofs.Common.{arith}
use Rattle.std.proofs.lemmas.Grind.{common_steps}
use Rattle.std.proofs.lemmas.List.FromFn.{map-range_with_len_more}
use Rattle.s38_words.specs.Literal.{packed_with}
use Rattle.s38_words.proofs.literals.packed.Goals as goal

pub loop-k-preserved : goal.loop-k-preserved
loop-k-preserved c = grind (arith, common_steps, map-range_with_len_more (packed_with c.args.last c.args.number c.args.sign) 0 c.loop-k.k c.loop-k.k (omega arith))
