use Rattle.std.proofs.Common.{arith}
use Rattle.std.proofs.lemmas.Grind.{common_steps}
use Rattle.std.proofs.lemmas.List.FromFn.{map-range_with_len_more}
use Rattle.s38_words.specs.Literal.{spelled_byte}
use Rattle.s38_words.proofs.literals.spelled.Goals as goal

pub loop-k-preserved : goal.loop-k-preserved
loop-k-preserved c = grind (arith, common_steps, map-range_with_len_more (spelled_byte c.args.digits.now) 0 c.loop-k.k c.loop-k.k (omega arith))
