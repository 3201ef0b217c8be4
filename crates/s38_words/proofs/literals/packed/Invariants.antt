use Rattle.std.proofs.Common.{◌≡◌, map}
use Rattle.std.specs.List.{range_with_len}
use Rattle.s38_words.specs.Literal.{packed_with}
use Rattle.s38_words.proofs.literals.packed.Given as goal

abbrev pub invariant-loop-k : goal.invariant-loop-k
invariant-loop-k l = l.bytes ≡ map (packed_with l.last l.number l.sign) (range_with_len 0 l.k)
