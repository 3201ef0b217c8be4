use Rattle.std.proofs.Common.{◌≡◌, map}
use Rattle.std.specs.List.{range_with_len}
use Rattle.s38_words.specs.Literal.{spelled_byte}
use Rattle.s38_words.proofs.literals.spelled.Given as goal

abbrev pub invariant-loop-k : goal.invariant-loop-k
invariant-loop-k l = l.bytes ≡ map (spelled_byte l.digits) (range_with_len 0 l.k)
