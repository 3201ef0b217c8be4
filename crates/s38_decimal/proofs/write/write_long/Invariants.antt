use Rattle.std.proofs.Common.{◌≡◌, ℕ, ◌<◌, get_or}
use Rattle.s38_decimal.specs.Images.{packed_with}
use Rattle.s38_decimal.proofs.write.write_long.Given as goal

abbrev pub invariant-loop-k : goal.invariant-loop-k
invariant-loop-k l = (k : ℕ) → k < l.k → get_or l.into k 0 ≡ packed_with l.last l.number l.sign k
