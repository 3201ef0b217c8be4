use Rattle.std.proofs.Common.{◌≡◌, ℕ, ◌<◌, get_or}
use Rattle.s38_strings.specs.Hex.{spelled_byte}
use Rattle.s38_strings.proofs.hex.read.Given as goal

abbrev pub invariant-loop-k : goal.invariant-loop-k
invariant-loop-k l = (k : ℕ) → k < l.k → get_or l.into k 0 ≡ spelled_byte l.from k
