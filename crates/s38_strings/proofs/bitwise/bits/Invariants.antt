use Rattle.std.proofs.Common.{◌≡◌, ℕ, ◌<◌, get_or}
use Rattle.s38_strings.specs.Bits.{byte_of}
use Rattle.s38_strings.proofs.bitwise.bits.Given as goal

abbrev pub invariant-loop-k : goal.invariant-loop-k
invariant-loop-k l = (k : ℕ) → k < l.k → get_or l.into k 0 ≡ byte_of l.op (get_or l.a k 0) (get_or l.b k 0)
