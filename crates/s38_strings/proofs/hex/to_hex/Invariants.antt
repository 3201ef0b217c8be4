use Rattle.std.proofs.Common.{◌≡◌, ℕ, ◌<◌, get_or}
use Rattle.s38_strings.specs.Hex.{character_at}
use Rattle.s38_strings.proofs.hex.to_hex.Given as goal

abbrev pub invariant-loop-k : goal.invariant-loop-k
invariant-loop-k l = (k : ℕ) → k < l.k → get_or l.into k 0 ≡ character_at l.from k
