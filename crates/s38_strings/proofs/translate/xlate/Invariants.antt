use Rattle.std.proofs.Common.{◌≡◌, ℕ, ◌<◌, ◌≤◌, get_or}
use Rattle.s38_strings.specs.Translate.{translated}
use Rattle.s38_strings.proofs.translate.xlate.Given as goal

abbrev pub invariant-loop-k : goal.invariant-loop-k
invariant-loop-k l =
    ((k : ℕ) → k < l.k → get_or l.into k 0 ≡ translated l.place l.by (get_or l.from k 0))
    × ((k : ℕ) → l.k ≤ k → get_or l.into k 0 ≡ get_or l.initial.into k 0)
