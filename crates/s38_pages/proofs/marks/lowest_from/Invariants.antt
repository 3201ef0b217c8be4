use Rattle.std.proofs.Common.{◌≡◌, ◌<◌, ℕ, true}
use Rattle.s38_pages.specs.Index.{marked}
use Rattle.s38_pages.proofs.marks.lowest_from.Given as goal

-- no block so far is free
abbrev pub invariant-loop-home : goal.invariant-loop-home
invariant-loop-home l = record { below : (i : ℕ) → i < l.home → marked l.used i ≡ true }
