use Rattle.std.proofs.Common.{◌≡◌, ℕ, ◌<◌, length, get_or, drop}
use Rattle.s38_strings.specs.Translate.{translated}
use Rattle.s38_strings.proofs.translate.table.Given as goal

abbrev pub invariant-loop-c : goal.invariant-loop-c
invariant-loop-c l = (length l.table ≡ 256) × ((c : ℕ) → c < l.c → get_or l.table c 0 ≡ c)

abbrev pub invariant-loop-k : goal.invariant-loop-k
invariant-loop-k l = (length l.table ≡ 256) × ((c : ℕ) → c < 256 → get_or l.table c 0 ≡ translated (drop l.k l.place) (drop l.k l.by) c)
