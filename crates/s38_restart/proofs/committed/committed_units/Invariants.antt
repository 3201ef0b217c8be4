use Rattle.std.proofs.Common.{◌≡◌, ◌+◌, ◌||◌, ℕ, drop, false, get_or, length}
use Rattle.s38_restart.specs.Redo.{is_committed}
use Rattle.s38_restart.proofs.committed.committed_units.Given as goal

-- what is marked, and what the entries that are left commit, is all
abbrev pub invariant-loop-at : goal.invariant-loop-at
invariant-loop-at l = record {
  len : length l.marks.items ≡ length l.journal.entries + 1;
  marks : (unit : ℕ) → (get_or l.marks.items unit false || is_committed l.image unit (l.at + 1) (drop l.at l.journal.entries)) ≡ is_committed l.image unit 1 l.journal.entries;
}
