use Rattle.std.proofs.Common.{◌≡◌, ◌+◌, drop}
use Rattle.s38_restart.specs.Redo.{journal_replayed, redone_from}
use Rattle.s38_restart.proofs.journaled.redo.Given as goal

-- the entries that are left make what all make
abbrev pub invariant-loop-at : goal.invariant-loop-at
invariant-loop-at l =
    redone_from l.number.0 l.image l.journal.entries (l.at + 1) (drop l.at l.journal.entries) l.space ≡ journal_replayed l.number.0 l.image l.journal.entries l.initial.space
