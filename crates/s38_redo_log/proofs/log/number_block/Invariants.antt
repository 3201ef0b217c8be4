use Rattle.std.proofs.Common.{◌≡◌, ◌<◌, ◌+◌, ◌*◌, ℕ, length}
use Rattle.s38_redo_log.specs.Coding.{number_in_bytes}
use Rattle.s38_redo_log.specs.Phases.{log_number_at}
use Rattle.s38_redo_log.proofs.log.number_block.Given as goal

-- the numbers so far are written
abbrev pub invariant-loop-i : goal.invariant-loop-i
invariant-loop-i l = record {
  len : length l.bytes ≡ 528;
  so_far : (k : ℕ) → k < l.i → number_in_bytes l.bytes (4 * k) ≡ log_number_at l.slots (l.first + k);
}
