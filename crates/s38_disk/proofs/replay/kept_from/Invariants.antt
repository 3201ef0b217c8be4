use Rattle.std.proofs.Common.{◌≡◌, ◌≤◌, ◌<◌, ℕ, false, get_or, take}
use Rattle.s38_disk.specs.Blocks.{after_calls, synced_state}
use Rattle.s38_disk.specs.Memory.{IsDurable, is_good_sync}
use Rattle.s38_disk.specs.declared.block.Block.{Block}
use Rattle.s38_disk.specs.declared.block.Call.{Call}
use Rattle.s38_disk.proofs.replay.kept_from.Given as goal

abbrev pub invariant-loop-k : goal.invariant-loop-k
invariant-loop-k l = record {
  within : l.kept ≤ l.k;
  last : (k : ℕ) (d : Call) → l.kept ≤ k → k < l.k → is_good_sync (get_or l.calls k d) ≡ false;
  durable : (blocks : ℕ → Block) → IsDurable (after_calls (synced_state blocks) (take l.kept l.calls));
}
