use Rattle.std.proofs.Common.{◌≡◌, ◌≤◌, ℕ, length, take}
use Rattle.s38_disk.specs.Blocks.{after_calls, blocks_of_list, synced_state}
use Rattle.s38_disk.specs.Memory.{image_by}
use Rattle.s38_disk.proofs.replay.replay.Given as goal

abbrev pub invariant-loop-k : goal.invariant-loop-k
invariant-loop-k l = record {
  size : length l.blocks ≡ length l.initial.blocks;
  same : l.k ≤ l.kept → (i : ℕ) → blocks_of_list l.blocks i ≡ (after_calls (synced_state (blocks_of_list l.initial.blocks)) (take l.k l.calls)).now i;
  image : l.kept ≤ l.k → (i : ℕ) → blocks_of_list l.blocks i ≡ image_by l.fill (after_calls (synced_state (blocks_of_list l.initial.blocks)) (take l.k l.calls)) i;
}
