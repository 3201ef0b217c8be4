-- How many calls of a run write a block, and how many sync.
use Rattle.std.specs.Prelude.{◌≡◌, ℕ, suc, ◌≤◌, List, [], ◌∷◌}
use Rattle.s38_disk.specs.declared.block.Call.{Call}
use Rattle.s38_disk.specs.declared.block.Call.TheVariants.{Wrote, Synced}
use Rattle.s38_disk.specs.Disk.{DiskView, adding}

-- how many of these calls write a block
abbrev pub count_writes : List Call → ℕ
count_writes [] = 0
count_writes (Wrote at block ∷ calls) = suc (count_writes calls)
count_writes (Synced good ∷ calls) = count_writes calls

-- how many of these calls sync
abbrev pub count_syncs : List Call → ℕ
count_syncs [] = 0
count_syncs (Wrote at block ∷ calls) = count_syncs calls
count_syncs (Synced good ∷ calls) = suc (count_syncs calls)

-- Some calls were made, at most so many of which write a block, and at most so many of which sync.
pub record Costs (old new : DiskView) (writes syncs : ℕ) : Type 0 where
  pub calls : List Call
  pub past : new.past ≡ adding calls old.past
  pub few_writes : count_writes calls ≤ writes
  pub few_syncs : count_syncs calls ≤ syncs
