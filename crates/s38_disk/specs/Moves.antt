-- How a run of calls of a disk goes on, moment by moment.
use Rattle.std.specs.Prelude.{◌≡◌, ℕ, ◌≤◌, Bool, false, List, [], ◌∷◌, length}
use Rattle.s38_disk.specs.declared.block.Block.{Block}
use Rattle.s38_disk.specs.declared.block.Call.{Call}
use Rattle.s38_disk.specs.Blocks.{DiskState, stepped}
use Rattle.s38_disk.specs.Disk.{DiskView, IsAt, adding}

-- each state after a call has Q
abbrev pub Along : (DiskState → Type 0) → DiskState → List Call → Type 0
Along Q s [] = Unit {0}
Along Q s (c ∷ cs) = Q (stepped s c) × Along Q (stepped s c) cs

-- Some calls were made, at most so many, and each state after one of them is in the relation R to the state before all.
pub record Moves (old new : DiskView) (most : ℕ) (R : DiskState → DiskState → Type 0) : Type 0 where
  pub size : new.size ≡ old.size
  pub later : old.faults ≤ new.faults
  pub calls : List Call
  pub past : new.past ≡ adding calls old.past
  pub few : length calls ≤ most
  pub each : (s : DiskState) → IsAt old.past s → Along (R s) s calls

-- where the disk tells its past: the state before, and the state now
abbrev pub MovesBy : DiskView → DiskView → (DiskState → DiskState → Type 0) → Type 0
MovesBy old new F = (s t : DiskState) → IsAt old.past s → IsAt new.past t → F s t

-- since s anything was written in A alone
pub record Near (A : ℕ → Bool) (s u : DiskState) : Type 0 where
  pub now : (i : ℕ) → A i ≡ false → u.now i ≡ s.now i
  pub pending : (i : ℕ) → A i ≡ false → s.pending i ≡ false → u.pending i ≡ false

abbrev pub IsSynced : DiskState → Type 0
IsSynced s = (i : ℕ) → s.pending i ≡ false

-- the same outside A
abbrev pub SameBut : (ℕ → Bool) → (ℕ → Block) → (ℕ → Block) → Type 0
SameBut A f g = (i : ℕ) → A i ≡ false → g i ≡ f i
