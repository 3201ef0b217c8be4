-- A disk as contracts see it.
use Rattle.std.specs.Prelude.{◌≡◌, ◌⊎◌, ℕ, ◌+◌, Bool, IsFalse, List, [], ◌∷◌, ◌++◌, length, take}
use Rattle.s38_disk.specs.declared.block.Block.{Block}
use Rattle.s38_disk.specs.declared.block.Call.{Call}
use Rattle.s38_disk.specs.Blocks.{DiskState, IsCrashImage, after_calls, blocks_of_list, synced_state}

-- A disk that tells its past: the blocks at first, when all was durable, and all calls since, in order. A disk that does
-- not tell its past tells how many calls there were.
pub data Past : Type 0 where
  Told : List Block → List Call → Past
  Untold : ℕ → Past

-- how many calls there were
abbrev pub moment_of : Past → ℕ
moment_of (Told first calls) = length calls
moment_of (Untold count) = count

-- the same past with calls after it
abbrev pub adding : List Call → Past → Past
adding more (Told first calls) = Told first (calls ++ more)
adding more (Untold count) = Untold (count + length more)

-- how many blocks there are, the past, and how often the disk has failed
pub record DiskView : Type 0 where
  pub size : ℕ
  pub past : Past
  pub faults : ℕ

-- the disk tells its past, and is in this state
abbrev pub IsAt : Past → DiskState → Type 0
IsAt (Told first calls) s = s ≡ after_calls (synced_state (blocks_of_list first)) calls
IsAt (Untold count) s = ⊥

-- the disk tells its past, and was in this state at a moment
abbrev pub WasAt : Past → ℕ → DiskState → Type 0
WasAt (Told first calls) moment s = s ≡ after_calls (synced_state (blocks_of_list first)) (take moment calls)
WasAt (Untold count) moment s = ⊥

-- the disk tells its past, and a crash at a moment may leave this
abbrev pub IsCrashImageAt : Past → ℕ → (ℕ → Block) → Type 0
IsCrashImageAt past moment image = (s : DiskState) × (WasAt past moment s × IsCrashImage s image)

-- A call is noted, or it failed and left no trace.
pub record Notes (old new : DiskView) (ok : Bool) (call : Call) : Type 0 where
  pub size : new.size ≡ old.size
  pub past : (new.past ≡ adding (call ∷ []) old.past) ⊎ ((new.past ≡ old.past) × IsFalse ok)
