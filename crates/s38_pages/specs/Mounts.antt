-- Mounting a store: why it is refused, and what a crash leaves meanwhile.
use Rattle.std.specs.Prelude.{◌≡◌, ◌⊎◌, ◌+◌, ◌/◌, ◌<◌, ◌≤◌, ℕ, true, false, take}
use Rattle.std.specs.Prelude.{min}
use Rattle.s38_disk.specs.declared.block.Block.{Block}
use Rattle.s38_disk.specs.Blocks.{DiskState, IsCrashImage}
use Rattle.s38_disk.specs.Moves.{IsSynced}
use Rattle.s38_vault.specs.Content.{Content}
use Rattle.s38_redo_log.specs.declared.layout.Layout.{Layout}
use Rattle.s38_redo_log.specs.Coding.{is_store_label, is_up}
use Rattle.s38_redo_log.specs.Store.{AreHomes, IsLog, RecoversTo, is_home, log_count, log_data, log_of, log_replayed, log_word}
use Rattle.s38_redo_log.specs.declared.layout.Slot.{Slot}
use Rattle.s38_redo_log.specs.Phases.{Idle}
use Rattle.s38_pages.specs.Scan.{AreTwins}
use Rattle.s38_pages.specs.declared.fault.StoreFault.{StoreFault}
use Rattle.s38_pages.specs.declared.fault.StoreFault.TheVariants as faults

-- the fewest blocks of a store
abbrev pub fewest : ℕ
fewest = 4096

-- where things lie in a store on a disk of so many blocks: the first 131,072 of them at most
abbrev pub layout_of : ℕ → Layout
layout_of blocks = record { first = 2306; hole = 0; size = min blocks 131072; most = 2286 }

-- the first damage of the log: its count, or else the first home number that is none or occurs before
abbrev pub IsDamaged : Layout → (ℕ → Block) → ℕ → Type 0
IsDamaged lay f block =
    (((log_count f ≡ 0) ⊎ (lay.most < log_count f)) × (block ≡ 2))
    ⊎ ((1 ≤ log_count f) × (log_count f ≤ lay.most) × ((k : ℕ) × (k < log_count f) × AreHomes lay (take k (log_of f)) × (AreHomes lay (take (k + 1) (log_of f)) → ⊥) × (block ≡ 2 + (k + 1) / 132)))

-- why a log is not read
abbrev pub IsLogFault : Layout → (ℕ → Block) → StoreFault → Type 0
IsLogFault lay f (faults.TooSmall size) = ⊥
IsLogFault lay f faults.AlreadyInstalled = ⊥
IsLogFault lay f faults.NotInstalled = ⊥
IsLogFault lay f (faults.LogDamaged block) = IsDamaged lay f block
IsLogFault lay f (faults.TwoBlocks first second) = ⊥
IsLogFault lay f faults.Failed = Unit {0}
IsLogFault lay f faults.NoMemory = Unit {0}

-- why the log is not replayed, though its gate is up
abbrev pub IsFinishFault : Layout → (ℕ → Block) → StoreFault → Type 0
IsFinishFault lay f (faults.TooSmall size) = ⊥
IsFinishFault lay f faults.AlreadyInstalled = ⊥
IsFinishFault lay f faults.NotInstalled = ⊥
IsFinishFault lay f (faults.LogDamaged block) = (is_up (f 1) ≡ true) × IsDamaged lay f block
IsFinishFault lay f (faults.TwoBlocks first second) = ⊥
IsFinishFault lay f faults.Failed = Unit {0}
IsFinishFault lay f faults.NoMemory = Unit {0}

-- why the homes are not indexed
abbrev pub IsIndexFault : Layout → (ℕ → Block) → StoreFault → Type 0
IsIndexFault lay f (faults.TooSmall size) = ⊥
IsIndexFault lay f faults.AlreadyInstalled = ⊥
IsIndexFault lay f faults.NotInstalled = ⊥
IsIndexFault lay f (faults.LogDamaged block) = ⊥
IsIndexFault lay f (faults.TwoBlocks first second) = AreTwins lay f first second
IsIndexFault lay f faults.Failed = Unit {0}
IsIndexFault lay f faults.NoMemory = Unit {0}

-- the log is replayed if its gate is up
pub record IsFinished (lay : Layout) (s t : DiskState) : Type 0 where
  pub settled : IsSynced s → IsSynced t
  pub homes : (i : ℕ) → is_home lay i ≡ true → t.now i ≡ log_replayed s.now i
  pub log : is_up (s.now 1) ≡ true → IsLog lay (log_of s.now)
  pub rests : (m : Content) → IsSynced s → RecoversTo lay s.now m → Idle lay t.now m

-- the same, and nothing is pending
pub record IsReady (lay : Layout) (s t : DiskState) : Type 0 where
  pub settled : IsSynced t
  pub homes : (i : ℕ) → is_home lay i ≡ true → t.now i ≡ log_replayed s.now i
  pub log : is_up (s.now 1) ≡ true → IsLog lay (log_of s.now)
  pub rests : (m : Content) → RecoversTo lay s.now m → Idle lay t.now m

-- the entry of the log at a place
abbrev pub log_entry_at : (ℕ → Block) → ℕ → Slot
log_entry_at f k = record { home = log_word f (k + 1); block = f (log_data (log_count f) + k) }

-- why a store of these blocks is not mounted
abbrev pub IsRefused : ℕ → (ℕ → Block) → StoreFault → Type 0
IsRefused blocks f (faults.TooSmall size) = (size ≡ blocks) × (blocks < fewest)
IsRefused blocks f faults.AlreadyInstalled = ⊥
IsRefused blocks f faults.NotInstalled = (fewest ≤ blocks) × (is_store_label (f 0) ≡ false)
IsRefused blocks f (faults.LogDamaged block) = (fewest ≤ blocks) × (is_store_label (f 0) ≡ true) × (is_up (f 1) ≡ true) × IsDamaged (layout_of blocks) f block
IsRefused blocks f (faults.TwoBlocks first second) =
    (fewest ≤ blocks) × (is_store_label (f 0) ≡ true) × (is_up (f 1) ≡ true → IsLog (layout_of blocks) (log_of f)) × AreTwins (layout_of blocks) (log_replayed f) first second
IsRefused blocks f faults.Failed = Unit {0}
IsRefused blocks f faults.NoMemory = Unit {0}

-- a crash leaves the content that the store held
pub record IsMounted (lay : Layout) (s u : DiskState) : Type 0 where
  pub each : (m : Content) → IsSynced s → RecoversTo lay s.now m → (g : ℕ → Block) → IsCrashImage u g → RecoversTo lay g m

-- a disk is too small for a store exactly where it has fewer than the fewest blocks
abbrev pub IsSized : ℕ → StoreFault → Type 0
IsSized blocks (faults.TooSmall size) = (size ≡ blocks) × (blocks < fewest)
IsSized blocks faults.AlreadyInstalled = fewest ≤ blocks
IsSized blocks faults.NotInstalled = fewest ≤ blocks
IsSized blocks (faults.LogDamaged block) = fewest ≤ blocks
IsSized blocks (faults.TwoBlocks first second) = fewest ≤ blocks
IsSized blocks faults.Failed = fewest ≤ blocks
IsSized blocks faults.NoMemory = fewest ≤ blocks

-- a fault that says nothing of the size of the disk
abbrev pub IsNotOfSize : StoreFault → Type 0
IsNotOfSize (faults.TooSmall size) = ⊥
IsNotOfSize faults.AlreadyInstalled = Unit {0}
IsNotOfSize faults.NotInstalled = Unit {0}
IsNotOfSize (faults.LogDamaged block) = Unit {0}
IsNotOfSize (faults.TwoBlocks first second) = Unit {0}
IsNotOfSize faults.Failed = Unit {0}
IsNotOfSize faults.NoMemory = Unit {0}
