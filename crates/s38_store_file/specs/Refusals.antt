-- Why a store is refused.
use Rattle.std.specs.Prelude.{◌≡◌, ◌<◌, ◌≤◌, ℕ, true, Some}
use Rattle.s38_base.specs.Limits.{body_limit}
use Rattle.s38_redo_log.specs.Coding.{is_store_label}
use Rattle.s38_redo_log.specs.Store.{RecoversTo}
use Rattle.s38_disk.specs.Blocks.{DiskState}
use Rattle.s38_disk.specs.Disk.{DiskView, IsAt}
use Rattle.s38_disk.specs.declared.block.Block.{Block}
use Rattle.s38_restart.specs.catalog.Stores.{first_fault}
use Rattle.s38_pages.specs.Mounts.{IsRefused, fewest, layout_of}
use Rattle.s38_pages.specs.declared.fault.StoreFault.{StoreFault}
use Rattle.s38_pages.specs.declared.fault.StoreFault.TheVariants as pages
use Rattle.s38_restart.specs.Parts.{all_parts}
use Rattle.s38_restart.specs.declared.fault.RestartFault.{RestartFault}
use Rattle.s38_restart.specs.declared.fault.RestartFault.TheVariants as restarts
use Rattle.s38_store_file.specs.declared.fault.BadStore.{BadStore}
use Rattle.s38_store_file.specs.declared.fault.BadStore.TheVariants as bad
use Rattle.s38_store_file.specs.declared.fault.StoreRefusal.{StoreRefusal}
use Rattle.s38_store_file.specs.declared.fault.StoreRefusal.TheVariants as refusals
use Rattle.s38_vault.specs.Content.{Content}

-- ---- from the calls below

abbrev pub of_store : StoreFault → StoreRefusal
of_store (pages.TooSmall blocks) = refusals.Bad (bad.TooSmall blocks)
of_store pages.AlreadyInstalled = refusals.Bad bad.AlreadyInstalled
of_store pages.NotInstalled = refusals.Bad bad.NotInstalled
of_store (pages.LogDamaged block) = refusals.Bad (bad.LogDamaged block)
of_store (pages.TwoBlocks first second) = refusals.Bad (bad.TwoBlocks first second)
of_store pages.Failed = refusals.Failed
of_store pages.NoMemory = refusals.NoMemory

abbrev pub of_restart : RestartFault → StoreRefusal
of_restart (restarts.BadImage object part) = refusals.Bad (bad.BadImage object part)
of_restart restarts.Failed = refusals.Failed
of_restart restarts.NoMemory = refusals.NoMemory

-- ---- where a store is wanted

-- the blocks are a store, and this part of its content is at fault first
pub record HasFault (size : ℕ) (f : ℕ → Block) (object part : ℕ) : Type 0 where
  pub content : Content
  pub stands : RecoversTo (layout_of size) f content
  pub first : first_fault body_limit (all_parts content) ≡ Some (object, part)

-- what is wrong with the store of these blocks
abbrev pub IsBad : ℕ → (ℕ → Block) → BadStore → Type 0
IsBad size f (bad.TooSmall blocks) = IsRefused size f (pages.TooSmall blocks)
IsBad size f bad.NotInstalled = IsRefused size f pages.NotInstalled
IsBad size f bad.AlreadyInstalled = ⊥
IsBad size f (bad.LogDamaged block) = IsRefused size f (pages.LogDamaged block)
IsBad size f (bad.TwoBlocks first second) = IsRefused size f (pages.TwoBlocks first second)
IsBad size f (bad.BadImage object part) = HasFault size f object part

abbrev pub IsRefusal : ℕ → (ℕ → Block) → StoreRefusal → Type 0
IsRefusal size f (refusals.Bad b) = IsBad size f b
IsRefusal size f refusals.Failed = Unit {0}
IsRefusal size f refusals.NoMemory = Unit {0}

-- what is wrong with a content, as a restart finds it
abbrev pub IsFaultOf : Content → StoreRefusal → Type 0
IsFaultOf m (refusals.Bad (bad.TooSmall blocks)) = ⊥
IsFaultOf m (refusals.Bad bad.NotInstalled) = ⊥
IsFaultOf m (refusals.Bad bad.AlreadyInstalled) = ⊥
IsFaultOf m (refusals.Bad (bad.LogDamaged block)) = ⊥
IsFaultOf m (refusals.Bad (bad.TwoBlocks first second)) = ⊥
IsFaultOf m (refusals.Bad (bad.BadImage object part)) = first_fault body_limit (all_parts m) ≡ Some (object, part)
IsFaultOf m refusals.Failed = Unit {0}
IsFaultOf m refusals.NoMemory = Unit {0}

-- ---- where none is wanted

-- why no store is made on a disk
abbrev pub IsTaken : DiskView → BadStore → Type 0
IsTaken disk (bad.TooSmall blocks) = (blocks ≡ disk.size) × (disk.size < fewest)
IsTaken disk bad.NotInstalled = ⊥
IsTaken disk bad.AlreadyInstalled = (fewest ≤ disk.size) × ((s : DiskState) → IsAt disk.past s → is_store_label (s.now 0) ≡ true)
IsTaken disk (bad.LogDamaged block) = ⊥
IsTaken disk (bad.TwoBlocks first second) = ⊥
IsTaken disk (bad.BadImage object part) = ⊥

abbrev pub IsUnmadeBy : DiskView → StoreRefusal → Type 0
IsUnmadeBy disk (refusals.Bad b) = IsTaken disk b
IsUnmadeBy disk refusals.Failed = Unit {0}
IsUnmadeBy disk refusals.NoMemory = Unit {0}
