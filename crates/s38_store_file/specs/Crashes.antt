-- What a crash may leave while a call goes on.
use Rattle.std.specs.Prelude.{◌≡◌, ◌↔◌, ◌⊎◌, ◌<◌, ◌≤◌, ℕ, false, take}
use Rattle.s38_redo_log.specs.Coding.{is_store_label}
use Rattle.s38_redo_log.specs.Store.{RecoversTo}
use Rattle.s38_checkpoint.specs.Ensuring.{IsLeft}
use Rattle.s38_disk.specs.Blocks.{DiskState}
use Rattle.s38_disk.specs.Disk.{DiskView, IsAt, IsCrashImageAt, moment_of}
use Rattle.s38_disk.specs.Moves.{IsSynced}
use Rattle.s38_disk.specs.declared.block.Block.{Block}
use Rattle.s38_durable_state.specs.Durable.{Durable}
use Rattle.s38_restart.specs.catalog.Groups.{removals}
use Rattle.s38_pages.specs.Mounts.{layout_of}
use Rattle.s38_restart.specs.Parts.{all_parts}
use Rattle.s38_rules.specs.state.Held.{Held}
use Rattle.s38_store_file.specs.Stores.{Keeps, Restarts, installed_store}
use Rattle.s38_vault.specs.Content.{Content, changed}
use Rattle.s38_vault.specs.Vaults.{most_changes}

-- A disk went on: it is as large, no moment was taken back, and each earlier moment is as it was.
pub record GoesOn (old new : DiskView) : Type 0 where
  pub size : new.size ≡ old.size
  pub later : moment_of old.past ≤ moment_of new.past
  pub before : (t : ℕ) (image : ℕ → Block) → t ≤ moment_of old.past → IsCrashImageAt old.past t image ↔ IsCrashImageAt new.past t image

-- A call leaves each earlier moment of the disk as it was, and each image that a crash at a moment of the call may leave is
-- so.
pub record DuringCall (old new : DiskView) (P : (ℕ → Block) → Type 0) : Type 0 where
  pub size : new.size ≡ old.size
  pub later : moment_of old.past ≤ moment_of new.past
  pub before : (t : ℕ) (image : ℕ → Block) → t ≤ moment_of old.past → IsCrashImageAt old.past t image ↔ IsCrashImageAt new.past t image
  pub each : (t : ℕ) (image : ℕ → Block) → moment_of old.past < t → t ≤ moment_of new.past → IsCrashImageAt new.past t image → P image

-- where the disk tells its past and nothing is pending, this holds of its blocks
abbrev pub FromSynced : DiskView → ((ℕ → Block) → Type 0) → Type 0
FromSynced disk P = (s : DiskState) → IsAt disk.past s → IsSynced s → P s.now

-- ---- a store that is made

-- there is no label, or the whole store that is installed
abbrev pub IsNoneOrInstalled : ℕ → (ℕ → Block) → Type 0
IsNoneOrInstalled size g = (is_store_label (g 0) ≡ false) ⊎ Keeps size g installed_store

-- ---- a store that is opened

-- the blocks are a store of this content, of which the first orphan pages may be gone
pub record IsPartlyCleaned (size : ℕ) (m : Content) (g : ℕ → Block) : Type 0 where
  pub count : ℕ
  pub stands : RecoversTo (layout_of size) g (changed m (take count (removals (all_parts m))))

-- While a store is opened, whatever comes of it, a crash takes none of its parts that belongs to something, and the store
-- is restarted to the very objects to which it was restarted before.
pub record KeepsRestarting (old new : DiskView) : Type 0 where
  pub content : FromSynced old (λ f. (m : Content) → RecoversTo (layout_of old.size) f m → DuringCall old new (IsPartlyCleaned new.size m))
  pub objects : FromSynced old (λ f. (h : Held) → Restarts old.size f h → DuringCall old new (λ g. Restarts new.size g h))

-- ---- a store in which a run is kept

-- The blocks are a store of what there is after the first objects that the run left, ensured one after another, or of all
-- that is durable; or the next object needs several puts, and some of them were made.
pub record IsBetween (size : ℕ) (m : Content) (d : Durable) (h : Held) (g : ℕ → Block) : Type 0 where
  pub content : Content
  pub stands : RecoversTo (layout_of size) g content
  pub left : IsLeft most_changes m d h content
