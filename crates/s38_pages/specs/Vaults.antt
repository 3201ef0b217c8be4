-- A vault over a disk: what it keeps, and what it tells.
use Rattle.std.specs.Prelude.{◌≡◌, ◌⊎◌, ◌+◌, ◌-◌, ◌<◌, ◌≤◌, ◌^◌, ℕ, Bool, true, false, List, [], length}
use Rattle.std.specs.Coded.{Coded, coded_ℕ}
use Rattle.std.specs.FinMap.{code, get, len}
use Rattle.s38_vault.specs.Keys.{key_code}
use Rattle.s38_base.specs.Faults.{Rose}
use Rattle.s38_base.specs.Limits.{body_limit}
use Rattle.s38_base.specs.declared.page.Change.{Change}
use Rattle.s38_disk.specs.declared.block.Block.{Block}
use Rattle.s38_disk.specs.Blocks.{DiskState, IsCrashImage}
use Rattle.s38_disk.specs.Disk.{DiskView, IsAt, Past, WasAt, moment_of}
use Rattle.s38_disk.specs.Moves.{IsSynced}
use Rattle.s38_vault.specs.Content.{Content, changed}
use Rattle.s38_vault.specs.Directory.{NameObjects, keys_of}
use Rattle.s38_vault.specs.Vaults.{VaultView, most_changes}
use Rattle.s38_redo_log.specs.declared.layout.Layout.{Layout}
use Rattle.s38_redo_log.specs.declared.layout.Slot.{Slot}
use Rattle.s38_redo_log.specs.Store.{IsLayout, RecoversTo}
use Rattle.s38_redo_log.specs.Phases.{Idle}
use Rattle.s38_pages.specs.Index.{AreFreeHomes, Homes, Index, Indexed, IsHomeIndex, home_count, marked, unmarked}

-- Where the disk tells its past, nothing is pending, the log is idle, and the homes hold a content whose index this is.
abbrev pub IndexMatchesDisk : Layout → DiskView → Index → Type 0
IndexMatchesDisk lay disk ix = (s : DiskState) → IsAt disk.past s → IsSynced s × ((m : Content) × Idle lay s.now m × Indexed lay s.now ix m)

-- what a vault keeps: the layout and the disk, the index, the marks, the slots and the room for them, and whether no put
-- has failed
pub record IsVault (lay : Layout) (disk : DiskView) (homes : Homes) (used : List Bool) (slots : List Slot) (capacity : ℕ) (good : Bool) : Type 0 where
  pub layout : IsLayout lay
  pub limits : lay.most ≡ most_changes
  pub size : lay.size ≤ disk.size
  pub few : lay.size < 2 ^ 32
  pub marks : length used ≡ lay.size
  pub empty : slots ≡ []
  pub room : lay.most ≤ capacity
  pub index : IsHomeIndex lay (get homes) (marked used)
  pub free : AreFreeHomes lay used
  pub objects : NameObjects (keys_of homes)
  pub parts : unmarked used + len homes ≡ home_count lay
  pub told : good ≡ true → IndexMatchesDisk lay disk (get homes)

-- Since the vault was made the disk's count of faults did not fall. Where a put has failed it rose, and only then is a
-- put refused.
pub record AreOfDisk (start : ℕ) (disk : DiskView) (good : Bool) (refused : ℕ) : Type 0 where
  pub later : start ≤ disk.faults
  pub failed : good ≡ false → Rose start disk.faults
  pub none : good ≡ true → refused ≡ 0

-- the vault tells what it holds, and this is it
abbrev pub HoldsNow : Layout → DiskView → Bool → Content → Type 0
HoldsNow lay disk good m = (good ≡ true) × ((s : DiskState) × IsAt disk.past s × Idle lay s.now m)

-- a crash at that moment may leave this content
abbrev pub LeavesAt : Layout → Past → ℕ → Content → Type 0
LeavesAt lay past t m = (s : DiskState) × WasAt past t s × ((g : ℕ → Block) × IsCrashImage s g × RecoversTo lay g m)

-- each image mounts, to the content before the changes or after them
pub record IsOneOf (lay : Layout) (ix : Index) (cs : List Change) (s u : DiskState) : Type 0 where
  pub each : (m : Content) → IsSynced s → Idle lay s.now m → Indexed lay s.now ix m → (g : ℕ → Block) → IsCrashImage u g → RecoversTo lay g m ⊎ RecoversTo lay g (changed m cs)

-- each image mounts, to some content
pub record AlwaysMounts (lay : Layout) (s u : DiskState) : Type 0 where
  pub each : (g : ℕ → Block) → IsCrashImage u g → (m : Content) × RecoversTo lay g m

-- ---- as contracts see it

-- the disk and the layout, which home holds each key, for how many new keys memory is reserved, whether no put has
-- failed, how many puts were refused since one failed, and how often the disk had failed as the vault was made
pub record PageStore : Type 0 where
  pub disk : DiskView
  pub layout : Layout
  pub homes : Homes
  pub spare : ℕ
  pub good : Bool
  pub refused : ℕ
  pub start : ℕ

-- how the homes are stored
abbrev pub homes_code : Coded Homes
homes_code = code key_code coded_ℕ

abbrev pub page_view : PageStore → VaultView
page_view v =
    record {
      keys = keys_of v.homes;
      free = home_count v.layout - len v.homes;
      spare = v.spare;
      moment = moment_of v.disk.past;
      faults = v.disk.faults + v.refused;
      shape = record { parts = home_count v.layout; most = v.layout.most; body_limit = body_limit; start = v.start };
    }

abbrev pub page_holds : PageStore → Content → Type 0
page_holds v m = HoldsNow v.layout v.disk v.good m

abbrev pub page_leaves : PageStore → ℕ → Content → Type 0
page_leaves v t m = LeavesAt v.layout v.disk.past t m
