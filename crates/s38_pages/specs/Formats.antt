-- Making a store: why none is made, and what a crash leaves meanwhile.
use Rattle.std.specs.Prelude.{◌≡◌, ◌⊎◌, ◌==◌, ◌<◌, ◌≤◌, ℕ, Bool, true, false, List}
use Rattle.std.specs.FinMap.{empty}
use Rattle.s38_base.specs.declared.page.Change.{Change}
use Rattle.s38_disk.specs.declared.block.Block.{Block}
use Rattle.s38_disk.specs.Blocks.{DiskState, IsCrashImage}
use Rattle.s38_disk.specs.Disk.{DiskView, IsAt}
use Rattle.s38_disk.specs.Moves.{IsSynced}
use Rattle.s38_vault.specs.Content.{Content, changed}
use Rattle.s38_redo_log.specs.declared.layout.Layout.{Layout}
use Rattle.s38_redo_log.specs.declared.layout.Slot.{Slot}
use Rattle.s38_redo_log.specs.Coding.{home_is_used, is_store_label, is_up}
use Rattle.s38_redo_log.specs.Store.{HomesHold, RecoversTo, entries_written, is_home}
use Rattle.s38_pages.specs.Index.{Homes}
use Rattle.s38_pages.specs.Mounts.{fewest}
use Rattle.s38_pages.specs.declared.fault.StoreFault.{StoreFault}
use Rattle.s38_pages.specs.declared.fault.StoreFault.TheVariants as faults

-- how many changes the first content of a store has at most: the homes of the smallest store
abbrev pub most_first : ℕ
most_first = 1790

abbrev pub no_pages : Content
no_pages = empty

abbrev pub no_homes : Homes
no_homes = empty

-- what a new store holds: the changes, made where nothing was
abbrev pub first_content : List Change → Content
first_content changes = changed no_pages changes

-- why no store is made on a disk
abbrev pub IsUnmade : DiskView → StoreFault → Type 0
IsUnmade disk (faults.TooSmall size) = (size ≡ disk.size) × (disk.size < fewest)
IsUnmade disk faults.AlreadyInstalled = (fewest ≤ disk.size) × ((s : DiskState) → IsAt disk.past s → is_store_label (s.now 0) ≡ true)
IsUnmade disk faults.NotInstalled = ⊥
IsUnmade disk (faults.LogDamaged block) = ⊥
IsUnmade disk (faults.TwoBlocks first second) = ⊥
IsUnmade disk faults.Failed = fewest ≤ disk.size
IsUnmade disk faults.NoMemory = fewest ≤ disk.size

-- where nothing was pending, a crash leaves a disk without a label, or a store of that content
pub record IsMaking (lay : Layout) (m : Content) (s u : DiskState) : Type 0 where
  pub each : IsSynced s → (g : ℕ → Block) → IsCrashImage u g → (is_store_label (g 0) ≡ false) ⊎ RecoversTo lay g m

-- ---- the steps

-- the block of the label
abbrev pub label_place : ℕ → Bool
label_place i = i == 0

-- neither a page nor a raised gate
abbrev pub IsBlank : Block → Type 0
IsBlank b = (home_is_used b ≡ false) × (is_up b ≡ false)

-- no home holds a page
abbrev pub AreFree : Layout → (ℕ → Block) → Type 0
AreFree lay f = (i : ℕ) → is_home lay i ≡ true → home_is_used (f i) ≡ false

-- the slots, written where no home holds a page, make this content
abbrev pub Fills : Layout → List Slot → Content → Type 0
Fills lay es m = (f : ℕ → Block) → AreFree lay f → HomesHold lay (entries_written es f) m

-- after a store was made: nothing is pending, and the homes are those of the slots
pub record IsMade (lay : Layout) (es : List Slot) (t : DiskState) : Type 0 where
  pub settled : IsSynced t
  pub label : is_store_label (t.now 0) ≡ true
  pub down : is_up (t.now 1) ≡ false
  pub homes : (f : ℕ → Block) × (AreFree lay f × ((i : ℕ) → is_home lay i ≡ true → t.now i ≡ entries_written es f i))
