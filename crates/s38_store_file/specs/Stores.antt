-- What the blocks of a disk hold as a store of objects.
use Rattle.std.specs.Prelude.{◌≡◌, ◌≤◌, ℕ, [], None}
use Rattle.s38_base.specs.Limits.{body_limit}
use Rattle.s38_redo_log.specs.Store.{RecoversTo}
use Rattle.s38_checkpoint.specs.Closing.{closing, content_of}
use Rattle.s38_checkpoint.specs.Ensuring.{EachFits, IsFullAt, IsReached}
use Rattle.s38_commits.specs.Units.{UnitMap}
use Rattle.s38_disk.specs.Blocks.{DiskState}
use Rattle.s38_disk.specs.Disk.{DiskView, IsAt}
use Rattle.s38_disk.specs.declared.block.Block.{Block}
use Rattle.s38_durable_state.specs.Durable.{Durable}
use Rattle.s38_restart.specs.catalog.Groups.{removals}
use Rattle.s38_restart.specs.catalog.Stores.{first_fault}
use Rattle.s38_pages.specs.Index.{home_count}
use Rattle.s38_pages.specs.Mounts.{fewest, layout_of}
use Rattle.s38_restart.specs.Parts.{all_parts}
use Rattle.s38_restart.specs.Restarted.{restarted}
use Rattle.s38_rules.specs.state.Held.{Held}
use Rattle.s38_rules.specs.state.Opening.{held_installed}
use Rattle.s38_vault.specs.Content.{Content, changed}

-- a content without a fault is restarted to these objects
pub record AreOf (h : Held) (m : Content) : Type 0 where
  pub sound : first_fault body_limit (all_parts m) ≡ None
  pub is : h ≡ restarted body_limit (all_parts m)

-- the blocks are a store that is restarted to these objects
pub record Restarts (size : ℕ) (f : ℕ → Block) (h : Held) : Type 0 where
  pub large : fewest ≤ size
  pub content : Content
  pub stands : RecoversTo (layout_of size) f content
  pub objects : AreOf h content

-- the blocks are a store of all that is durable, and of nothing else
abbrev pub Keeps : ℕ → (ℕ → Block) → Durable → Type 0
Keeps size f d = RecoversTo (layout_of size) f (content_of d)

-- what was on a disk is on it now, but for the orphan pages, which were taken away
pub record IsCleaned (old new : DiskView) (f g : ℕ → Block) : Type 0 where
  pub content : Content
  pub before : RecoversTo (layout_of old.size) f content
  pub after : RecoversTo (layout_of new.size) g (changed content (removals (all_parts content)))

-- ---- a store that was installed

abbrev pub no_units : UnitMap
no_units = []

-- what it keeps: the machine context, the security officer, and the ceiling of numbers
abbrev pub installed_store : Durable
installed_store = closing no_units held_installed

-- ---- a store that does not keep all that a run left

-- the blocks are a store of what there is after the first objects that the run left, ensured one after another
pub record KeepsFirst (size : ℕ) (m : Content) (d : Durable) (h : Held) (f : ℕ → Block) : Type 0 where
  pub content : Content
  pub stands : RecoversTo (layout_of size) f content
  pub reached : IsReached m d h content

-- they are those before an object that needs so many new parts where so many are free, and these are too few
pub record IsFullOf (size : ℕ) (m : Content) (d : Durable) (h : Held) (f : ℕ → Block) (needed free : ℕ) : Type 0 where
  pub content : Content
  pub stands : RecoversTo (layout_of size) f content
  pub full : IsFullAt (home_count (layout_of size)) m d h content needed free

-- in a store of so many blocks each object that the run left fits in its turn, and after the last one the ceiling: the parts
-- that are there and its new ones are no more than all parts
abbrev pub AllFit : ℕ → Content → Durable → Held → Type 0
AllFit size m d h = EachFits (home_count (layout_of size)) m d h

-- ---- before a call and after it

-- where the disk tells its past, its blocks now are in this relation to the blocks before
abbrev pub BlocksBeforeAndAfter : DiskView → DiskView → ((ℕ → Block) → (ℕ → Block) → Type 0) → Type 0
BlocksBeforeAndAfter old new R = (s t : DiskState) → IsAt old.past s → IsAt new.past t → R s.now t.now
