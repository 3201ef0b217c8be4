-- A vault over the disk of a store that was opened.
use Rattle.std.specs.Prelude.{◌≡◌}
use Rattle.s38_base.specs.Limits.{body_limit}
use Rattle.s38_redo_log.specs.Store.{RecoversTo}
use Rattle.s38_disk.specs.Blocks.{DiskState}
use Rattle.s38_disk.specs.Disk.{DiskView, IsAt}
use Rattle.s38_restart.specs.catalog.Groups.{removals}
use Rattle.s38_pages.specs.Mounts.{layout_of}
use Rattle.s38_pages.specs.Vaults.{PageStore, page_holds, page_view}
use Rattle.s38_restart.specs.Parts.{AreParts, all_parts}
use Rattle.s38_restart.specs.Restarted.{extents_kept}
use Rattle.s38_rules.specs.state.Held.{Held}
use Rattle.s38_rules.specs.store.Room.{Room}
use Rattle.s38_store_file.specs.Stores.{AreOf}
use Rattle.s38_vault.specs.Content.{Content, changed}

-- the vault tells that it holds what was on the disk, but for the orphan pages
abbrev pub HoldsCleaned : DiskView → PageStore → Type 0
HoldsCleaned disk v =
    (s : DiskState) → IsAt disk.past s → (m : Content) × (RecoversTo (layout_of disk.size) s.now m × page_holds v (changed m (removals (all_parts m))))

-- no call of the disk failed since it was handed in
pub record IsFaultless (disk : DiskView) (v : PageStore) : Type 0 where
  pub start : v.start ≡ disk.faults
  pub faults : (page_view v).faults ≡ disk.faults

-- A store of this content was opened: its parts are as a store may have them, it is restarted to these objects, its room has
-- the extent of each object as it is kept, and the vault tells that it holds it, but for the orphan pages.
pub record IsOpened (m : Content) (v : PageStore) (h : Held) (room : Room) : Type 0 where
  pub parts : AreParts (all_parts m)
  pub objects : AreOf h m
  pub extents : room.extents ≡ extents_kept body_limit (all_parts m)
  pub holds : page_holds v (changed m (removals (all_parts m)))

-- so was each content that was on a disk
abbrev pub IsOpenedOn : DiskView → PageStore → Held → Room → Type 0
IsOpenedOn disk v h room = (s : DiskState) → IsAt disk.past s → (m : Content) → RecoversTo (layout_of disk.size) s.now m → IsOpened m v h room
