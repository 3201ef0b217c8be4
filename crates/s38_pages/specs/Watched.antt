-- A page vault that is watched from a moment on.
use Rattle.std.specs.Prelude.{◌≡◌, ℕ, zero, suc, ◌+◌}
use base.Stored.{Gv}
use base.Stored.Gv.{gnil, gnum, gcons}
use Rattle.s38_disk.specs.Moves.{Moves}
use Rattle.s38_vault.specs.Vaults.{VaultView}
use Rattle.s38_pages.specs.Stored.{store_code}
use Rattle.s38_pages.specs.Vaults.{AlwaysMounts, PageStore, page_view}

-- the vault as it was when the watch began, and as it is
pub record WatchedStore : Type 0 where
  pub first : PageStore
  pub now : PageStore

-- Since the first vault was seen each image of each moment mounts, to some content.
pub record IsWatched (first now : PageStore) : Type 0 where
  pub start : now.start ≡ first.start
  pub layout : now.layout ≡ first.layout
  pub most : ℕ
  pub moves : Moves first.disk now.disk most (AlwaysMounts first.layout)

-- ---- one number for all that is seen of a vault

-- one number for two
unfoldable pub paired : ℕ → ℕ → ℕ
paired zero b = suc (b + b)
paired (suc a) b = paired a b + paired a b

-- one number for a tree of numbers
unfoldable pub tree_number : Gv → ℕ
tree_number gnil = 0
tree_number (gnum n) = paired 0 n
tree_number (gcons a b) = paired (suc (tree_number a)) (tree_number b)

-- no two vaults that differ have the same
unfoldable pub store_number : PageStore → ℕ
store_number v = tree_number (store_code.code v)

-- ---- as a vault

-- as the page vault is, but where a vault shows how often it had failed as it was made, it shows of which one the watch began
abbrev pub watched_view : WatchedStore → VaultView
watched_view w = record (page_view w.now) { shape = record (page_view w.now).shape { start = store_number w.first } }
