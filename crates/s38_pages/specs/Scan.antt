-- Reading the homes in order.
use Rattle.std.specs.Prelude.{◌≡◌, ◌+◌, ◌<◌, ◌≤◌, ◌&&◌, ℕ, Bool, List, true, false, cond, length, Option, Some, None, is_none}
use Rattle.std.specs.BTreeMap.{BTreeMap}
use Rattle.std.specs.FinMap.{from_entries, get, len}
use Rattle.s38_disk.specs.declared.block.Block.{Block}
use Rattle.s38_base.specs.declared.page.Key.{Key}
use Rattle.s38_vault.specs.Directory.{NameObjects, keys_of}
use Rattle.s38_redo_log.specs.declared.layout.Layout.{Layout}
use Rattle.s38_redo_log.specs.Coding.{home_is_used, key_in}
use Rattle.s38_redo_log.specs.Store.{is_home}
use Rattle.s38_pages.specs.Index.{AreFreeHomes, Homes, Index, IsHomeIndex, home_count, marked, unmarked, with_home}

-- the home below that already holds the block's key
abbrev pub twin_of : Index → Block → Option ℕ
twin_of ix b = cond (home_is_used b) (ix (key_in b)) None

abbrev pub home_noted : Index → ℕ → Block → Index
home_noted ix at b = cond (home_is_used b && is_none (ix (key_in b))) (with_home ix (key_in b) (Some at)) ix

-- the index is that of the homes below h, of which no two have one key
pub record Scanned (lay : Layout) (f : ℕ → Block) (ix : Index) (h : ℕ) : Type 0 where
  pub sound : (k : Key) (i : ℕ) → ix k ≡ Some i → (i < h) × (is_home lay i ≡ true) × (home_is_used (f i) ≡ true) × (key_in (f i) ≡ k)
  pub whole : (i : ℕ) → i < h → is_home lay i ≡ true → home_is_used (f i) ≡ true → ix (key_in (f i)) ≡ Some i

-- the pair of homes with one key whose second is the least
pub record AreTwins (lay : Layout) (f : ℕ → Block) (first second : ℕ) : Type 0 where
  pub order : first < second
  pub first_home : is_home lay first ≡ true
  pub second_home : is_home lay second ≡ true
  pub first_used : home_is_used (f first) ≡ true
  pub second_used : home_is_used (f second) ≡ true
  pub one_key : key_in (f first) ≡ key_in (f second)
  pub least : (i j : ℕ) → i < j → j < second → is_home lay i ≡ true → is_home lay j ≡ true → home_is_used (f i) ≡ true → home_is_used (f j) ≡ true → key_in (f i) ≡ key_in (f j) → ⊥

abbrev pub ScanGives : Layout → (ℕ → Block) → Option (ℕ × ℕ) → Index → Type 0
ScanGives lay f None ix = Scanned lay f ix lay.size
ScanGives lay f (Some p) ix = AreTwins lay f p.0 p.1

-- the homes in a tree, by key
abbrev pub homes_of : BTreeMap Key ℕ → Homes
homes_of found = from_entries found.entries

-- what is kept of the homes below h, whatever they hold
pub record IsScannedTo (lay : Layout) (homes : Homes) (used : List Bool) (h : ℕ) : Type 0 where
  pub index : IsHomeIndex lay (get homes) (marked used)
  pub below : (k : Key) (i : ℕ) → get homes k ≡ Some i → i < h
  pub free : AreFreeHomes lay used
  pub above : (i : ℕ) → h ≤ i → is_home lay i ≡ true → marked used i ≡ false
  pub size : length used ≡ lay.size
  pub objects : NameObjects (keys_of homes)
  pub parts : unmarked used + len homes ≡ home_count lay
