-- What content a store's blocks hold.
use Rattle.std.specs.Prelude.{◌≡◌, ◌==◌, ◌&&◌, ◌||◌, not, ℕ, zero, suc, ◌+◌, ◌/◌, ◌%◌, ◌≤◌, nat_le, nat_lt, Bool, true, false, cond, List, [], ◌∷◌, length, Some}
use Rattle.std.specs.FinMap.{get}
use Rattle.s38_disk.specs.declared.block.Block.{Block}
use Rattle.s38_disk.specs.Blocks.{put}
use Rattle.s38_base.specs.declared.page.Key.{Key}
use Rattle.s38_base.specs.declared.page.Page.{Page}
use Rattle.s38_vault.specs.Content.{Content}
use Rattle.s38_redo_log.specs.declared.layout.Layout.{Layout}
use Rattle.s38_redo_log.specs.declared.layout.Slot.{Slot}
use Rattle.s38_redo_log.specs.Coding.{home_is_used, is_store_label, is_up, key_in, page_in, word_in}

abbrev pub is_home : Layout → ℕ → Bool
is_home lay i = nat_le lay.first i && (nat_lt i lay.size && not (i == lay.hole))

-- the log lies before the homes, and has room for the most home numbers and their blocks
pub record IsLayout (lay : Layout) : Type 0 where
  pub room : 3 + lay.most / 132 + lay.most ≤ lay.first
  pub size : lay.first ≤ lay.size

-- a number of the log, packed 132 to a block
abbrev pub log_word : (ℕ → Block) → ℕ → ℕ
log_word f k = word_in (f (2 + k / 132)) (k % 132)

abbrev pub log_count : (ℕ → Block) → ℕ
log_count f = log_word f 0

-- the first block after the last block of home numbers that was begun
abbrev pub log_data : ℕ → ℕ
log_data n = 3 + n / 132

-- the log's entries from the one numbered j on: a home, and the block that is to be written there
abbrev pub entries_from : (ℕ → Block) → ℕ → ℕ → ℕ → List Slot
entries_from f at j zero = []
entries_from f at j (suc left) = record { home = log_word f (suc j); block = f (at + j) } ∷ entries_from f at (suc j) left

unfoldable pub log_of : (ℕ → Block) → List Slot
log_of f = entries_from f (log_data (log_count f)) 0 (log_count f)

-- the blocks once the entries are written, in order
abbrev pub entries_written : List Slot → (ℕ → Block) → ℕ → Block
entries_written [] f = f
entries_written (e ∷ es) f = entries_written es (put e.home e.block f)

abbrev pub targets : List Slot → ℕ → Bool
targets [] i = false
targets (e ∷ es) i = (i == e.home) || targets es i

-- the blocks once the log is replayed, if its gate is up
abbrev pub log_replayed : (ℕ → Block) → ℕ → Block
log_replayed f = cond (is_up (f 1)) (entries_written (log_of f) f) f

-- each entry's home is one, and no two entries have the same
abbrev pub AreHomes : Layout → List Slot → Type 0
AreHomes lay [] = Unit {0}
AreHomes lay (e ∷ es) = (is_home lay e.home ≡ true) × (targets es e.home ≡ false) × AreHomes lay es

pub record IsLog (lay : Layout) (es : List Slot) : Type 0 where
  pub some : 1 ≤ length es
  pub most : length es ≤ lay.most
  pub homes : AreHomes lay es

-- the homes hold exactly this content
pub record HomesHold (lay : Layout) (f : ℕ → Block) (m : Content) : Type 0 where
  pub kept : (i : ℕ) → is_home lay i ≡ true → home_is_used (f i) ≡ true → get m (key_in (f i)) ≡ Some (page_in (f i))
  pub found : (k : Key) (p : Page) → get m k ≡ Some p → (i : ℕ) × (is_home lay i ≡ true) × (home_is_used (f i) ≡ true) × (key_in (f i) ≡ k) × (page_in (f i) ≡ p)
  pub once : (i j : ℕ) → is_home lay i ≡ true → is_home lay j ≡ true → home_is_used (f i) ≡ true → home_is_used (f j) ≡ true → key_in (f i) ≡ key_in (f j) → i ≡ j

-- the blocks mount without refusal, to this content
pub record RecoversTo (lay : Layout) (f : ℕ → Block) (m : Content) : Type 0 where
  pub label : is_store_label (f 0) ≡ true
  pub log : is_up (f 1) ≡ true → (log_count f ≤ lay.most) × IsLog lay (log_of f)
  pub holds : HomesHold lay (log_replayed f) m
