-- What holds of the blocks between two phases of a put.
use Rattle.std.specs.Prelude.{◌≡◌, ◌⊎◌, ◌==◌, ◌&&◌, cond, ℕ, ◌+◌, ◌-◌, ◌<◌, ◌≤◌, nat_le, nat_lt, Bool, true, false, List, [], length, get_or}
use Rattle.s38_disk.specs.declared.block.Block.{Block}
use Rattle.s38_disk.specs.Blocks.{DiskState, IsCrashImage}
use Rattle.s38_disk.specs.Moves.{IsSynced}
use Rattle.s38_vault.specs.Content.{Content}
use Rattle.s38_redo_log.specs.declared.layout.Layout.{Layout}
use Rattle.s38_redo_log.specs.declared.layout.Slot.{Slot}
use Rattle.s38_redo_log.specs.Coding.{is_store_label, is_up}
use Rattle.s38_redo_log.specs.Store.{HomesHold, IsLog, RecoversTo, entries_written, is_home, log_count, log_data, log_of, log_word}

abbrev pub in_log : Layout → ℕ → Bool
in_log lay i = nat_le 2 i && nat_lt i lay.first

abbrev pub gate : ℕ → Bool
gate i = i == 1

-- the gate is down, and the homes hold the content
pub record Idle (lay : Layout) (f : ℕ → Block) (m : Content) : Type 0 where
  pub label : is_store_label (f 0) ≡ true
  pub down : is_up (f 1) ≡ false
  pub holds : HomesHold lay f m

-- The log is whole, and leads from the first content to the second. The gate may be up or down.
pub record LogWritten (lay : Layout) (es : List Slot) (f : ℕ → Block) (m n : Content) : Type 0 where
  pub label : is_store_label (f 0) ≡ true
  pub count : log_count f ≡ length es
  pub log : log_of f ≡ es
  pub good : IsLog lay es
  pub before : HomesHold lay f m
  pub behind : HomesHold lay (entries_written es f) n

abbrev pub block_between : ℕ → ℕ → ℕ → Bool
block_between low high i = nat_le low i && nat_lt i high

abbrev pub slot_at : List Slot → ℕ → Slot
slot_at slots k = get_or slots k (record { home = 0; block = record { bytes = [] } })

-- the number at a place of the log: first how many there are, then the homes
abbrev pub log_number_at : List Slot → ℕ → ℕ
log_number_at slots k = cond (k == 0) (length slots) (cond (nat_le k (length slots)) (slot_at slots (k - 1)).home 0)

-- the numbers of the log are written
abbrev pub HasNumbers : List Slot → (ℕ → Block) → Type 0
HasNumbers slots f = (k : ℕ) → k ≤ length slots → log_word f k ≡ log_number_at slots k

-- the blocks of the log are written
abbrev pub HasData : List Slot → (ℕ → Block) → Type 0
HasData slots f = (k : ℕ) → k < length slots → f (log_data (length slots) + k) ≡ (slot_at slots k).block

abbrev pub AreBelow : ℕ → List Slot → Type 0
AreBelow size slots = (k : ℕ) → k < length slots → (slot_at slots k).home < size

-- before a put: nothing is pending, the gate is down, the homes hold m, and with the slots written n
pub record MayPut (lay : Layout) (es : List Slot) (s : DiskState) (m n : Content) : Type 0 where
  pub settled : IsSynced s
  pub rests : Idle lay s.now m
  pub behind : HomesHold lay (entries_written es s.now) n

-- a crash leaves all of the put or nothing of it
pub record IsAllOrNone (lay : Layout) (es : List Slot) (s u : DiskState) : Type 0 where
  pub each : (m n : Content) → MayPut lay es s m n → (g : ℕ → Block) → IsCrashImage u g → RecoversTo lay g m ⊎ RecoversTo lay g n

-- after a put that went well
pub record IsPut (lay : Layout) (es : List Slot) (s t : DiskState) : Type 0 where
  pub settled : IsSynced t
  pub homes : (i : ℕ) → is_home lay i ≡ true → t.now i ≡ entries_written es s.now i
  pub rests : (m n : Content) → MayPut lay es s m n → Idle lay t.now n

-- The log is whole and leads to that content, whatever its homes hold.
pub record CanReplay (lay : Layout) (es : List Slot) (f : ℕ → Block) (n : Content) : Type 0 where
  pub label : is_store_label (f 0) ≡ true
  pub count : log_count f ≡ length es
  pub log : log_of f ≡ es
  pub good : IsLog lay es
  pub behind : HomesHold lay (entries_written es f) n

-- before a log is replayed: nothing is pending, the gate is up
pub record MayRedo (lay : Layout) (es : List Slot) (s : DiskState) (n : Content) : Type 0 where
  pub settled : IsSynced s
  pub up : is_up (s.now 1) ≡ true
  pub ready : CanReplay lay es s.now n

-- a crash leaves the content that the log leads to
pub record IsRedone (lay : Layout) (es : List Slot) (s u : DiskState) : Type 0 where
  pub each : (n : Content) → MayRedo lay es s n → (g : ℕ → Block) → IsCrashImage u g → RecoversTo lay g n

pub record HasRedone (lay : Layout) (es : List Slot) (s t : DiskState) : Type 0 where
  pub settled : IsSynced t
  pub homes : (i : ℕ) → is_home lay i ≡ true → t.now i ≡ entries_written es s.now i
  pub rests : (n : Content) → MayRedo lay es s n → Idle lay t.now n
