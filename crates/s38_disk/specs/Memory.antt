-- A disk in memory: what it keeps, which of its calls are to fail, and what it leaves at a crash.
use Rattle.std.specs.Prelude.{◌≡◌, ◌<◌, ◌==◌, ℕ, Bool, false, List, [], ◌∷◌, cond, length, take, if◌then◌else◌}
use Rattle.std.specs.List.{list_any}
use Rattle.s38_base.specs.Faults.{counted}
use Rattle.s38_disk.specs.declared.block.Block.{Block}
use Rattle.s38_disk.specs.declared.block.Call.{Call}
use Rattle.s38_disk.specs.declared.block.Call.TheVariants.{Wrote, Synced}
use Rattle.s38_disk.specs.Blocks.{DiskState, after_calls, blocks_of_list, full_of, synced_state}
use Rattle.s38_disk.specs.Disk.{DiskView}
use Rattle.s38_disk.specs.Disk.Past.{Told}

-- `failing` numbers the calls that are to fail, from 0 on; how many calls were made, and how many failed
pub record CallRecord : Type 0 where
  pub failing : List ℕ
  pub made : ℕ
  pub faults : ℕ

-- the next call is listed
abbrev pub fails_next : CallRecord → Bool
fails_next calls = list_any (λ n. n == calls.made) calls.failing

-- one more call was made, and it failed or not
abbrev pub after_call : CallRecord → Bool → CallRecord
after_call calls failed =
    record {
      failing = calls.failing;
      made = counted calls.made;
      faults = if failed then counted calls.faults else calls.faults;
    }

-- how many blocks there are, what they held at first, the writes and syncs since, and the record of the calls
pub record MemStore : Type 0 where
  pub size : ℕ
  pub first : List Block
  pub calls : List Call
  pub plan : CallRecord

-- a disk in memory tells its past
abbrev pub disk_view : MemStore → DiskView
disk_view store = record { size = store.size; past = Told store.first store.calls; faults = store.plan.faults }

-- the state at a moment
abbrev pub state_at : MemStore → ℕ → DiskState
state_at store moment = after_calls (synced_state (blocks_of_list store.first)) (take moment store.calls)

-- a write is of a block of the disk
abbrev pub IsWithin : ℕ → Call → Type 0
IsWithin size (Wrote at block) = at < size
IsWithin size (Synced good) = Unit {0}

abbrev pub AreWithin : ℕ → List Call → Type 0
AreWithin size [] = Unit {0}
AreWithin size (call ∷ calls) = IsWithin size call × AreWithin size calls

-- the present blocks are those of the state after all calls
pub record IsDisk (size : ℕ) (first blocks : List Block) (calls : List Call) : Type 0 where
  pub first_size : length first ≡ size
  pub now_size : length blocks ≡ size
  pub within : AreWithin size calls
  pub now : (i : ℕ) → blocks_of_list blocks i ≡ (after_calls (synced_state (blocks_of_list first)) calls).now i

-- the image of a state in which each pending block is old for fill 0, new for fill 1, and else full of the fill
abbrev pub image_by : ℕ → DiskState → ℕ → Block
image_by fill s i =
    if fill == 0 then s.durable i else (if fill == 1 then s.now i else cond (s.pending i) (full_of fill) (s.now i))

-- a sync that went well
abbrev pub is_good_sync : Call → Bool
is_good_sync (Wrote at block) = false
is_good_sync (Synced good) = good

-- nothing is pending
abbrev pub IsDurable : DiskState → Type 0
IsDurable s = (i : ℕ) → (s.pending i ≡ false) × (s.durable i ≡ s.now i)
