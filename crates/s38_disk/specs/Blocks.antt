-- What is on a disk, and what a crash may leave: blocks at first, the calls since, and the state after each call.
use Rattle.std.specs.Prelude.{◌≡◌, ◌==◌, ℕ, Bool, true, false, List, [], ◌∷◌, cond, replicate, get_or}
use Rattle.s38_disk.specs.declared.block.Block.{Block}
use Rattle.s38_disk.specs.declared.block.Call.{Call}
use Rattle.s38_disk.specs.declared.block.Call.TheVariants.{Wrote, Synced}

-- what a read gives, what was there at the last good sync, and which blocks were written since
pub record DiskState : Type 0 where
  pub now : ℕ → Block
  pub durable : ℕ → Block
  pub pending : ℕ → Bool

-- one block replaced
abbrev pub put : ℕ → Block → (ℕ → Block) → ℕ → Block
put at block blocks i = cond (i == at) block (blocks i)

-- all is durable
abbrev pub synced_state : (ℕ → Block) → DiskState
synced_state blocks = record { now = blocks; durable = blocks; pending = λ i. false }

abbrev pub wrote : DiskState → ℕ → Block → DiskState
wrote s at block =
    record {
      now = put at block s.now;
      durable = s.durable;
      pending = λ i. cond (i == at) true (s.pending i);
    }

-- a write makes a block pending; a good sync makes all durable; a failed sync does nothing
abbrev pub stepped : DiskState → Call → DiskState
stepped s (Wrote at block) = wrote s at block
stepped s (Synced true) = synced_state s.now
stepped s (Synced false) = s

abbrev pub after_calls : DiskState → List Call → DiskState
after_calls s [] = s
after_calls s (call ∷ calls) = after_calls (stepped s call) calls

-- a crash in that state may leave this: any bytes in a pending block, and each other block as it reads
pub record IsCrashImage (s : DiskState) (image : ℕ → Block) : Type 0 where
  pub same : (i : ℕ) → s.pending i ≡ false → image i ≡ s.now i

-- a block that holds one byte throughout
abbrev pub full_of : ℕ → Block
full_of byte = record { bytes = replicate 528 byte }

-- the blocks of a list, and zeros past its end
abbrev pub blocks_of_list : List Block → ℕ → Block
blocks_of_list blocks i = get_or blocks i (full_of 0)
