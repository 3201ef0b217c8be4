-- The outside of a call: what is read, what is written, and the disk.
use Rattle.std.specs.Prelude.{◌≡◌, ℕ, List, Option}
use Rattle.std.specs.Io.KnownBytes.{Keeps}
use Rattle.s38_disk.specs.Disk.{DiskView}

-- what is left to read, and how often the source has failed; what is written, and how often the sink has failed; and the
-- disk
pub record Outside : Type 0 where
  pub left : Option (List ℕ)
  pub taken : ℕ
  pub written : Option (List ℕ)
  pub put : ℕ
  pub disk : DiskView

abbrev pub outside : Option (List ℕ) → ℕ → Option (List ℕ) → ℕ → DiskView → Outside
outside left taken written put disk = record { left = left; taken = taken; written = written; put = put; disk = disk }

-- nothing was read
abbrev pub Unread : Outside → Outside → Type 0
Unread old new = Keeps old.left new.left

-- the disk is as it was
abbrev pub Untouched : Outside → Outside → Type 0
Untouched old new = new.disk ≡ old.disk
