-- A disk over a file.
use Rattle.std.specs.Prelude.{◌≡◌, ◌⊎◌, ◌+◌, ◌-◌, ◌++◌, ℕ, Bool, IsFalse, List, length, replicate, take, if◌then◌else◌}
use Rattle.s38_base.specs.Faults.{counted}
use Rattle.s38_disk.specs.Disk.{DiskView}
use Rattle.s38_disk.specs.Disk.Past.{Untold}

-- how many writes and syncs there were, how many calls failed, and whether no sync did
pub record FileStore : Type 0 where
  pub moment : ℕ
  pub faults : ℕ
  pub sound : Bool

-- it has 131,072 blocks, and does not tell its past
abbrev pub file_view : FileStore → DiskView
file_view store = record { size = 131072; past = Untold store.moment; faults = store.faults }

-- one more write or sync
abbrev pub next_moment : FileStore → FileStore
next_moment store = record { moment = store.moment + 1; faults = store.faults; sound = store.sound }

-- a call is counted, or it failed and left no trace
abbrev pub Counts : FileStore → FileStore → Bool → Type 0
Counts old new ok = (new ≡ next_moment old) ⊎ ((new ≡ old) × IsFalse ok)

-- a call that failed is one more fault
abbrev pub after_answer : FileStore → Bool → FileStore
after_answer store failed =
    record {
      moment = store.moment;
      faults = if failed then counted store.faults else store.faults;
      sound = store.sound;
    }

-- bytes up to a place, and zeros from there on
abbrev pub with_zeros : ℕ → List ℕ → List ℕ
with_zeros at bytes = take at bytes ++ replicate (length bytes - at) 0
