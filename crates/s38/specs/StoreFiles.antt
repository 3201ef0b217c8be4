-- The file of the store: which one it is, and whether another run may have it meanwhile.
use Rattle.std.specs.Prelude.{◌≡◌, ◌⊎◌, ℕ, Bool, true, List}
use Rattle.s38_disk.specs.Files.{FileStore}

-- a disk over a file that was just opened
abbrev pub fresh_store : FileStore
fresh_store = record { moment = 0; faults = 0; sound = true }

-- a fresh disk is over the file of the path, and the file is held where the store is looked at
pub record IsAttached {D : Type 0} (is_fresh : D → Type 0) (is_of : D → List ℕ → Type 0) (is_held : D → Type 0) (looks : Bool) (path : List ℕ) (disk : D) : Type 0 where
  pub fresh : is_fresh disk
  pub named : is_of disk path
  pub held : looks ≡ true → is_held disk

-- the file can't be opened; or the store is to be looked at, and another has the file
abbrev pub IsRefused : (List ℕ → Type 0) → (List ℕ → Type 0) → Bool → List ℕ → Type 0
IsRefused is_shut is_taken looks path = is_shut path ⊎ ((looks ≡ true) × is_taken path)
