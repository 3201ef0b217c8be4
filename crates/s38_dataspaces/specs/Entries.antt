-- Entries of one width, numbered from 1 on by their ordinals: each is its bytes, or it is deleted.
use Rattle.std.specs.Prelude.{◌≡◌, ℕ, zero, suc, ◌+◌, ◌-◌, ◌*◌, ◌<◌, ◌≤◌, Bool, true, Option, Some, None, List, [], ◌∷◌, ◌++◌, ◌==◌, length, take, drop, if◌then◌else◌, slice_get, slice_set}
use Rattle.std.specs.Option.{option_flatten}

-- the bytes of an entry, or None where it is deleted
abbrev pub DataEntry : Type 0
DataEntry = Option (List ℕ)

-- the entry that an ordinal names: None where it is deleted, and where there is no such ordinal
abbrev pub entry_at : List DataEntry → ℕ → DataEntry
entry_at entries zero = None
entry_at entries (suc k) = option_flatten (slice_get entries k)

-- an entry has so many bytes, where it is not deleted
abbrev pub has_width : ℕ → DataEntry → Bool
has_width width None = true
has_width width (Some entry) = length entry == width

-- one more entry, under the next ordinal
abbrev pub with_new_entry : List DataEntry → List ℕ → List DataEntry
with_new_entry entries entry = entries ++ Some entry ∷ []

-- the entries with another one under an ordinal
abbrev pub put_at : List DataEntry → ℕ → DataEntry → List DataEntry
put_at entries at entry = slice_set entries (at - 1) entry

-- what is stored: of each ordinal whether its entry is present, and the bytes of all, one after another
abbrev pub entries_stored : ℕ → List Bool → List ℕ → List DataEntry
entries_stored width [] bytes = []
entries_stored width (stands ∷ flags) bytes = (if stands then Some (take width bytes) else None) ∷ entries_stored width flags (drop width bytes)

-- entries of one width; while there is a spare place, one more takes no memory
pub record KeptEntries : Type 0 where
  pub width : ℕ
  pub spare : ℕ
  pub entries : List DataEntry

-- storage of entries of one width: all their bytes are there, and while there is a spare place, there is room for
-- one more
pub record IsWhole (width spare flags flag_room bytes byte_room : ℕ) : Type 0 where
  pub whole : bytes ≡ flags * width
  pub flag : 0 < spare → flags < flag_room
  pub room : 0 < spare → bytes + width ≤ byte_room
