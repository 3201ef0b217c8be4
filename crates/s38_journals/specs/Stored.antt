-- How entries are kept: one after another, and of each where it ends.
use Rattle.std.specs.Prelude.{ℕ, ◌+◌, ◌-◌, ◌*◌, ◌≤◌, ◌==◌, ◌&&◌, Bool, IsTrue, nat_le, List, [], ◌∷◌, ◌++◌, length, take, drop, if◌then◌else◌, slice_index}
use Rattle.byteorder.specs.Endian.{big_number}
use Rattle.s38_journals.specs.Entries.{JournalRecord}
use Rattle.s38_journals.specs.declared.entry.EntryKind.{EntryKind}
use Rattle.s38_journals.specs.declared.entry.EntryKind.TheVariants.{Insert, Update, Delete, Commit, Decommit}

-- pieces of bytes, and how many further bytes of them take no memory
pub record KeptPieces : Type 0 where
  pub spare : ℕ
  pub pieces : List (List ℕ)

-- the pieces that are cut from bytes: the first from a start to its end, the others each from where the one before ends
abbrev pub pieces_cut : ℕ → List ℕ → List ℕ → List (List ℕ)
pieces_cut start [] bytes = []
pieces_cut start (end ∷ ends) bytes = take (end - start) (drop start bytes) ∷ pieces_cut end ends bytes

-- the bytes of all pieces, one after another
abbrev pub joined : List (List ℕ) → List ℕ
joined [] = []
joined (piece ∷ pieces) = piece ++ joined pieces

-- from a start each has at least 41 bytes, and the last ends where the bytes do
abbrev pub are_ends : ℕ → List ℕ → ℕ → Bool
are_ends start [] len = start == len
are_ends start (end ∷ ends) len = nat_le (start + 41) end && are_ends end ends len

-- the bytes and their ends have room for the spare bytes, in pieces of at least 41
pub record IsKept (spare : ℕ) (ends : List ℕ) (places count len byte_room : ℕ) : Type 0 where
  pub whole : IsTrue (are_ends 0 ends len)
  pub small : len + spare ≤ 16777216
  pub room : len + spare ≤ byte_room
  pub ends_room : 41 * count + spare ≤ 41 * places

-- one more piece; the spare number falls by its length
abbrev pub with_piece : KeptPieces → List ℕ → KeptPieces
with_piece kept piece = record { spare = kept.spare - length piece; pieces = kept.pieces ++ piece ∷ [] }

-- the kind of a number
abbrev pub entry_kind_of : ℕ → EntryKind
entry_kind_of code =
    if code == 1 then Insert
    else (if code == 2 then Update
    else (if code == 3 then Delete
    else (if code == 4 then Commit
    else Decommit)))

-- what the bytes of an entry say
unfoldable pub entry_of : List ℕ → JournalRecord
entry_of bytes = record {
  unit = big_number 8 (drop 12 bytes);
  process = big_number 4 (drop 20 bytes);
  kind = entry_kind_of (slice_index bytes 24);
  object = record { 0 = big_number 8 (drop 25 bytes) };
  ordinal = big_number 4 (drop 33 bytes);
  before = take (big_number 2 (drop 37 bytes)) (drop 41 bytes);
  after = drop (big_number 2 (drop 37 bytes)) (drop 41 bytes);
}
