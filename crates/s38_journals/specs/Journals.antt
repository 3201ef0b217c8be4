-- A journal is the list of its entries, numbered from 1 on by their sequence.
use Rattle.std.specs.Prelude.{IsTrue, ◌≡◌, ℕ, zero, suc, ◌+◌, ◌-◌, ◌*◌, ◌≤◌, ◌&&◌, Bool, true, nat_le, nat_lt, Option, Some, None, List, [], ◌∷◌, ◌++◌, length, map, max, sum_by, if◌then◌else◌, option_map, slice_get}
use Rattle.s38_journals.specs.Entries.{JournalRecord, entry_image, fits_head, journal_entry_len, may_be_at}
use Rattle.s38_journals.specs.Stored.{entry_of}
use Rattle.s38_journals.specs.declared.fault.JournalFault.{JournalFault}
use Rattle.s38_journals.specs.declared.fault.JournalFault.TheVariants.{Full}

-- its entries, how many further bytes of entries take no memory, and how many bytes were not forced to the disk
pub record JournalList : Type 0 where
  pub spare : ℕ
  pub unforced : ℕ
  pub entries : List JournalRecord

-- the length of all entries together
abbrev pub entries_len : List JournalRecord → ℕ
entries_len entries = sum_by journal_entry_len entries

-- the entry of a sequence, if there is one
abbrev pub journal_entry_at : List JournalRecord → ℕ → Option JournalRecord
journal_entry_at entries zero = None
journal_entry_at entries (suc k) = slice_get entries k

-- the bytes of the entry of a sequence, if there is one
abbrev pub entry_bytes_at : List JournalRecord → ℕ → Option (List ℕ)
entry_bytes_at entries zero = None
entry_bytes_at entries (suc k) = option_map (entry_image (suc k)) (slice_get entries k)

-- the bytes of all entries, one after another, each with its sequence, counted from a first on
abbrev pub journal_image : ℕ → List JournalRecord → List ℕ
journal_image sequence [] = []
journal_image sequence (e ∷ entries) = entry_image sequence e ++ journal_image (suc sequence) entries

-- what a change takes: its own bytes, and of each open unit the entry that will end it, which is a head alone
abbrev pub bytes_wanted : ℕ → ℕ → ℕ
bytes_wanted bytes units = bytes + 41 * units

-- the entries and what a change takes would have more than 16,777,216 bytes
abbrev pub room_refusal : JournalList → ℕ → ℕ → Option JournalFault
room_refusal journal bytes units =
    if nat_lt 16777216 (entries_len journal.entries + bytes_wanted bytes units) then Some Full else None

-- there is room for that
abbrev pub journal_with_room : JournalList → ℕ → ℕ → JournalList
journal_with_room journal bytes units = record journal { spare = max journal.spare (bytes_wanted bytes units) }

-- one more entry, which is not forced yet
abbrev pub appended : JournalList → JournalRecord → JournalList
appended journal entry = record {
  spare = journal.spare - journal_entry_len entry;
  unforced = journal.unforced + journal_entry_len entry;
  entries = journal.entries ++ entry ∷ [];
}

-- an entry may be written next, and there is room for it
abbrev pub can_write : JournalList → JournalRecord → Bool
can_write journal entry = may_be_at (length journal.entries + 1) entry && nat_le (journal_entry_len entry) journal.spare

-- one more entry; one that may not come next, or has no room, leaves the journal as it is
abbrev pub journal_with : JournalList → JournalRecord → JournalList
journal_with journal entry = if can_write journal entry then appended journal entry else journal

-- all entries are forced
abbrev pub forced : JournalList → JournalList
forced journal = record journal { unforced = 0 }

-- each of the entries may be at its sequence, counted from a first on, and its numbers fit
abbrev pub may_all_be_from : ℕ → List JournalRecord → Bool
may_all_be_from sequence [] = true
may_all_be_from sequence (e ∷ entries) = (may_be_at sequence e && fits_head e) && may_all_be_from (suc sequence) entries

-- the bytes of the entries, each with its sequence, counted from a first on
abbrev pub images : ℕ → List JournalRecord → List (List ℕ)
images sequence [] = []
images sequence (e ∷ entries) = entry_image sequence e ∷ images (suc sequence) entries

-- a journal as it is kept: its pieces are the images of what they say
pub record IsJournal (unforced : ℕ) (pieces : List (List ℕ)) : Type 0 where
  pub images : pieces ≡ images 1 (map entry_of pieces)
  pub stand : IsTrue (may_all_be_from 1 (map entry_of pieces))
  pub within : unforced ≤ sum_by length pieces
