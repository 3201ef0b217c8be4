-- What an entry of a journal says, and the bytes that say it.
use Rattle.std.specs.Prelude.{◌==◌, ◌&&◌, ◌||◌, not, nat_lt, nat_le, ℕ, ◌+◌, ◌^◌, Bool, true, false, List, ◌∷◌, ◌++◌, length}
use Rattle.byteorder.specs.Endian.{big_bytes}
use Rattle.s38_base.specs.declared.id.ObjNum.{ObjNum}
use Rattle.s38_journals.specs.declared.entry.EntryKind.{EntryKind}
use Rattle.s38_journals.specs.declared.entry.EntryKind.TheVariants.{Insert, Update, Delete, Commit, Decommit}
use Rattle.s38_journals.specs.declared.entry.JournalEntry.{JournalEntry}

-- the unit of changes that it belongs to, 0 for none; the process; what was done to which ordinal of which data
-- space; and the data before and after
pub record JournalRecord : Type 0 where
  pub unit : ℕ
  pub process : ℕ
  pub kind : EntryKind
  pub object : ObjNum
  pub ordinal : ℕ
  pub before : List ℕ
  pub after : List ℕ

-- the entry that is handed over
abbrev pub logged_entry : JournalEntry → JournalRecord
logged_entry e = record {
  unit = e.unit;
  process = e.process;
  kind = e.kind;
  object = e.object;
  ordinal = e.ordinal;
  before = e.before.now;
  after = e.after.now;
}

-- the number of a kind
abbrev pub entry_kind_code : EntryKind → ℕ
entry_kind_code Insert = 1
entry_kind_code Update = 2
entry_kind_code Delete = 3
entry_kind_code Commit = 4
entry_kind_code Decommit = 5

-- an entry ends a unit
abbrev pub is_end : EntryKind → Bool
is_end Commit = true
is_end Decommit = true
is_end _ = false

-- the bytes of an entry: a head of 41, and the data before and after
abbrev pub journal_entry_len : JournalRecord → ℕ
journal_entry_len e = 41 + length e.before + length e.after

-- the head, its numbers with the highest byte first: the length of the whole, the sequence, the unit, the process, the
-- kind, the data space, the ordinal, and the lengths of the data before and after
unfoldable pub head : ℕ → JournalRecord → List ℕ
head sequence e =
    big_bytes 4 (journal_entry_len e) ++ (big_bytes 8 sequence ++ (big_bytes 8 e.unit ++ (big_bytes 4 e.process ++ (entry_kind_code e.kind
    ∷ (big_bytes 8 e.object.0 ++ (big_bytes 4 e.ordinal ++ (big_bytes 2 (length e.before) ++ big_bytes 2 (length e.after))))))))

-- the bytes of the entry of a sequence
abbrev pub entry_image : ℕ → JournalRecord → List ℕ
entry_image sequence e = head sequence e ++ (e.before ++ e.after)

-- an entry may be at a sequence: its unit began there or before, the end of a unit names no data space and no
-- ordinal, and the data have at most 65,535 bytes each
abbrev pub may_be_at : ℕ → JournalRecord → Bool
may_be_at sequence e =
    (nat_le e.unit sequence && (not (is_end e.kind) || (e.object.0 == 0 && e.ordinal == 0)))
    && (nat_le (length e.before) 65535 && nat_le (length e.after) 65535)

-- the numbers of an entry fit their places in the head
abbrev pub fits_head : JournalRecord → Bool
fits_head e =
    (nat_lt e.unit (2 ^ 64) && nat_lt e.process (2 ^ 32)) && (nat_lt e.object.0 (2 ^ 64) && nat_lt e.ordinal (2 ^ 32))
