-- The body of a journal space: its entries, one after another, as many as fill it.
use Rattle.std.specs.Prelude.{ℕ, Bool, ◌&&◌, ◌==◌, List, length, nat_le}
use Rattle.s38_codec.specs.Codec.{Codec, byte, bytes, dependent_pair, only, seen}
use Rattle.s38_codec.specs.Formats.{Spelling, filled_by, u16, u32, u64}
use Rattle.s38_image.specs.Headers.{object_number_form}
use Rattle.s38_base.specs.declared.id.ObjNum.{ObjNum}
use Rattle.s38_journals.specs.Entries.{JournalRecord, entry_kind_code, journal_entry_len, may_be_at}
use Rattle.s38_journals.specs.Stored.{entry_kind_of}
use Rattle.s38_journals.specs.declared.entry.EntryKind.{EntryKind}

-- the numbers of the kinds of entries are 1 to 5
abbrev pub is_entry_kind : ℕ → Bool
is_entry_kind n = nat_le 1 n && nat_le n 5

abbrev pub entry_kind : Codec EntryKind
entry_kind = seen entry_kind_of entry_kind_code (only is_entry_kind byte)

abbrev pub EntryFields : Type 0
EntryFields = ℕ × (ℕ × (ℕ × (ℕ × (EntryKind × (ObjNum × (ℕ × (ℕ × (ℕ × (List ℕ × List ℕ)))))))))

abbrev pub entry_by : EntryFields → JournalRecord
entry_by (len, (sequence, (unit, (process, (kind, (object_number_form, (ordinal, (n, (m, (before, after)))))))))) =
    record { unit = unit; process = process; kind = kind; object = object_number_form; ordinal = ordinal; before = before; after = after }

abbrev pub entry_fields : ℕ → JournalRecord → EntryFields
entry_fields sequence e =
    (journal_entry_len e, (sequence, (e.unit, (e.process, (e.kind, (e.object, (e.ordinal, (length e.before, (length e.after, (e.before, e.after))))))))))

-- the length is that of the whole, the sequence is the entry's, and the entry may have it
abbrev pub is_entry : ℕ → EntryFields → Bool
is_entry sequence x = ((x.0 == journal_entry_len (entry_by x)) && (x.1.0 == sequence)) && may_be_at sequence (entry_by x)

abbrev pub entry_format : Codec EntryFields
entry_format =
    dependent_pair u32 (λ _. dependent_pair u64 (λ _. dependent_pair u64 (λ _. dependent_pair u32 (λ _. dependent_pair entry_kind (λ _. dependent_pair object_number_form (λ _. dependent_pair u32 (λ _.
    dependent_pair u16 (λ before. dependent_pair u16 (λ after. dependent_pair (bytes before) (λ _. bytes after))))))))))

abbrev pub entry : ℕ → Codec JournalRecord
entry sequence = seen entry_by (entry_fields sequence) (only (is_entry sequence) entry_format)

-- the sequences count from 1 on
abbrev pub journal : Spelling (List JournalRecord)
journal = filled_by entry 1
