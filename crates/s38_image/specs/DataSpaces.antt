-- The body of a data space.
use Rattle.std.specs.Prelude.{ℕ, zero, suc, Bool, false, ◌||◌, ◌==◌, not, List, Some, None}
use Rattle.std.specs.List.{list_all}
use Rattle.s38_base.specs.declared.attr.Attr.{Attr}
use Rattle.s38_codec.specs.Codec.{Codec, byte, byte_is_zero, bytes, copies, dependent_pair, only, seen}
use Rattle.s38_codec.specs.Formats.{list_of, short_list, u64}
use Rattle.s38_dataspaces.specs.Entries.{DataEntry}
use Rattle.s38_dataspaces.specs.Table.{are_fields, entry_len}
use Rattle.s38_dataspaces.specs.Values.{have_values}
use Rattle.s38_image.specs.Scalars.{attr}

-- 1 and an entry, or 0 and as many zeros where it is deleted
abbrev pub slot_by : ℕ × List ℕ → DataEntry
slot_by (zero, entry) = None
slot_by (suc n, entry) = Some entry

abbrev pub slot_parts : ℕ → DataEntry → ℕ × List ℕ
slot_parts width None = (0, copies width 0)
slot_parts width (Some entry) = (1, entry)

abbrev pub is_slot : List Attr → ℕ × List ℕ → Bool
is_slot fields (zero, entry) = list_all byte_is_zero entry
is_slot fields (suc zero, entry) = have_values fields entry
is_slot fields (suc (suc n), entry) = false

-- the numeric fields of an entry have values
abbrev pub slot : List Attr → Codec DataEntry
slot fields = seen slot_by (slot_parts (entry_len fields)) (only (is_slot fields) (dependent_pair byte (λ _. bytes (entry_len fields))))

-- without a port no entry of a journal is counted in
abbrev pub is_sequence : ℕ → ℕ → Bool
is_sequence port sequence = not (port == 0) || (sequence == 0)

abbrev pub DataParts : Type 0
DataParts = ℕ × (ℕ × (List Attr × List DataEntry))

-- the journal port or 0, the last journal entry that is counted in, the fields, and the entries by their ordinals
abbrev pub data_space : Codec DataParts
data_space =
    dependent_pair u64 (λ port. dependent_pair (only (is_sequence port) u64) (λ _. dependent_pair (only are_fields (short_list attr)) (λ fields. list_of (slot fields))))
