-- The body of an index.
use Rattle.std.specs.Prelude.{ℕ, Bool, true, ◌&&◌, List, [], ◌∷◌, nat_le}
use Rattle.s38_codec.specs.Codec.{Codec, byte, dependent_pair, only, seen}
use Rattle.s38_codec.specs.Formats.{list_of, short_text}
use Rattle.s38_base.specs.declared.words.Relation.TheVariants.{Lo}
use Rattle.s38_indexes.specs.Entries.{EntryIndex, IndexEntry, is_in_relation}

abbrev pub is_index : ℕ → Bool
is_index longest = nat_le 1 longest && nat_le longest 120

-- each comes before the next
abbrev pub entries_rise : List IndexEntry → Bool
entries_rise [] = true
entries_rise (entry ∷ []) = true
entries_rise (entry ∷ next ∷ entries) = is_in_relation Lo next entry && entries_rise (next ∷ entries)

abbrev pub index_by : ℕ × List IndexEntry → EntryIndex
index_by x = record { longest = x.0; entries = x.1 }

abbrev pub index_parts : EntryIndex → ℕ × List IndexEntry
index_parts i = (i.longest, i.entries)

-- how long an entry may be, 1 to 120 bytes, and the entries, each after its length
abbrev pub index : Codec EntryIndex
index = seen index_by index_parts (dependent_pair (only is_index byte) (λ longest. only entries_rise (list_of (short_text longest))))
