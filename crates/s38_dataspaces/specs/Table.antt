-- A data space is the attributes of its fields and its entries, all of the fields' length.
use Rattle.std.specs.Prelude.{◌≡◌, ℕ, ◌+◌, ◌*◌, ◌≤◌, ◌==◌, Bool, true, IsTrue, not, ◌&&◌, nat_le, Some, None, List, [], ◌∷◌, ◌++◌, length, sum_by, if◌then◌else◌}
use Rattle.std.specs.List.{list_all}
use Rattle.s38_base.specs.Attributes.{is_bounded, is_pointer_attr, length_of}
use Rattle.s38_base.specs.declared.attr.Attr.{Attr}
use Rattle.s38_dataspaces.specs.Entries.{DataEntry, put_at, with_new_entry}
use Rattle.s38_dataspaces.specs.Values.{have_values, is_proper}

-- its fields, its entries from ordinal 1 on, and how many further entries take no memory
pub record DataTable : Type 0 where
  pub fields : List Attr
  pub spare : ℕ
  pub entries : List DataEntry

-- how many bytes an entry has: those of all fields
abbrev pub entry_len : List Attr → ℕ
entry_len fields = sum_by length_of fields

-- what may be a field: a scalar that keeps its bounds
abbrev pub is_field : Attr → Bool
is_field attr = is_bounded attr && not (is_pointer_attr attr)

-- 1 to 256 fields, of at most 4,096 bytes together
abbrev pub are_fields : List Attr → Bool
are_fields fields =
    list_all is_field fields && (nat_le 1 (length fields) && (nat_le (length fields) 256 && nat_le (entry_len fields) 4096))

-- the bytes of the image: of its port and its sequence 8 each, 2 for the number of fields and 3 a field, 4 for the
-- number of ordinals, and of each ordinal a byte and an entry
abbrev pub data_space_image_size : List Attr → ℕ → ℕ
data_space_image_size fields ordinals = 22 + 3 * length fields + ordinals * (1 + entry_len fields)

-- one more entry, under the next ordinal; a spare place is used up
abbrev pub inserted : DataTable → List ℕ → DataTable
inserted table entry = record table { spare = 0; entries = with_new_entry table.entries entry }

-- one more ordinal, whose entry is deleted
abbrev pub inserted_deleted : DataTable → DataTable
inserted_deleted table = record table { spare = 0; entries = table.entries ++ None ∷ [] }

-- another entry under an ordinal, or None to delete it
abbrev pub with_entry_changed : DataTable → ℕ → DataEntry → DataTable
with_entry_changed table at entry = record table { entries = put_at table.entries at entry }

-- an entry of these fields, or None: it has their length, and its numeric fields have values
abbrev pub is_entry_of : List Attr → DataEntry → Bool
is_entry_of fields None = true
is_entry_of fields (Some entry) = (length entry == entry_len fields) && have_values fields entry

-- what may be put back: an entry of the fields, or None, under an ordinal of the data space
abbrev pub may_restore : DataTable → ℕ → DataEntry → Bool
may_restore table at entry = (nat_le 1 at && nat_le at (length table.entries)) && is_entry_of table.fields entry

-- an entry put back under an ordinal; what is no entry of the data space leaves it as it is
abbrev pub restored : DataTable → ℕ → DataEntry → DataTable
restored table at entry = if may_restore table at entry then with_entry_changed table at entry else table

-- a data space as it is kept: the width of its entries, the size of its image, and its entries
pub record IsDataSpace (fields : List Attr) (width size : ℕ) (entries : List DataEntry) : Type 0 where
  pub fields_fit : IsTrue (are_fields fields)
  pub width_is : width ≡ entry_len fields
  pub size_is : size ≡ data_space_image_size fields (length entries)
  pub small : size ≤ 16777216
  pub proper : IsTrue (list_all (is_proper fields) entries)
