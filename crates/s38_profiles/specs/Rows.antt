-- Private rows, in order of user and object. A row without rights is none.
use Rattle.std.specs.Prelude.{◌≡◌, ℕ, ◌==◌, ◌&&◌, Option, Some, None, List, if◌then◌else◌}
use Rattle.std.specs.Map.{lookup, remove_entry}
use Rattle.std.specs.BTreeMap.{insert_entry, is_at}
use Rattle.std.specs.declared.cmp.Ordering.{Ordering}
use Rattle.s38_base.specs.declared.rights.Rights.{Rights}
use Rattle.s38_profiles.specs.declared.profile.RowKey.{RowKey}
use Rattle.s38_profiles.specs.contracts.profile.RowKeyOrd.TheImpl as row_key_ord

abbrev pub Rows : Type 0
Rows = List (RowKey × Rights)

abbrev pub row_key : ℕ → ℕ → RowKey
row_key user object = record { user = user; object = object }

-- the order of user and object
abbrev pub row_cmp : RowKey → RowKey → Ordering
row_cmp = (row_key_ord.ghosts).cmp

abbrev pub row_at : Rows → RowKey → Option Rights
row_at rows key = lookup (is_at (row_cmp key)) rows

-- the rows with these rights at a key
abbrev pub with_row : Rows → RowKey → Rights → Rows
with_row rows key rights =
    if rights.0 == 0 then remove_entry (is_at (row_cmp key)) rows else insert_entry row_cmp rows key rights

-- the row that these rights make
abbrev pub row_with : Rights → Option Rights
row_with rights = if rights.0 == 0 then None else Some rights

-- a key has this row afterwards, or none, and no other row changes
abbrev pub SetsRow : Rows → RowKey → Option Rights → Rows → Type 0
SetsRow rows key row after =
    (user object : ℕ) → row_at after (row_key user object) ≡ (if (key.user == user) && (key.object == object) then row else row_at rows (row_key user object))
