-- The private rows of an object: users rise, and each has a right.
use Rattle.std.specs.Prelude.{◌≢◌, ◌<◌, ℕ, ◌==◌, Bool, false, List, [], ◌∷◌, ◌++◌, Option, Some, None, find, nat_lt, slice_get, suc, if◌then◌else◌}
use Rattle.s38_base.specs.declared.id.ObjNum.{ObjNum}
use Rattle.s38_base.specs.declared.rights.Rights.{Rights}
use Rattle.s38_base.specs.RightNames as rights
use Rattle.s38_rules.specs.declared.rows.PrivateRow.{PrivateRow}

-- the first of them, where there is one, is of a greater user
abbrev pub IsAbove : ℕ → List PrivateRow → Type 0
IsAbove user [] = Unit {0}
IsAbove user (row ∷ rows) = user < row.user.0

abbrev pub AreRows : List PrivateRow → Type 0
AreRows [] = Unit {0}
AreRows (row ∷ rows) = (row.rights.0 ≢ 0) × IsAbove row.user.0 rows × AreRows rows

-- ---- looking

abbrev pub rights_in : Option PrivateRow → ℕ
rights_in None = rights.no_rights
rights_in (Some row) = row.rights.0

abbrev pub is_row : ℕ → PrivateRow → Bool
is_row user row = row.user.0 == user

abbrev pub row_of : List PrivateRow → ℕ → ℕ
row_of rows user = rights_in (find (is_row user) rows)

-- ---- changing

-- the row of a user with these rights: none without a right
abbrev pub row_for : ObjNum → Rights → List PrivateRow
row_for user r = if r.0 == rights.no_rights then [] else record { user = user; rights = r } ∷ []

abbrev pub beside : ObjNum → PrivateRow → List PrivateRow → List PrivateRow
beside user row rows = if row.user.0 == user.0 then rows else row ∷ rows

-- the rows, with these rights of a user at the user's place
abbrev pub with_row : List PrivateRow → ObjNum → Rights → List PrivateRow
with_row [] user r = row_for user r
with_row (row ∷ rows) user r =
    if nat_lt row.user.0 user.0 then row ∷ with_row rows user r else row_for user r ++ beside user row rows

-- ---- places

-- how many rows are before that of a user
abbrev pub count_before : List PrivateRow → ObjNum → ℕ
count_before [] user = 0
count_before (row ∷ rows) user = if nat_lt row.user.0 user.0 then suc (count_before rows user) else 0

abbrev pub is_of_user : ObjNum → Option PrivateRow → Bool
is_of_user user None = false
is_of_user user (Some row) = row.user.0 == user.0

-- the row at a place is the user's
abbrev pub row_is_at : List PrivateRow → ℕ → ObjNum → Bool
row_is_at rows at user = is_of_user user (slice_get rows at)
