-- What private rows are after the rights of one user were set.
use Rattle.std.proofs.Common.{◌≡◌, ◌≢◌, ℕ, ◌<◌, ◌≤◌, ◌==◌, true, false, cond, List, [], ◌∷◌, ◌++◌, take, drop, refl, sym, ◌∙◌, ap, subst, arith, length, suc}
use Rattle.std.proofs.lemmas.Bool.Decides.{nat_tests}
use Rattle.std.proofs.lemmas.List.{append-nil}
use Rattle.std.specs.Prelude.{Some, find, nat_lt, slice_get, slice_set, if◌then◌else◌}
use Rattle.s38_base.specs.declared.id.ObjNum.{ObjNum}
use Rattle.s38_base.specs.declared.rights.Rights.{Rights}
use Rattle.s38_rules.specs.declared.rows.PrivateRow.{PrivateRow}
use Rattle.s38_rules.specs.state.PrivateRows.{AreRows, IsAbove, beside, count_before, is_of_user, is_row, rights_in, row_for, row_is_at, row_of, with_row}

abbrev row_with : ObjNum → Rights → PrivateRow
row_with user r = record { user = user; rights = r }

none_for : (user : ObjNum) (r : Rights) → r.0 ≡ 0 → row_for user r ≡ []
none_for user r h = rw h refl

not_zero : (n : ℕ) → n ≢ 0 → (n == 0) ≡ false
not_zero n h = grind (arith, nat_tests)

one_for : (user : ObjNum) (r : Rights) → r.0 ≢ 0 → row_for user r ≡ row_with user r ∷ []
one_for user r h = rw (not_zero r.0 h) refl

-- no row, and none is needed
pub row_absent : (rows : List PrivateRow) (user : ObjNum) (r : Rights) → r.0 ≡ 0 → row_is_at rows (count_before rows user) user ≡ false → with_row rows user r ≡ rows
row_absent [] user r none off = none_for user r none
row_absent (row ∷ rows) user r none off =
    let rest = row_absent rows user r none in
    elim (nat_lt row.user.0 user.0) as (λ b. is_of_user user (slice_get (row ∷ rows) (cond b (suc (count_before rows user)) 0)) ≡ false → cond b (row ∷ with_row rows user r) (row_for user r ++ beside user row rows) ≡ row ∷ rows) [
      | true ↦ λ g. ap (λ (l : List PrivateRow). row ∷ l) (rest g)
      | false ↦ λ g. rw (none_for user r none, g) refl
    ] off

-- a row more
pub row_inserted : (rows : List PrivateRow) (user : ObjNum) (r : Rights) → r.0 ≢ 0 → row_is_at rows (count_before rows user) user ≡ false → with_row rows user r ≡ take (count_before rows user) rows ++ row_with user r ∷ drop (count_before rows user) rows
row_inserted [] user r some off = one_for user r some
row_inserted (row ∷ rows) user r some off =
    let rest = row_inserted rows user r some in
    elim (nat_lt row.user.0 user.0) as (λ b. is_of_user user (slice_get (row ∷ rows) (cond b (suc (count_before rows user)) 0)) ≡ false → cond b (row ∷ with_row rows user r) (row_for user r ++ beside user row rows)
    ≡ take (cond b (suc (count_before rows user)) 0) (row ∷ rows) ++ row_with user r ∷ drop (cond b (suc (count_before rows user)) 0) (row ∷ rows)) [
      | true ↦ λ g. ap (λ (l : List PrivateRow). row ∷ l) (rest g)
      | false ↦ λ g. rw (one_for user r some, g) refl
    ] off

-- a row less
pub row_removed : (rows : List PrivateRow) (user : ObjNum) (r : Rights) → r.0 ≡ 0 → row_is_at rows (count_before rows user) user ≡ true → with_row rows user r ≡ take (count_before rows user) rows ++ drop (suc (count_before rows user)) rows
row_removed [] user r none on = cc
row_removed (row ∷ rows) user r none on =
    let rest = row_removed rows user r none in
    elim (nat_lt row.user.0 user.0) as (λ b. is_of_user user (slice_get (row ∷ rows) (cond b (suc (count_before rows user)) 0)) ≡ true → cond b (row ∷ with_row rows user r) (row_for user r ++ beside user row rows)
    ≡ take (cond b (suc (count_before rows user)) 0) (row ∷ rows) ++ drop (suc (cond b (suc (count_before rows user)) 0)) (row ∷ rows)) [
      | true ↦ λ g. ap (λ (l : List PrivateRow). row ∷ l) (rest g)
      | false ↦ λ g. rw (none_for user r none, g) refl
    ] on

number_same : (a b : ℕ) → (a == b) ≡ true → a ≡ b
number_same a b h = grind (arith, nat_tests)

-- other rights in a row that is there
pub row_replaced : (rows : List PrivateRow) (user : ObjNum) (r : Rights) → r.0 ≢ 0 → row_is_at rows (count_before rows user) user ≡ true
    → with_row rows user r ≡ slice_set rows (count_before rows user) (row_with user r)
row_replaced [] user r some on = cc
row_replaced (row ∷ rows) user r some on =
    let rest = row_replaced rows user r some in
    elim (nat_lt row.user.0 user.0) as (λ b. is_of_user user (slice_get (row ∷ rows) (cond b (suc (count_before rows user)) 0)) ≡ true
    → cond b (row ∷ with_row rows user r) (row_for user r ++ beside user row rows) ≡ slice_set (row ∷ rows) (cond b (suc (count_before rows user)) 0) (row_with user r)) [
      | true ↦ λ g. ap (λ (l : List PrivateRow). row ∷ l) (rest g)
      | false ↦ λ g. rw (one_for user r some, g) refl
    ] on

-- ---- what is read afterwards

above_later : (user : ℕ) (row : PrivateRow) (rows : List PrivateRow) → user < row.user.0 → IsAbove row.user.0 rows → IsAbove user rows
above_later user row [] h g = tt
above_later user row (next ∷ rows) h g = omega (arith, h, g)

other_user : (user : ℕ) (row : PrivateRow) → user < row.user.0 → (row.user.0 == user) ≡ false
other_user user row h = grind (arith, nat_tests)

-- a user below all rows has none
pub none_below : (rows : List PrivateRow) (user : ℕ) → AreRows rows → IsAbove user rows → row_of rows user ≡ 0
none_below [] user h g = refl
none_below (row ∷ rows) user h g = rw (other_user user row g) (none_below rows user h.2 (above_later user row rows g h.1))

-- where the place is no row of the user there is none
pub none_at : (rows : List PrivateRow) (user : ObjNum) → AreRows rows → row_is_at rows (count_before rows user) user ≡ false → row_of rows user.0 ≡ 0
none_at [] user h off = refl
none_at (row ∷ rows) user h off =
    let rest = none_at rows user h.2 in
    elim (nat_lt row.user.0 user.0) as (λ b. nat_lt row.user.0 user.0 ≡ b → is_of_user user (slice_get (row ∷ rows) (cond b (suc (count_before rows user)) 0)) ≡ false → row_of (row ∷ rows) user.0 ≡ 0) [
      | true ↦ λ q g. let other : (row.user.0 == user.0) ≡ false = grind (arith, nat_tests) in rw other (rest g)
      | false ↦ λ q g. let beyond : user.0 < row.user.0 = grind (arith, nat_tests) in rw g (none_below rows user.0 h.2 (above_later user.0 row rows beyond h.1))
    ] refl off

-- ---- they stay rows

above_row_for : (low : ℕ) (user : ObjNum) (r : Rights) (rows : List PrivateRow) → low < user.0 → IsAbove low rows → IsAbove low (row_for user r ++ rows)
above_row_for low user r rows g h = elim (r.0 == 0) as (λ b. IsAbove low (cond b [] (row_with user r ∷ []) ++ rows)) [ true ↦ h | false ↦ g ]

above_beside : (low : ℕ) (user : ObjNum) (row : PrivateRow) (rows : List PrivateRow) → low < row.user.0 → IsAbove row.user.0 rows → IsAbove low (beside user row rows)
above_beside low user row rows g h = elim (row.user.0 == user.0) as (λ b. IsAbove low (cond b rows (row ∷ rows))) [ true ↦ above_later low row rows g h | false ↦ g ]

above_with : (low : ℕ) (rows : List PrivateRow) (user : ObjNum) (r : Rights) → AreRows rows → IsAbove low rows → low < user.0 → IsAbove low (with_row rows user r)
above_with low [] user r h a g = subst (λ (l : List PrivateRow). IsAbove low l) (append-nil (row_for user r)) (above_row_for low user r [] g tt)
above_with low (row ∷ rows) user r h a g =
    elim (nat_lt row.user.0 user.0) as (λ b. IsAbove low (cond b (row ∷ with_row rows user r) (row_for user r ++ beside user row rows))) [
      | true ↦ a
      | false ↦ above_row_for low user r (beside user row rows) g (above_beside low user row rows a h.1)
    ]

rows_for : (user : ObjNum) (r : Rights) (rows : List PrivateRow) → AreRows rows → IsAbove user.0 rows → AreRows (row_for user r ++ rows)
rows_for user r rows h a =
    elim (r.0 == 0) as (λ b. (r.0 == 0) ≡ b → AreRows (cond b [] (row_with user r ∷ []) ++ rows)) [
      | true ↦ λ q. h
      | false ↦ λ q. let some : r.0 ≢ 0 = grind (arith, nat_tests) in (some, a, h)
    ] refl

-- a row that is not of a lesser user gives place to the user's own
rows_beside : (user : ObjNum) (row : PrivateRow) (rows : List PrivateRow) → AreRows (row ∷ rows) → nat_lt row.user.0 user.0 ≡ false → AreRows (beside user row rows) × IsAbove user.0 (beside user row rows)
rows_beside user row rows h q =
    elim (row.user.0 == user.0) as (λ b. (row.user.0 == user.0) ≡ b → AreRows (cond b rows (row ∷ rows)) × IsAbove user.0 (cond b rows (row ∷ rows))) [
      | true ↦ λ g. (h.2, subst (λ (n : ℕ). IsAbove n rows) (number_same row.user.0 user.0 g) h.1)
      | false ↦ λ g. let beyond : user.0 < row.user.0 = grind (arith, nat_tests) in (h, beyond)
    ] refl

pub rows_kept : (rows : List PrivateRow) (user : ObjNum) (r : Rights) → AreRows rows → AreRows (with_row rows user r)
rows_kept [] user r h = subst (λ (l : List PrivateRow). AreRows l) (append-nil (row_for user r)) (rows_for user r [] tt tt)
rows_kept (row ∷ rows) user r h =
    let rest = rows_kept rows user r h.2 in
    elim (nat_lt row.user.0 user.0) as (λ b. nat_lt row.user.0 user.0 ≡ b → AreRows (cond b (row ∷ with_row rows user r) (row_for user r ++ beside user row rows))) [
      | true ↦ λ q. let below : row.user.0 < user.0 = grind (arith, nat_tests) in (h.0, above_with row.user.0 rows user r h.2 h.1 below, rest)
      | false ↦ λ q. let good = rows_beside user row rows h q in rows_for user r (beside user row rows) good.0 good.1
    ] refl

-- ---- what is read of them

read_first : (user : ObjNum) (r : Rights) (rows : List PrivateRow) (other : ℕ) → row_of rows user.0 ≡ 0 → row_of (row_for user r ++ rows) other ≡ cond (user.0 == other) r.0 (row_of rows other)
read_first user r rows other none =
    elim (r.0 == 0) as (λ b. (r.0 == 0) ≡ b → row_of (cond b [] (row_with user r ∷ []) ++ rows) other ≡ cond (user.0 == other) r.0 (row_of rows other)) [
      | true ↦ λ q. elim (user.0 == other) as (λ c. (user.0 == other) ≡ c → row_of rows other ≡ cond c r.0 (row_of rows other)) [
        | true ↦ λ g. ap (λ n. row_of rows n) (sym (number_same user.0 other g)) ∙ none ∙ sym (number_same r.0 0 q)
        | false ↦ λ g. refl
      ] refl
      | false ↦ λ q. elim (user.0 == other) as (λ c. rights_in (cond c (Some (row_with user r)) (find (is_row other) rows)) ≡ cond c r.0 (row_of rows other)) [ true ↦ refl | false ↦ refl ]
    ] refl

-- beside the user's own row the others read as before
read_beside : (user : ObjNum) (row : PrivateRow) (rows : List PrivateRow) (other : ℕ) (r : ℕ) → cond (user.0 == other) r (row_of (beside user row rows) other) ≡ cond (user.0 == other) r (row_of (row ∷ rows) other)
read_beside user row rows other r =
    elim (row.user.0 == user.0) as (λ b. (row.user.0 == user.0) ≡ b → cond (user.0 == other) r (row_of (cond b rows (row ∷ rows)) other) ≡ cond (user.0 == other) r (row_of (row ∷ rows) other)) [
      | true ↦ λ q. elim (user.0 == other) as (λ c. (user.0 == other) ≡ c → cond c r (row_of rows other) ≡ cond c r (row_of (row ∷ rows) other)) [
        | true ↦ λ g. refl
        | false ↦ λ g. let off : (row.user.0 == other) ≡ false = ap (λ n. n == other) (number_same row.user.0 user.0 q) ∙ g in rw off refl
      ] refl
      | false ↦ λ q. refl
    ] refl

pub row_read : (rows : List PrivateRow) (user : ObjNum) (r : Rights) (other : ℕ) → AreRows rows → row_of (with_row rows user r) other ≡ (if user.0 == other then r.0 else row_of rows other)
row_read [] user r other h = ap (λ (l : List PrivateRow). row_of l other) (sym (append-nil (row_for user r))) ∙ read_first user r [] other refl
row_read (row ∷ rows) user r other h =
    let rest = row_read rows user r other h.2 in
    elim (nat_lt row.user.0 user.0) as (λ b. nat_lt row.user.0 user.0 ≡ b → row_of (cond b (row ∷ with_row rows user r) (row_for user r ++ beside user row rows)) other ≡ cond (user.0 == other) r.0 (row_of (row ∷ rows) other)) [
      | true ↦ λ q. elim (row.user.0 == other) as (λ c. (row.user.0 == other) ≡ c → rights_in (cond c (Some row) (find (is_row other) (with_row rows user r))) ≡ cond (user.0 == other) r.0 (rights_in (cond c (Some row) (find (is_row other) rows)))) [
        | true ↦ λ g. let off : (user.0 == other) ≡ false = grind (arith, nat_tests) in rw off refl
        | false ↦ λ g. rest
      ] refl
      | false ↦ λ q. let good = rows_beside user row rows h q in
          read_first user r (beside user row rows) other (none_below (beside user row rows) user.0 good.0 good.1) ∙ read_beside user row rows other r.0
    ] refl

-- the only row is that of a user
pub row_alone : (user : ObjNum) (r : Rights) (other : ℕ) → row_of (row_for user r) other ≡ cond (user.0 == other) r.0 0
row_alone user r other = row_read [] user r other tt

-- ---- places

pub place_within : (rows : List PrivateRow) (user : ObjNum) → count_before rows user ≤ length rows
place_within [] user = omega arith
place_within (row ∷ rows) user =
    let rest = place_within rows user in
    elim (nat_lt row.user.0 user.0) as (λ b. cond b (suc (count_before rows user)) 0 ≤ length (row ∷ rows)) [ true ↦ omega (arith, rest) | false ↦ omega arith ]

-- a row that is there lies within
pub row_there : (rows : List PrivateRow) (user : ObjNum) → row_is_at rows (count_before rows user) user ≡ true → count_before rows user < length rows
row_there [] user h = cc
row_there (row ∷ rows) user h =
    let rest = row_there rows user in
    elim (nat_lt row.user.0 user.0) as (λ b. is_of_user user (slice_get (row ∷ rows) (cond b (suc (count_before rows user)) 0)) ≡ true → cond b (suc (count_before rows user)) 0 < length (row ∷ rows)) [
      | true ↦ λ g. omega (arith, rest g)
      | false ↦ λ g. omega arith
    ] h
