-- How many private rows there are once the rights of one user were set.
use Rattle.std.proofs.Common.{◌≡◌, ◌+◌, ◌<◌, ◌==◌, Bool, true, false, cond, List, [], ◌∷◌, ◌++◌, length, refl, arith}
use Rattle.std.proofs.lemmas.Bool.Decides.{nat_tests}
use Rattle.std.proofs.lemmas.List.{length-append}
use Rattle.std.specs.Prelude.{nat_lt}
use Rattle.s38_base.specs.declared.id.ObjNum.{ObjNum}
use Rattle.s38_base.specs.declared.rights.Rights.{Rights}
use Rattle.s38_rules.proofs.RowLaws.{none_below}
use Rattle.s38_rules.specs.declared.rows.PrivateRow.{PrivateRow}
use Rattle.s38_rules.specs.state.PrivateRows.{AreRows, row_for, row_of, with_row}

one_row : (user : ObjNum) (r : Rights) → length (row_for user r) ≡ cond (r.0 == 0) 0 1
one_row user r = by (r.0 == 0)
  where
    by : (b : Bool) → length {A = PrivateRow} (cond b [] (record { user = user; rights = r } ∷ [])) ≡ cond b 0 1
    by true = refl
    by false = refl

-- a row more with a right that is new, and a row less without the right that there was
pub rows_counted : (rows : List PrivateRow) (user : ObjNum) (r : Rights) → AreRows rows → length (with_row rows user r) + cond (row_of rows user.0 == 0) 0 1 ≡ length rows + cond (r.0 == 0) 0 1
rows_counted [] user r are = omega (arith, one_row user r)
rows_counted (row ∷ rows) user r are = by (rows_counted rows user r are.2) (nat_lt row.user.0 user.0) refl (row.user.0 == user.0) refl
  where
    some : (row.rights.0 == 0) ≡ false
    some = grind (arith, nat_tests, are.0)

    by : length (with_row rows user r) + cond (row_of rows user.0 == 0) 0 1 ≡ length rows + cond (r.0 == 0) 0 1
        → (a : Bool) → nat_lt row.user.0 user.0 ≡ a → (b : Bool) → (row.user.0 == user.0) ≡ b
        → length (cond a (row ∷ with_row rows user r) (row_for user r ++ cond b rows (row ∷ rows))) + cond (row_of (row ∷ rows) user.0 == 0) 0 1 ≡ length (row ∷ rows) + cond (r.0 == 0) 0 1
    by rest true a true b = absurd (grind (arith, nat_tests))
    by rest true a false b = rw b (omega (arith, rest))
    by rest false a true b = rw (b, some) (omega (arith, length-append (row_for user r) rows, one_row user r))
    by rest false a false b =
        let above : user.0 < row.user.0 = grind (arith, nat_tests) in
        let none : row_of (row ∷ rows) user.0 ≡ 0 = none_below (row ∷ rows) user.0 are above in
        rw none (omega (arith, length-append (row_for user r) (row ∷ rows), one_row user r))
