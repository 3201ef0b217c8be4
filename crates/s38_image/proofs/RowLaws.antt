-- Rows that rise.
use Rattle.std.proofs.Common.{◌≡◌, ◌≢◌, ℕ, zero, suc, ◌-◌, ◌+◌, ◌<◌, ◌≤◌, Bool, true, false, ltb, eqb, List, [], ◌∷◌, length, get_or, drop, Some, refl, sym, ap, ◌∙◌, arith}
use Rattle.std.specs.Prelude.{◌&&◌, not}
use Rattle.std.proofs.lemmas.Bool.{ltb-true, lt-ltb}
use Rattle.std.proofs.lemmas.List.{drop_more}
use Rattle.s38_codec.specs.Codec.{AreBytes, copies, fits_each, times, whole}
use Rattle.s38_codec.specs.Formats.{u64}
use Rattle.s38_codec.proofs.CodecLaws.{both_true, times_is, whole_exact}
use Rattle.s38_image.proofs.HeaderLaws.{row_is}
use Rattle.s38_image.specs.Headers.{object_number_form, rights, row_form, row_has_rights, users_rise}
use Rattle.s38_rules.specs.state.PrivateRows.{AreRows, IsAbove}
use Rattle.s38_rules.specs.declared.rows.PrivateRow.{PrivateRow}

not_zero : (n : ℕ) → not (eqb n 0) ≡ true → n ≢ 0
not_zero zero h = absurd cc
not_zero (suc n) h = λ e. absurd cc

some_rights : (r : PrivateRow) → row_form.fits r ≡ true → r.rights.0 ≢ 0
some_rights r h = not_zero r.rights.0 (both_true (row_has_rights r.rights) (rights.fits r.rights) (both_true (object_number_form.fits r.user) (row_has_rights r.rights && rights.fits r.rights) h).1).0

above : (r : PrivateRow) (rs : List PrivateRow) → users_rise (r ∷ rs) ≡ true → IsAbove r.user.0 rs × (users_rise rs ≡ true)
above r [] h = (tt, refl)
above r (q ∷ rs) h =
    let f = both_true (ltb r.user.0 q.user.0) (users_rise (q ∷ rs)) h in
    (ltb-true r.user.0 q.user.0 f.0, f.1)

rise : (n : ℕ) (rs : List PrivateRow) → fits_each (copies n row_form) rs ≡ true → users_rise rs ≡ true → AreRows rs
unfolding fits_each copies
rise zero [] h up = tt
rise zero (r ∷ rs) h up = absurd cc
rise (suc n) [] h up = absurd cc
rise (suc n) (r ∷ rs) h up =
    let f = both_true (row_form.fits r) (fits_each (copies n row_form) rs) h in
    let a = above r rs up in
    (some_rights r f.0, a.0, rise n rs f.1 a.1)

-- rows that are read and rise are rows of an object
pub rows_are : (n : ℕ) (bs : List ℕ) (rs : List PrivateRow) → AreBytes bs → whole (times n row_form) bs ≡ Some rs → users_rise rs ≡ true → AreRows rs
rows_are n bs rs fine e up = rise n rs (whole_exact (times n row_form) (times_is n row_form row_is) bs rs fine e).1 up

-- one row, or none, rises
pub short_rises : (rs : List PrivateRow) (k : ℕ) → length rs ≤ k + 1 → users_rise (drop k rs) ≡ true
short_rises [] zero le = refl
short_rises [] (suc k) le = refl
short_rises (r ∷ []) zero le = refl
short_rises (r ∷ q ∷ rs) zero le = absurd (omega arith)
short_rises (r ∷ rs) (suc k) le = short_rises rs k (omega arith)
