-- Which private rows are read again as they were printed.
use Rattle.std.proofs.Common.{◌≡◌, ◌≢◌, ℕ, ◌+◌, ◌<◌, ◌≤◌, ◌^◌, ◌==◌, Bool, true, false, List, [], ◌∷◌, get_or, length, refl, subst, arith, ◌⊎◌, inl, inr}
use Rattle.std.proofs.lemmas.Bool.{cases_lt, eqb-true, lt-ltb}
use Rattle.std.specs.Prelude.{All, nat_lt, not}
use Rattle.s38_codec.proofs.CodecLaws.{and_true}
use Rattle.s38_codec.specs.Codec.{only}
use Rattle.s38_image.specs.Fitting.{rows_codec}
use Rattle.s38_image.specs.Headers.{object_number_form, rights, row_form, row_has_rights, users_rise}
use Rattle.s38_laws_images.proofs.readable.ListLaws.{times_fit}
use Rattle.s38_rules.specs.state.PrivateRows.{AreRows}
use Rattle.s38_rules.specs.declared.rows.PrivateRow.{PrivateRow}
use Rattle.std.proofs.lemmas.List.{get_or_default}
use Rattle.std.proofs.lemmas.List.Elements.{All-cons, All-head, All-nil, All-tail}

-- what is known of a row by its type
pub record IsTyped (r : PrivateRow) : Type 0 where
  pub user : r.user.0 < 2 ^ 64
  pub rights : r.rights.0 < 256

-- and that it has a right
record IsRow (r : PrivateRow) : Type 0 where
  typed : IsTyped r
  some : r.rights.0 ≢ 0

not_zero : (n : ℕ) → n ≢ 0 → not (n == 0) ≡ true
not_zero n some = by (n == 0) refl
  where
    by : (b : Bool) → (n == 0) ≡ b → not b ≡ true
    by true is = absurd (some (eqb-true n 0 is))
    by false is = refl

row_fits : (r : PrivateRow) → IsRow r → row_form.fits r ≡ true
row_fits r is = and_true (object_number_form.fits r.user) ((only row_has_rights rights).fits r.rights) (lt-ltb r.user.0 (2 ^ 64) is.typed.user)
    (and_true (row_has_rights r.rights) (rights.fits r.rights) (not_zero r.rights.0 is.some) (lt-ltb r.rights.0 256 is.typed.rights))

all_rows : (rs : List PrivateRow) → AreRows rs → All IsTyped rs → All IsRow rs
all_rows [] are typed = All-nil IsRow
all_rows (r ∷ rs) are typed = All-cons IsRow r rs (record { typed = All-head IsTyped r rs typed; some = are.0 }) (all_rows rs are.2 (All-tail IsTyped r rs typed))

rise : (rs : List PrivateRow) → AreRows rs → users_rise rs ≡ true
rise [] are = refl
rise (r ∷ []) are = refl
rise (r ∷ q ∷ rs) are = and_true (nat_lt r.user.0 q.user.0) (users_rise (q ∷ rs)) (lt-ltb r.user.0 q.user.0 are.1) (rise (q ∷ rs) are.2)

pub rows_fit : (rs : List PrivateRow) → AreRows rs → All IsTyped rs → (rows_codec (length rs)).fits rs ≡ true
rows_fit rs are typed = and_true (users_rise rs) _ (rise rs are) (times_fit row_form IsRow row_fits rs (all_rows rs are typed))

-- one row more is of its type
pub typed_more : (rs : List PrivateRow) (i : ℕ) (e : PrivateRow) → i < length rs → ((k : ℕ) (d : PrivateRow) → k < i → IsTyped (get_or rs k d)) → IsTyped (get_or rs i e) → (k : ℕ) (d : PrivateRow) → k < i + 1 → IsTyped (get_or rs k d)
typed_more rs i e there before here k d lt = by (cases_lt k i)
  where
    by : (k < i) ⊎ (i ≤ k) → IsTyped (get_or rs k d)
    by (inl less) = before k d less
    by (inr le) =
        let same : i ≡ k = omega (arith, lt, le) in
        subst (λ (j : ℕ). IsTyped (get_or rs j d)) same (subst IsTyped (get_or_default rs i e d there) here)
