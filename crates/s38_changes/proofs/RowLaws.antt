-- The rows of an object that are taken out of what is kept, one after another.
use Rattle.std.proofs.Common.{◌≡◌, ℕ, ◌+◌, ◌<◌, ◌≤◌, ◌==◌, true, false, cond, List, [], ◌∷◌, ◌++◌, add-one, drop, drop-cons, get_or, length, take, refl, sym, ◌∙◌, ap, subst, arith}
use Rattle.std.proofs.lemmas.Bool.Decides.{nat_tests}
use Rattle.std.proofs.lemmas.List.{drop_all, take-append-drop}
use Rattle.std.specs.Prelude.{◌&&◌, Option, Some, None, find}
use Rattle.s38_base.specs.declared.rights.Rights.{Rights}
use Rattle.s38_profiles.specs.Rows.{Rows, SetsRow, row_at, row_key}
use Rattle.s38_rules.specs.declared.rows.PrivateRow.{PrivateRow}
use Rattle.s38_rules.specs.state.Kept.{kept_row}
use Rattle.s38_rules.specs.state.PrivateRows.{AreRows, is_row, rights_in, row_of}
use Rattle.s38_rules.proofs.RowLaws.{none_below}

number_same : (a b : ℕ) → (a == b) ≡ true → a ≡ b
number_same a b h = grind (arith, nat_tests)

-- of the rows of an object these are kept yet
abbrev pub AreYet : Rows → Rows → ℕ → List PrivateRow → Type 0
AreYet now was number rest = (user n : ℕ) → row_at now (row_key user n) ≡ cond (number == n) (kept_row (row_of rest user)) (row_at was (row_key user n))

-- at first all are
pub all_yet : (was : Rows) (number : ℕ) (rows : List PrivateRow) → ((user : ℕ) → row_at was (row_key user number) ≡ kept_row (row_of rows user)) → AreYet was was number rows
all_yet was number rows kept user n =
    elim (number == n) as (λ c. (number == n) ≡ c → row_at was (row_key user n) ≡ cond c (kept_row (row_of rows user)) (row_at was (row_key user n))) [
      | true ↦ λ q. ap (λ (k : ℕ). row_at was (row_key user k)) (sym (number_same number n q)) ∙ kept user
      | false ↦ λ q. refl
    ] refl

-- one row less
row_out : (now was after : Rows) (row : PrivateRow) (rest : List PrivateRow) (number : ℕ) → AreRows (row ∷ rest) → AreYet now was number (row ∷ rest) → SetsRow now (row_key row.user.0 number) None after → AreYet after was number rest
row_out now was after row rest number are yet set user n =
    set user n
    ∙ ap (λ (x : Option Rights). cond ((row.user.0 == user) && (number == n)) None x) (yet user n)
    ∙ elim (number == n) as (λ d. cond ((row.user.0 == user) && d) None (cond d (kept_row (row_of (row ∷ rest) user)) (row_at was (row_key user n))) ≡ cond d (kept_row (row_of rest user)) (row_at was (row_key user n))) [
      | true ↦ elim (row.user.0 == user) as (λ c. (row.user.0 == user) ≡ c → cond (c && true) None (kept_row (rights_in (cond c (Some row) (find (is_row user) rest)))) ≡ kept_row (row_of rest user)) [
        | true ↦ λ q.
            let none : row_of rest user ≡ 0 = ap (λ (k : ℕ). row_of rest k) (sym (number_same row.user.0 user q)) ∙ none_below rest row.user.0 are.2 are.1 in
            sym (ap kept_row none)
        | false ↦ λ q. refl
      ] refl
      | false ↦ elim (row.user.0 == user) as (λ c. cond (c && false) None (row_at was (row_key user n)) ≡ row_at was (row_key user n)) [ true ↦ refl | false ↦ refl ]
    ]

rows_suffix : (rows more : List PrivateRow) → AreRows (rows ++ more) → AreRows more
rows_suffix [] more are = are
rows_suffix (row ∷ rows) more are = rows_suffix rows more are.2

-- the next row is out
pub next_out : (now was after : Rows) (rows : List PrivateRow) (k number : ℕ) (d : PrivateRow) → AreRows rows → k < length rows
    → AreYet now was number (drop k rows) → SetsRow now (row_key (get_or rows k d).user.0 number) None after → AreYet after was number (drop (k + 1) rows)
next_out now was after rows k number d are within yet set =
    let split : drop k rows ≡ get_or rows k d ∷ drop (k + 1) rows = drop-cons rows k d within ∙ ap (λ (i : ℕ). get_or rows k d ∷ drop i rows) (sym (add-one k)) in
    let here : AreRows (drop k rows) = rows_suffix (take k rows) (drop k rows) (subst (λ (l : List PrivateRow). AreRows l) (sym (take-append-drop k rows)) are) in
    row_out now was after (get_or rows k d) (drop (k + 1) rows) number (subst (λ (l : List PrivateRow). AreRows l) split here) (subst (λ (l : List PrivateRow). AreYet now was number l) split yet) set

-- at last none is
pub none_yet : (now was : Rows) (rows : List PrivateRow) (k number : ℕ) → length rows ≤ k → AreYet now was number (drop k rows) → (user n : ℕ) → row_at now (row_key user n) ≡ cond (number == n) None (row_at was (row_key user n))
none_yet now was rows k number all yet user n =
    let none : drop k rows ≡ [] = drop_all k rows all in
    yet user n ∙ ap (λ (l : List PrivateRow). cond (number == n) (kept_row (row_of l user)) (row_at was (row_key user n))) none
