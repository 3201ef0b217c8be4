-- What is kept of users while it is made, object after object.
use Rattle.std.proofs.Common.{◌≡◌, ℕ, ◌+◌, ◌<◌, ◌≤◌, ◌==◌, true, false, cond, List, [], ◌∷◌, ◌++◌, drop, get_or, length, map, take, refl, sym, ◌∙◌, ap, subst, arith}
use Rattle.std.proofs.lemmas.Bool.Decides.{nat_tests}
use Rattle.std.proofs.lemmas.List.{map-append, take-append-drop, take_more}
use Rattle.std.proofs.lemmas.Map.Iter.{iter_end, rest_more, rest_so_far}
use Rattle.std.proofs.lemmas.Map.Keys.{sorted_head, sorted_tail}
use Rattle.std.specs.Prelude.{◌&&◌, Option, Some, None, find}
use Rattle.std.specs.Borrow.{Bor}
use Rattle.std.specs.Iterator.{Yields}
use Rattle.std.specs.Map.Iter.{TakesFirst, deref}
use Rattle.std.specs.Ordering.{nat_cmp}
use Rattle.std.specs.declared.cmp.Ordering.TheVariants.{Less}
use Rattle.std.specs.List.{AllByRecursion}
use Rattle.std.specs.List.Sorted.{IsStrictlyIncreasing}
use Rattle.s38_base.specs.declared.rights.Rights.{Rights}
use Rattle.s38_profiles.specs.Rows.{Rows, SetsRow, row_at, row_key, row_with}
use Rattle.s38_profiles.specs.Users.{SetsUser, Users, charge_in as charge_of, user_at}
use Rattle.s38_rules.specs.declared.object.Object.{Object}
use Rattle.s38_rules.specs.declared.rows.PrivateRow.{PrivateRow}
use Rattle.s38_rules.specs.state.Headers.{rights_in_row}
use Rattle.s38_rules.specs.state.Held.{charge_in, object_in, pages_of}
use Rattle.s38_rules.specs.state.Keeping.{AreKeptRows, AreUsers, IsUser, paid, paying}
use Rattle.s38_rules.specs.state.Kept.{kept_profile, kept_row, profile_by}
use Rattle.s38_rules.specs.state.PrivateRows.{AreRows, IsAbove, is_row, rights_in, row_of}
use Rattle.s38_rules.proofs.ChargeLaws.{AreRising, charge_both, charge_first, charge_last, charge_none, number_of, object_last, own_pages, rising_by}
use Rattle.s38_rules.proofs.UserLaws.{charge_kept, charge_most, user_paid, user_set, users_by}

nat_same : (a b : ℕ) → (a == b) ≡ true → a ≡ b
nat_same a b h = grind (arith, nat_tests)

-- ---- objects gone over

above_gone : (low : ℕ) (gone rest : List Object) (o : Object) → AllByRecursion (λ k. nat_cmp low k ≡ Less) (map number_of (gone ++ o ∷ rest)) → nat_cmp low o.number.0 ≡ Less
above_gone low [] rest o above = above.0
above_gone low (x ∷ gone) rest o above = above_gone low gone rest o above.1

-- none of the objects gone over has the number of a later one
pub fresh : (gone rest : List Object) (o : Object) → AreRising (gone ++ o ∷ rest) → object_in gone o.number.0 ≡ None
fresh [] rest o rising = refl
fresh (x ∷ gone) rest o rising =
    let less : nat_cmp x.number.0 o.number.0 ≡ Less = above_gone x.number.0 gone rest o (sorted_head nat_cmp x.number.0 (map number_of (gone ++ o ∷ rest)) rising) in
    let off : (x.number.0 == o.number.0) ≡ false = grind (arith, nat_tests) in
    rw off (fresh gone rest o (sorted_tail nat_cmp x.number.0 (map number_of (gone ++ o ∷ rest)) rising))

-- where a loop over all objects is: those gone over, the one at hand and the rest
pub at_hand : (os : List Object) (xs : List (Bor Object)) (s t u : List Object) (r : Option (Bor Object)) (x : Bor Object) → s ≡ os → Yields (TakesFirst deref) s xs t → r ≡ Some x → TakesFirst deref t r u
    → os ≡ map deref xs ++ x.now ∷ u
at_hand os xs s t u r x start y is step =
    sym start ∙ rest_so_far deref xs s t y ∙ ap (λ (l : List Object). map deref xs ++ l) (rest_more deref t u r x is step)

-- and at its end all were gone over
pub all_gone : (os : List Object) (xs : List (Bor Object)) (s t u : List Object) (r : Option (Bor Object)) → s ≡ os → Yields (TakesFirst deref) s xs t → r ≡ None → TakesFirst deref t r u → map deref xs ≡ os
all_gone os xs s t u r start y is step = (iter_end deref os xs s t u r start y is step).0

pub one_more : (xs : List (Bor Object)) (x : Bor Object) → map deref (xs ++ x ∷ []) ≡ map deref xs ++ x.now ∷ []
one_more xs x = map-append deref xs (x ∷ [])

pub fresh_at : (os gone rest : List Object) (o : Object) → IsStrictlyIncreasing (map number_of os) → os ≡ gone ++ o ∷ rest → object_in gone o.number.0 ≡ None
fresh_at os gone rest o rising all = fresh gone rest o (subst (λ (l : List Object). AreRising l) all (rising_by os rising))

-- ---- users

-- no object, and no user
pub none_charged : (users : Users) (os : List Object) → AreUsers users os (λ u. 0) → AreUsers users os (charge_in [])
none_charged users os h = users_by users os (λ u. 0) (charge_in []) h (λ u is. sym (charge_none u))

-- one object more: where it is a profile, its user is entered
pub entered_more : (users after : Users) (gone : List Object) (o : Object) → object_in gone o.number.0 ≡ None → AreUsers users gone (λ u. 0)
    → SetsUser users o.number.0 (profile_by o.body 0) after → AreUsers after (gone ++ o ∷ []) (λ u. 0)
entered_more users after gone o none h set =
    user_set users after gone (gone ++ o ∷ []) (λ u. 0) o.number.0 (profile_by o.body 0) h
    (λ u. ap (λ (x : Option Object). kept_profile x 0) (object_last u o gone none)
    ∙ elim (o.number.0 == u) as (λ c. kept_profile (cond c (Some o) (object_in gone u)) 0 ≡ cond c (profile_by o.body 0) (kept_profile (object_in gone u) 0)) [ true ↦ refl | false ↦ refl ])
    set

pub absent_more : (users : Users) (gone : List Object) (o : Object) → object_in gone o.number.0 ≡ None → AreUsers users gone (λ u. 0) → user_at users o.number.0 ≡ None
absent_more users gone o none h = h o.number.0 ∙ ap (λ (x : Option Object). kept_profile x 0) none

-- one object more is paid for
pub charged_more : (users after : Users) (os gone : List Object) (o : Object) (pages : ℕ) → AreUsers users os (charge_in gone)
    → pages ≡ charge_of (user_at users o.owner.0) + pages_of o.body → SetsUser users o.owner.0 (paid pages (user_at users o.owner.0)) after → AreUsers after os (charge_in (gone ++ o ∷ []))
charged_more users after os gone o pages h paying_for set =
    users_by after os (paying o.owner.0 pages (charge_in gone)) (charge_in (gone ++ o ∷ [])) (user_paid users after os (charge_in gone) o.owner.0 pages h set)
    (λ u is.
    elim (o.owner.0 == u) as (λ c. (o.owner.0 == u) ≡ c → cond c pages (charge_in gone u) ≡ charge_in (gone ++ o ∷ []) u) [
      | true ↦ λ e.
          let at : charge_in gone o.owner.0 ≡ charge_in gone u = ap (charge_in gone) (nat_same o.owner.0 u e) in
          let kept : charge_of (user_at users o.owner.0) ≡ charge_in gone o.owner.0 = charge_kept users os (charge_in gone) o.owner.0 h (subst (λ (k : ℕ). IsUser os k) (sym (nat_same o.owner.0 u e)) is) in
          let step : charge_in (gone ++ o ∷ []) u ≡ charge_in gone u + pages_of o.body = rw e at (charge_last u o gone) in
          omega (arith, at, kept, step, paying_for)
      | false ↦ λ e. let step : charge_in (gone ++ o ∷ []) u ≡ charge_in gone u + 0 = rw e at (charge_last u o gone) in omega (arith, step)
    ] refl)

-- what an owner pays for with one object more is no more than for all
pub charge_fits : (users : Users) (os gone rest : List Object) (o : Object) → os ≡ gone ++ o ∷ rest → AreUsers users os (charge_in gone)
    → charge_of (user_at users o.owner.0) + pages_of o.body ≤ charge_in os o.owner.0
charge_fits users os gone rest o all h =
    let kept : charge_of (user_at users o.owner.0) ≡ charge_of (kept_profile (object_in os o.owner.0) (charge_in gone o.owner.0)) = ap charge_of (h o.owner.0) in
    let whole : charge_in os o.owner.0 ≡ charge_in (gone ++ o ∷ rest) o.owner.0 = ap (λ (l : List Object). charge_in l o.owner.0) all in
    omega (arith, kept, whole, charge_most (object_in os o.owner.0) (charge_in gone o.owner.0), charge_both o.owner.0 gone (o ∷ rest), charge_first o.owner.0 o rest, own_pages o)

-- ---- rows

last_above : (low : ℕ) (rows : List PrivateRow) (row : PrivateRow) → IsAbove low (rows ++ row ∷ []) → AreRows (rows ++ row ∷ []) → low < row.user.0
last_above low [] row above are = above
last_above low (x ∷ rows) row above are = let rest = last_above x.user.0 rows row are.1 are.2 in omega (arith, above, rest)

-- one row more
row_last : (rows : List PrivateRow) (row : PrivateRow) (user : ℕ) → AreRows (rows ++ row ∷ []) → row_of (rows ++ row ∷ []) user ≡ cond (row.user.0 == user) row.rights.0 (row_of rows user)
row_last [] row user are = elim (row.user.0 == user) as (λ c. rights_in (cond c (Some row) None) ≡ cond c row.rights.0 0) [ true ↦ refl | false ↦ refl ]
row_last (x ∷ rows) row user are =
    let rest = row_last rows row user are.2 in
    let less : x.user.0 < row.user.0 = last_above x.user.0 rows row are.1 are.2 in
    elim (x.user.0 == user) as (λ c. (x.user.0 == user) ≡ c → rights_in (cond c (Some x) (find (is_row user) (rows ++ row ∷ []))) ≡ cond (row.user.0 == user) row.rights.0 (rights_in (cond c (Some x) (find (is_row user) rows)))) [
      | true ↦ λ q. let off : (row.user.0 == user) ≡ false = grind (arith, nat_tests) in rw off refl
      | false ↦ λ q. rest
    ] refl

-- one row more of the object of a number
row_more : (maps was after : Rows) (gone : List PrivateRow) (row : PrivateRow) (number : ℕ) → AreRows (gone ++ row ∷ [])
    → ((user n : ℕ) → row_at maps (row_key user n) ≡ cond (number == n) (kept_row (row_of gone user)) (row_at was (row_key user n)))
    → SetsRow maps (row_key row.user.0 number) (row_with row.rights) after
    → (user n : ℕ) → row_at after (row_key user n) ≡ cond (number == n) (kept_row (row_of (gone ++ row ∷ []) user)) (row_at was (row_key user n))
row_more maps was after gone row number rising h set user n =
    set user n
    ∙ ap (λ (x : Option Rights). cond ((row.user.0 == user) && (number == n)) (row_with row.rights) x) (h user n)
    ∙ elim (number == n) as (λ d. cond ((row.user.0 == user) && d) (row_with row.rights) (cond d (kept_row (row_of gone user)) (row_at was (row_key user n))) ≡ cond d (kept_row (row_of (gone ++ row ∷ []) user)) (row_at was (row_key user n))) [
      | true ↦
          elim (row.user.0 == user) as (λ c. cond (c && true) (row_with row.rights) (kept_row (row_of gone user)) ≡ kept_row (cond c row.rights.0 (row_of gone user))) [ true ↦ refl | false ↦ refl ]
          ∙ ap kept_row (sym (row_last gone row user rising))
      | false ↦ elim (row.user.0 == user) as (λ c. cond (c && false) (row_with row.rights) (row_at was (row_key user n)) ≡ row_at was (row_key user n)) [ true ↦ refl | false ↦ refl ]
    ]

-- one object more: each of its rows is kept
pub rows_more : (rows after : Rows) (gone : List Object) (o : Object) → object_in gone o.number.0 ≡ None → AreKeptRows rows gone
    → ((user n : ℕ) → row_at after (row_key user n) ≡ cond (o.number.0 == n) (kept_row (row_of o.rows user)) (row_at rows (row_key user n))) → AreKeptRows after (gone ++ o ∷ [])
rows_more rows after gone o none h set user n =
    set user n
    ∙ ap (λ (x : Option Rights). cond (o.number.0 == n) (kept_row (row_of o.rows user)) x) (h user n)
    ∙ elim (o.number.0 == n) as (λ c. cond c (kept_row (row_of o.rows user)) (kept_row (rights_in_row (object_in gone n) user)) ≡ kept_row (rights_in_row (cond c (Some o) (object_in gone n)) user)) [ true ↦ refl | false ↦ refl ]
    ∙ sym (ap (λ (x : Option Object). kept_row (rights_in_row x user)) (object_last n o gone none))

pub no_rows_yet : (rows : Rows) (gone : List Object) (o : Object) → object_in gone o.number.0 ≡ None → AreKeptRows rows gone → (user : ℕ) → row_at rows (row_key user o.number.0) ≡ None
no_rows_yet rows gone o none h user = h user o.number.0 ∙ ap (λ (x : Option Object). kept_row (rights_in_row x user)) none

above_prefix : (low : ℕ) (rows more : List PrivateRow) → IsAbove low (rows ++ more) → IsAbove low rows
above_prefix low [] more above = tt
above_prefix low (x ∷ rows) more above = above

rows_prefix : (rows more : List PrivateRow) → AreRows (rows ++ more) → AreRows rows
rows_prefix [] more are = tt
rows_prefix (x ∷ rows) more are = (are.0, above_prefix x.user.0 rows more are.1, rows_prefix rows more are.2)

-- the next row of the object of a number
pub row_next : (maps was after : Rows) (rows : List PrivateRow) (k number : ℕ) (d : PrivateRow) → AreRows rows → k < length rows
    → ((user n : ℕ) → row_at maps (row_key user n) ≡ cond (number == n) (kept_row (row_of (take k rows) user)) (row_at was (row_key user n)))
    → SetsRow maps (row_key (get_or rows k d).user.0 number) (row_with (get_or rows k d).rights) after
    → (user n : ℕ) → row_at after (row_key user n) ≡ cond (number == n) (kept_row (row_of (take (k + 1) rows) user)) (row_at was (row_key user n))
row_next maps was after rows k number d are within h set user n =
    let more : take (k + 1) rows ≡ take k rows ++ get_or rows k d ∷ [] = take_more rows k d within in
    let whole : AreRows (take (k + 1) rows ++ drop (k + 1) rows) = subst (λ (l : List PrivateRow). AreRows l) (sym (take-append-drop (k + 1) rows)) are in
    let rising : AreRows (take k rows ++ get_or rows k d ∷ []) = subst (λ (l : List PrivateRow). AreRows l) more (rows_prefix (take (k + 1) rows) (drop (k + 1) rows) whole) in
    row_more maps was after (take k rows) (get_or rows k d) number rising h set user n
    ∙ ap (λ (l : List PrivateRow). cond (number == n) (kept_row (row_of l user)) (row_at was (row_key user n))) (sym more)
