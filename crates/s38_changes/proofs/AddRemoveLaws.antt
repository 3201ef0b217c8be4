-- What is kept of users stays what the objects say, where an object is added or removed.
use Rattle.std.proofs.Common.{◌≡◌, ℕ, ◌+◌, ◌-◌, ◌<◌, ◌≤◌, ◌==◌, true, false, cond, [], ◌∷◌, ◌++◌, refl, sym, ◌∙◌, ap, subst, arith}
use Rattle.std.proofs.lemmas.Bool.Decides.{nat_tests}
use Rattle.std.specs.Prelude.{◌&&◌, Option, Some, None}
use Rattle.s38_base.specs.declared.rights.Rights.{Rights}
use Rattle.s38_profiles.specs.declared.profile.Profile.{Profile}
use Rattle.s38_profiles.specs.ProfileMaps.{ProfileMaps}
use Rattle.s38_profiles.specs.Rows.{SetsRow, row_at, row_key, row_with}
use Rattle.s38_profiles.specs.Users.{SetsUser, Users, charge_in as charge_of, user_at}
use Rattle.s38_rules.specs.declared.object.Body.{Body}
use Rattle.s38_rules.specs.declared.object.Object.{Object}
use Rattle.s38_rules.specs.state.Headers.{rights_in_row}
use Rattle.s38_rules.specs.state.Held.{Held, charge_in, object, object_in, pages_of, with_object, without, without_in}
use Rattle.s38_rules.specs.state.Keeping.{AreUsers, IsUser, paid, paying}
use Rattle.s38_rules.specs.state.Kept.{Mirrors, kept_profile, profile_by}
use Rattle.s38_rules.specs.state.PrivateRows.{row_for, row_of}
use Rattle.s38_rules.proofs.ChargeLaws.{AreRising, charge_last, charge_without, object_last, object_without, own_pages, pages_within}
use Rattle.s38_rules.proofs.RowLaws.{row_alone}
use Rattle.s38_rules.proofs.UserLaws.{charge_kept, kept_by, kept_paid, left_unset, row_kept, rows_left, user_paid, user_set, users_by}
use Rattle.s38_changes.proofs.KeptLaws.{AreGiven, nat_same, none_yet}

body_entered : (b : Body) (pages : ℕ) → pages ≡ 0 → profile_by b pages ≡ profile_by b 0
body_entered b pages none = ap (profile_by b) none

-- a new object follows the others: its owner pays for it and has a row, and a profile is entered
pub added_kept : (maps after : ProfileMaps) (mid : Users) (h : Held) (o : Object) (r : Rights) → AreGiven h → o.number.0 ≡ h.next → o.owner.0 < h.next → o.rows ≡ row_for o.owner r
    → SetsUser maps.users h.next (profile_by o.body 0) mid
    → SetsUser mid o.owner.0 (paid (charge_of (user_at mid o.owner.0) + pages_of o.body) (user_at mid o.owner.0)) after.users
    → SetsRow maps.rows (row_key o.owner.0 h.next) (row_with r) after.rows → Mirrors maps h → Mirrors after (with_object h o)
added_kept maps after mid h o r given number owner rows enter paying_for set m =
    let os = h.objects in
    let more = h.objects ++ o ∷ [] in
    let n : ℕ = h.next in
    let a : ℕ = o.owner.0 in
    let c = λ (u : ℕ). charge_in os u in
    let q : ℕ = charge_of (user_at mid a) + pages_of o.body in
    let absent : object_in os o.number.0 ≡ None = given o.number.0 (omega (arith, number)) in
    let found = λ (k : ℕ).
    let e : object_in more k ≡ cond (n == k) (Some o) (object_in os k) = object_last k o os absent ∙ ap (λ (i : ℕ). cond (i == k) (Some o) (object_in os k)) number in e in
    let unowned : charge_in os n ≡ 0 = m.unowned n (omega arith) in
    let entered_users : AreUsers mid more c =
    user_set maps.users mid os more c n (profile_by o.body 0) m.users
    (λ u. ap (λ (x : Option Object). kept_profile x (c u)) (found u)
    ∙ elim (n == u) as (λ b. (n == u) ≡ b → kept_profile (cond b (Some o) (object_in os u)) (c u) ≡ cond b (profile_by o.body 0) (kept_profile (object_in os u) (c u))) [
      | true ↦ λ e. body_entered o.body (c u) (ap c (sym (nat_same n u e)) ∙ unowned)
      | false ↦ λ e. refl
    ] refl)
    enter in
    let charges = λ (u : ℕ) (is : IsUser more u).
    let e : paying a q c u ≡ charge_in more u =
    elim (a == u) as (λ b. (a == u) ≡ b → cond b q (c u) ≡ charge_in more u) [
      | true ↦ λ e.
          let at : c a ≡ c u = ap c (nat_same a u e) in
          let kept : charge_of (user_at mid a) ≡ c a = charge_kept mid more c a entered_users (subst (λ (k : ℕ). IsUser more k) (sym (nat_same a u e)) is) in
          let step : charge_in more u ≡ c u + pages_of o.body = rw e at (charge_last u o os) in
          omega (arith, at, kept, step)
      | false ↦ λ e. let step : charge_in more u ≡ c u + 0 = rw e at (charge_last u o os) in omega (arith, step)
    ] refl in e in
    record {
      rows = row_kept maps.rows after.rows os more a n r m.rows
          (λ other k. ap (λ (x : Option Object). rights_in_row x other) (found k)
          ∙ elim (n == k) as (λ b. (n == k) ≡ b → rights_in_row (cond b (Some o) (object_in os k)) other ≡ cond ((a == other) && b) r.0 (rights_in_row (object_in os k) other)) [
            | true ↦ λ e.
                let none : rights_in_row (object_in os k) other ≡ 0 = ap (λ (i : ℕ). rights_in_row (object_in os i) other) (sym (nat_same n k e)) ∙ ap (λ (x : Option Object). rights_in_row x other) (given n (omega arith)) in
                ap (λ rs. row_of rs other) rows ∙ row_alone o.owner r other
                ∙ elim (a == other) as (λ d. cond d r.0 0 ≡ cond (d && true) r.0 (rights_in_row (object_in os k) other)) [
                  | true ↦ refl
                  | false ↦ sym none
                ]
            | false ↦ λ e. elim (a == other) as (λ d. rights_in_row (object_in os k) other ≡ cond (d && false) r.0 (rights_in_row (object_in os k) other)) [ true ↦ refl | false ↦ refl ]
          ] refl)
          set;
      users = users_by after.users more (paying a q c) (charge_in more) (user_paid mid after.users more c a q entered_users paying_for) charges;
      unowned = λ u high.
          let none : charge_in os u ≡ 0 = m.unowned u (omega (arith, high)) in
          let other : (a == u) ≡ false = grind (arith, nat_tests) in
          let step : charge_in more u ≡ c u + 0 = rw other at (charge_last u o os) in
          omega (arith, none, step);
    }

-- an object is there no more: none of its rows is kept, its owner does not pay for it, and a profile is left
pub gone_kept : (maps after : ProfileMaps) (h : Held) (n : ℕ) (o : Object) → AreRising h.objects → object h n ≡ Some o
    → ((user m : ℕ) → row_at after.rows (row_key user m) ≡ cond (n == m) None (row_at maps.rows (row_key user m)))
    → ((user : ℕ) → user_at after.users user ≡ cond (n == user) None (cond (o.owner.0 == user) (paid (charge_of (user_at maps.users o.owner.0) - pages_of o.body) (user_at maps.users o.owner.0)) (user_at maps.users user)))
    → Mirrors maps h → Mirrors after (without h n)
gone_kept maps after h n o rising found rows users m =
    let os = h.objects in
    let more = without_in h.objects n in
    let a : ℕ = o.owner.0 in
    let pages : ℕ = pages_of o.body in
    let c = λ (u : ℕ). charge_in os u in
    let p : ℕ = charge_of (user_at maps.users a) - pages in
    let within : pages ≤ c a = let w = pages_within n a o os found in omega (arith, w, own_pages o) in
    let pays = λ (u : ℕ). charge_without u n o os rising found in
    let others = λ (u : ℕ).
    let e : cond (a == u) (paid p (user_at maps.users a)) (user_at maps.users u) ≡ kept_profile (object_in os u) (charge_in more u) =
    elim (a == u) as (λ b. (a == u) ≡ b → cond b (paid p (user_at maps.users a)) (user_at maps.users u) ≡ kept_profile (object_in os u) (charge_in more u)) [
      | true ↦ λ e.
          let at : c a ≡ c u = ap c (nat_same a u e) in
          let step : charge_in more u + pages ≡ c u = rw e at (pays u) in
          let own : IsUser os a → p ≡ charge_in more u = λ is. (let was = charge_kept maps.users os c a m.users is in omega (arith, at, was, step, within)) in
          ap (paid p) (m.users a) ∙ kept_paid (object_in os a) (c a) p
          ∙ kept_by (object_in os a) p (charge_in more u) own
          ∙ ap (λ (k : ℕ). kept_profile (object_in os k) (charge_in more u)) (nat_same a u e)
      | false ↦ λ e.
          let step : charge_in more u + 0 ≡ c u = rw e at (pays u) in
          let same : c u ≡ charge_in more u = omega (arith, step) in
          m.users u ∙ ap (λ (k : ℕ). kept_profile (object_in os u) k) same
    ] refl in e in
    record {
      rows = rows_left maps.rows after.rows os more n m.rows
          (λ user k. ap (λ (x : Option Object). rights_in_row x user) (object_without n k os)
          ∙ elim (n == k) as (λ b. rights_in_row (cond b None (object_in os k)) user ≡ cond b 0 (rights_in_row (object_in os k) user)) [ true ↦ refl | false ↦ refl ])
          rows;
      users = λ u.
          users u
          ∙ ap (λ (x : Option Profile). cond (n == u) None x) (others u)
          ∙ elim (n == u) as (λ b. cond b None (kept_profile (object_in os u) (charge_in more u)) ≡ kept_profile (cond b None (object_in os u)) (charge_in more u)) [ true ↦ refl | false ↦ refl ]
          ∙ sym (ap (λ (x : Option Object). kept_profile x (charge_in more u)) (object_without n u os));
      unowned = λ u high. let none = m.unowned u high in let step = pays u in omega (arith, none, step);
    }
