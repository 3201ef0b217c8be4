-- What is kept of users stays what the objects say, where an owner pays for more or fewer pages, or another owner pays.
use Rattle.std.proofs.Common.{◌≡◌, ℕ, ◌+◌, ◌-◌, ◌<◌, ◌≤◌, ◌==◌, true, false, cond, List, length, refl, sym, ◌∙◌, ap, subst, arith}
use Rattle.std.proofs.lemmas.Bool.Decides.{nat_tests}
use Rattle.std.specs.Prelude.{Option, Some, None, IsSome, nat_lt}
use Rattle.s38_base.specs.declared.id.ObjNum.{ObjNum}
use Rattle.s38_base.specs.declared.rights.Rights.{Rights}
use Rattle.s38_memory.specs.declared.cell.Cell.{Cell}
use Rattle.s38_profiles.specs.declared.profile.Profile.{Profile}
use Rattle.s38_profiles.specs.ProfileMaps.{ProfileMaps}
use Rattle.s38_profiles.specs.Rows.{Rows, SetsRow, row_key, row_with}
use Rattle.s38_profiles.specs.Users.{SetsUser, Users, charge_in as charge_of, user_at}
use Rattle.s38_rules.specs.declared.object.Body.TheVariants as bodies
use Rattle.s38_rules.specs.declared.object.Object.{Object}
use Rattle.s38_rules.specs.state.Headers.{rights_in_row}
use Rattle.s38_rules.specs.state.Held.{Held, change, change_in, charge_in, object, object_in, pages_for, pages_of, space_pages}
use Rattle.s38_rules.specs.state.Keeping.{AreKeptRows, IsUser, paid, paying}
use Rattle.s38_rules.specs.state.Kept.{Mirrors, kept_profile, profile_by}
use Rattle.s38_rules.specs.state.Parts.{over_object, space_part}
use Rattle.s38_rules.specs.state.PartsAt.{on_space}
use Rattle.s38_rules.specs.state.PrivateRows.{AreRows, row_of}
use Rattle.s38_rules.specs.state.Access.{access_of, granted, on_access, owned_by, with_access}
use Rattle.s38_rules.proofs.ChargeLaws.{KeepsNumber, charge_changed, own_pages, pages_within, some_page}
use Rattle.s38_rules.proofs.RowLaws.{row_read}
use Rattle.s38_rules.proofs.UserLaws.{charge_kept, is_user, row_kept, rows_of, user_paid, user_there, users_by, users_of}
use Rattle.s38_changes.proofs.KeptLaws.{AreGiven, nat_same, says_same, row_found}

pub no_user : IsSome (kept_profile None 0) → ⊥
no_user h = cc

-- the user of a profile was given its number
user_given : (h : Held) (user : ℕ) → AreGiven h → IsUser h.objects user → user < h.next
user_given h user given there =
    elim (nat_lt user h.next) as (λ b. nat_lt user h.next ≡ b → user < h.next) [
      | true ↦ λ q. grind (arith, nat_tests)
      | false ↦ λ q.
          let none : object h user ≡ None = given user (grind (arith, nat_tests)) in
          let here : IsSome (kept_profile (object_in h.objects user) 0) = there in
          absurd (no_user (subst (λ (x : Option Object). IsSome (kept_profile x 0)) none here))
    ] refl

-- an owner who pays for so many pages more than before
pub owner_pays : (user n : ℕ) (f : Object → Object) (o : Object) (os : List Object) → object_in os n ≡ Some o → (f o).owner ≡ o.owner
    → charge_in (change_in os n f) user + cond (o.owner.0 == user) (pages_of o.body) 0 ≡ charge_in os user + cond (o.owner.0 == user) (pages_of (f o).body) 0
owner_pays user n f o os found owner =
    let e : pages_for user (f o) ≡ cond (o.owner.0 == user) (pages_of (f o).body) 0 = ap (λ (k : ObjNum). cond (k.0 == user) (pages_of (f o).body) 0) owner in
    omega (arith, charge_changed user n f o os found, e)

-- the object pays otherwise for what it holds, and its owner, rows and profile stay; pages is what the owner pays for from now on
pub body_kept : (maps after : ProfileMaps) (h : Held) (n : ℕ) (f : Object → Object) (o : Object) (pages : ℕ) → KeepsNumber f → object h n ≡ Some o
    → (f o).owner ≡ o.owner → (f o).rows ≡ o.rows → ((charge : ℕ) → profile_by (f o).body charge ≡ profile_by o.body charge)
    → (IsSome (user_at maps.users o.owner.0) → pages + pages_of o.body ≡ charge_of (user_at maps.users o.owner.0) + pages_of (f o).body)
    → SetsUser maps.users o.owner.0 (paid pages (user_at maps.users o.owner.0)) after.users → after.rows ≡ maps.rows → Mirrors maps h → Mirrors after (change h n f)
body_kept maps after h n f o pages keeps found owner rows profile paying_for set same m =
    let os = h.objects in
    let more = change_in h.objects n f in
    let charges = λ (u : ℕ) (there : IsUser os u).
    let e : paying o.owner.0 pages (charge_in os) u ≡ charge_in more u =
    elim (o.owner.0 == u) as (λ c. (o.owner.0 == u) ≡ c → cond c pages (charge_in os u) ≡ charge_in more u) [
      | true ↦ λ q.
          let own : o.owner.0 ≡ u = nat_same o.owner.0 u q in
          let is : IsUser os o.owner.0 = subst (λ (k : ℕ). IsUser os k) (sym own) there in
          let now = paying_for (user_there maps.users os (charge_in os) o.owner.0 m.users is) in
          let kept = charge_kept maps.users os (charge_in os) o.owner.0 m.users is in
          let step : charge_in more u + pages_of o.body ≡ charge_in os u + pages_of (f o).body = rw q at (owner_pays u n f o os found owner) in
          let at : charge_in os o.owner.0 ≡ charge_in os u = ap (charge_in os) own in
          omega (arith, now, kept, step, at)
      | false ↦ λ q.
          let step : charge_in more u + 0 ≡ charge_in os u + 0 = rw q at (owner_pays u n f o os found owner) in omega (arith, step)
    ] refl in e in
    record {
      rows = subst (λ (rs : Rows). AreKeptRows rs more) (sym same)
          (rows_of maps.rows os more m.rows
          (λ user k. says_same (λ (r : Option Object). rights_in_row r user) n k f o os keeps found (ap (λ r. row_of r user) rows)));
      users = users_by after.users more (paying o.owner.0 pages (charge_in os)) (charge_in more)
          (users_of after.users os more (paying o.owner.0 pages (charge_in os)) (user_paid maps.users after.users os (charge_in os) o.owner.0 pages m.users set)
          (λ user charge. says_same (λ (r : Option Object). kept_profile r charge) n user f o os keeps found (profile charge)))
          (λ u there. charges u (subst (λ (x : Option Profile). IsSome x) (says_same (λ (r : Option Object). kept_profile r 0) n u f o os keeps found (profile 0)) there));
      unowned = λ u high.
          let was = m.unowned u high in
          let own : pages_for u o ≤ charge_in os u = pages_within n u o os found in
          elim (o.owner.0 == u) as (λ c. (o.owner.0 == u) ≡ c → charge_in more u ≡ 0) [
            | true ↦ λ q.
                let pays : pages_of o.body ≤ charge_in os u = rw q at own in
                absurd (omega (arith, was, pays, some_page o.body))
            | false ↦ λ q. let step : charge_in more u + 0 ≡ charge_in os u + 0 = rw q at (owner_pays u n f o os found owner) in omega (arith, step, was)
          ] refl;
    }

-- a space has others for its cells, as many or not
pub resized_kept : (maps after : ProfileMaps) (h : Held) (n : ℕ) (f : List Cell → List Cell) (o : Object) (cells : List Cell) (pages : ℕ) → object h n ≡ Some o → o.body ≡ bodies.Space cells
    → (IsSome (user_at maps.users o.owner.0) → pages + pages_of o.body ≡ charge_of (user_at maps.users o.owner.0) + (1 + space_pages (length (f cells))))
    → SetsUser maps.users o.owner.0 (paid pages (user_at maps.users o.owner.0)) after.users → after.rows ≡ maps.rows → Mirrors maps h → Mirrors after (on_space h n f)
resized_kept maps after h n f o cells pages found e paying_for set same m =
    let now : pages_of (over_object space_part f o).body ≡ 1 + space_pages (length (f cells)) = rw e refl in
    body_kept maps after h n (over_object space_part f) o pages (λ x. refl) found refl refl (λ charge. rw e refl)
    (λ there. let step = paying_for there in omega (arith, step, now)) set same m

-- an object has another owner, who pays for it in the place of the one before, and has a row
pub given_kept : (maps after : ProfileMaps) (mid : Users) (h : Held) (n : ℕ) (o : Object) (user : ObjNum) (r : Rights) → AreGiven h → object h n ≡ Some o → AreRows o.rows
    → IsSome (user_at maps.users user.0)
    → SetsUser maps.users o.owner.0 (paid (charge_of (user_at maps.users o.owner.0) - pages_of o.body) (user_at maps.users o.owner.0)) mid
    → SetsUser mid user.0 (paid (charge_of (user_at mid user.0) + pages_of o.body) (user_at mid user.0)) after.users
    → SetsRow maps.rows (row_key user.0 n) (row_with r) after.rows → Mirrors maps h → Mirrors after (on_access h n (λ s. owned_by user (granted user r s)))
given_kept maps after mid h n o user r given found are there less more_paid set m =
    let os = h.objects in
    let f = λ (x : Object). with_access (owned_by user (granted user r (access_of x))) x in
    let more = change_in os n f in
    let a : ℕ = o.owner.0 in
    let b : ℕ = user.0 in
    let pages : ℕ = pages_of o.body in
    let c = λ (u : ℕ). charge_in os u in
    let p : ℕ = charge_of (user_at maps.users a) - pages in
    let q : ℕ = charge_of (user_at mid b) + pages in
    let lessened = user_paid maps.users mid os c a p m.users less in
    let is : IsUser os b = is_user maps.users os c b m.users there in
    let kept : charge_of (user_at mid b) ≡ paying a p c b = charge_kept mid os (paying a p c) b lessened is in
    let within : pages ≤ c a = let w = pages_within n a o os found in omega (arith, w, own_pages o) in
    let pays = λ (u : ℕ). charge_changed u n f o os found in
    let charges = λ (u : ℕ) (user_u : IsUser os u).
    let e : paying b q (paying a p c) u ≡ charge_in more u =
    elim (b == u) as (λ y. (b == u) ≡ y → cond y q (cond (a == u) p (c u)) ≡ charge_in more u) [
      | true ↦ λ qb. elim (a == u) as (λ x. (a == u) ≡ x → q ≡ charge_in more u) [
        | true ↦ λ qa.
            let both : (a == b) ≡ true = grind (arith, nat_tests) in
            let at : c a ≡ c u = ap c (nat_same a u qa) in
            let was : charge_of (user_at maps.users a) ≡ c a = charge_kept maps.users os c a m.users (subst (λ (k : ℕ). IsUser os k) (sym (nat_same a u qa)) user_u) in
            let now : charge_of (user_at mid b) ≡ p = kept ∙ rw both refl in
            let step : charge_in more u + pages ≡ c u + pages = rw (qa, qb) at (pays u) in
            omega (arith, at, was, now, step, within)
        | false ↦ λ qa.
            let apart : (a == b) ≡ false = grind (arith, nat_tests) in
            let at : c b ≡ c u = ap c (nat_same b u qb) in
            let now : charge_of (user_at mid b) ≡ c b = kept ∙ rw apart refl in
            let step : charge_in more u + 0 ≡ c u + pages = rw (qa, qb) at (pays u) in
            omega (arith, at, now, step)
      ] refl
      | false ↦ λ qb. elim (a == u) as (λ x. (a == u) ≡ x → cond x p (c u) ≡ charge_in more u) [
        | true ↦ λ qa.
            let at : c a ≡ c u = ap c (nat_same a u qa) in
            let was : charge_of (user_at maps.users a) ≡ c a = charge_kept maps.users os c a m.users (subst (λ (k : ℕ). IsUser os k) (sym (nat_same a u qa)) user_u) in
            let step : charge_in more u + pages ≡ c u + 0 = rw (qa, qb) at (pays u) in
            omega (arith, at, was, step, within)
        | false ↦ λ qa. let step : charge_in more u + 0 ≡ c u + 0 = rw (qa, qb) at (pays u) in omega (arith, step)
      ] refl
    ] refl in e in
    record {
      rows = row_kept maps.rows after.rows os more b n r m.rows
          (λ other k. row_found n k b r f o os other (λ x. refl) found (row_read o.rows user r other are)) set;
      users = users_of after.users os more (charge_in more)
          (users_by after.users os (paying b q (paying a p c)) (charge_in more) (user_paid mid after.users os (paying a p c) b q lessened more_paid) charges)
          (λ u charge. says_same (λ (x : Option Object). kept_profile x charge) n u f o os (λ x. refl) found refl);
      unowned = λ u high.
          let none = m.unowned u high in
          let new : b < h.next = user_given h b given is in
          let other : (b == u) ≡ false = grind (arith, nat_tests) in
          elim (a == u) as (λ x. (a == u) ≡ x → charge_in more u ≡ 0) [
            | true ↦ λ qa. let at : c a ≡ c u = ap c (nat_same a u qa) in absurd (omega (arith, none, at, within, some_page o.body))
            | false ↦ λ qa. let step : charge_in more u + 0 ≡ c u + 0 = rw (qa, other) at (pays u) in omega (arith, step, none)
          ] refl;
    }
