-- What is kept of users and of their rows, after one of them was set.
use Rattle.std.proofs.Common.{◌≡◌, ℕ, ◌≤◌, ◌==◌, true, false, cond, List, refl, sym, ◌∙◌, ap, subst, arith}
use Rattle.std.proofs.lemmas.Bool.Decides.{nat_tests}
use Rattle.std.specs.Prelude.{◌&&◌, Option, Some, None, IsSome}
use Rattle.s38_base.specs.declared.rights.Rights.{Rights}
use Rattle.s38_profiles.specs.declared.profile.Profile.{Profile}
use Rattle.s38_profiles.specs.Rows.{Rows, SetsRow, row_at, row_key, row_with}
use Rattle.s38_profiles.specs.Users.{SetsUser, Users, charge_in as charge_of, charged, user_at}
use Rattle.s38_rules.specs.declared.object.Body.{Body}
use Rattle.s38_rules.specs.declared.object.Body.TheVariants as bodies
use Rattle.s38_rules.specs.declared.object.Object.{Object}
use Rattle.s38_rules.specs.state.Headers.{rights_in_row}
use Rattle.s38_rules.specs.state.Held.{object_in}
use Rattle.s38_rules.specs.state.Keeping.{AreKeptRows, AreUsers, IsUser, paid, paying}
use Rattle.s38_rules.specs.state.Kept.{kept_profile, kept_row, profile_by}

nat_same : (a b : ℕ) → (a == b) ≡ true → a ≡ b
nat_same a b h = grind (arith, nat_tests)

-- ---- a charge is set, of a user that is there

unset : (users : Users) (user : ℕ) (profile : Option Profile) → profile ≡ user_at users user → SetsUser users user profile users
unset users user profile same other =
    elim (user == other) as (λ c. (user == other) ≡ c → user_at users other ≡ cond c profile (user_at users other)) [
      | true ↦ λ q. ap (λ (k : ℕ). user_at users k) (sym (nat_same user other q)) ∙ sym same
      | false ↦ λ q. refl
    ] refl

pub left_unset : (users : Users) (user : ℕ) → user_at users user ≡ None → SetsUser users user None users
left_unset users user none = unset users user None (sym none)

-- ---- users

body_paid : (b : Body) (before pages : ℕ) → paid pages (profile_by b before) ≡ profile_by b pages
body_paid (bodies.Profile special limit) before pages = refl
body_paid _ before pages = refl

pub kept_paid : (o : Option Object) (before pages : ℕ) → paid pages (kept_profile o before) ≡ kept_profile o pages
kept_paid None before pages = refl
kept_paid (Some o) before pages = body_paid o.body before pages

none_paid : (p : Option Profile) (pages : ℕ) → p ≡ None → paid pages p ≡ None
none_paid p pages h = ap (paid pages) h

some_paid : (p : Option Profile) (pages : ℕ) → IsSome p → IsSome (paid pages p)
some_paid None pages h = cc
some_paid (Some p) pages h = refl

charge_paid : (p : Option Profile) (pages : ℕ) → IsSome p → charge_of (paid pages p) ≡ pages
charge_paid None pages h = cc
charge_paid (Some p) pages h = refl

-- a user that is kept is among the objects, whatever it pays for
pub user_some : (o : Option Object) (pages more : ℕ) → IsSome (kept_profile o pages) → IsSome (kept_profile o more)
user_some o pages more h = subst (λ (p : Option Profile). IsSome p) (kept_paid o pages more) (some_paid (kept_profile o pages) more h)

pub is_user : (users : Users) (os : List Object) (charges : ℕ → ℕ) (user : ℕ) → AreUsers users os charges → IsSome (user_at users user) → IsUser os user
is_user users os charges user h there =
    user_some (object_in os user) (charges user) 0 (subst (λ (p : Option Profile). IsSome p) (h user) there)

pub user_there : (users : Users) (os : List Object) (charges : ℕ → ℕ) (user : ℕ) → AreUsers users os charges → IsUser os user → IsSome (user_at users user)
user_there users os charges user h there =
    subst (λ (p : Option Profile). IsSome p) (sym (h user)) (user_some (object_in os user) 0 (charges user) there)

-- the charge that is kept of a user among the objects
pub charge_kept : (users : Users) (os : List Object) (charges : ℕ → ℕ) (user : ℕ) → AreUsers users os charges → IsUser os user → charge_of (user_at users user) ≡ charges user
charge_kept users os charges user h there =
    ap charge_of (h user ∙ sym (kept_paid (object_in os user) 0 (charges user))) ∙ charge_paid (kept_profile (object_in os user) 0) (charges user) there

body_most : (b : Body) (charge : ℕ) → charge_of (profile_by b charge) ≤ charge
body_most (bodies.Profile special limit) charge = omega arith
body_most _ charge = omega arith

-- what is kept of a user is no more than its charge
pub charge_most : (o : Option Object) (charge : ℕ) → charge_of (kept_profile o charge) ≤ charge
charge_most None charge = omega arith
charge_most (Some o) charge = body_most o.body charge

-- a charge is set
pub user_paid : (users after : Users) (os : List Object) (charges : ℕ → ℕ) (user pages : ℕ) → AreUsers users os charges
    → SetsUser users user (paid pages (user_at users user)) after → AreUsers after os (paying user pages charges)
user_paid users after os charges user pages h set other =
    set other
    ∙ elim (user == other) as (λ c. (user == other) ≡ c → cond c (paid pages (user_at users user)) (user_at users other) ≡ kept_profile (object_in os other) (cond c pages (charges other))) [
      | true ↦ λ q. ap (paid pages) (h user) ∙ kept_paid (object_in os user) (charges user) pages
          ∙ ap (λ (k : ℕ). kept_profile (object_in os k) pages) (nat_same user other q)
      | false ↦ λ q. h other
    ] refl

-- of one that is no user the charge does not matter
pub kept_by : (o : Option Object) (a b : ℕ) → (IsSome (kept_profile o 0) → a ≡ b) → kept_profile o a ≡ kept_profile o b
kept_by o a b same =
    elim (kept_profile o 0) as (λ (p : Option Profile). kept_profile o 0 ≡ p → (IsSome p → a ≡ b) → kept_profile o a ≡ kept_profile o b) [
      | None ↦ λ q s. sym (kept_paid o 0 a) ∙ none_paid (kept_profile o 0) a q ∙ sym (none_paid (kept_profile o 0) b q) ∙ kept_paid o 0 b
      | Some p ↦ λ q s. ap (kept_profile o) (s refl)
    ] refl same

-- the same charges of users, said otherwise
pub users_by : (users : Users) (os : List Object) (charges more : ℕ → ℕ) → AreUsers users os charges → ((user : ℕ) → IsUser os user → charges user ≡ more user) → AreUsers users os more
users_by users os charges more h same user = h user ∙ kept_by (object_in os user) (charges user) (more user) (same user)

-- the objects are others, and each profile says the same
pub users_of : (users : Users) (os more : List Object) (charges : ℕ → ℕ) → AreUsers users os charges
    → ((user charge : ℕ) → kept_profile (object_in more user) charge ≡ kept_profile (object_in os user) charge) → AreUsers users more charges
users_of users os more charges h same user = h user ∙ sym (same user (charges user))

-- a profile is set of a user
pub user_set : (users after : Users) (os more : List Object) (charges : ℕ → ℕ) (user : ℕ) (profile : Option Profile) → AreUsers users os charges
    → ((other : ℕ) → kept_profile (object_in more other) (charges other) ≡ cond (user == other) profile (kept_profile (object_in os other) (charges other)))
    → SetsUser users user profile after → AreUsers after more charges
user_set users after os more charges user profile h there set other =
    set other
    ∙ ap (λ (p : Option Profile). cond (user == other) profile p) (h other)
    ∙ sym (there other)

-- ---- rows

pub rows_of : (rows : Rows) (os more : List Object) → AreKeptRows rows os → ((user n : ℕ) → rights_in_row (object_in more n) user ≡ rights_in_row (object_in os n) user) → AreKeptRows rows more
rows_of rows os more h same user n = h user n ∙ sym (ap kept_row (same user n))

-- one right of a row is set
pub row_kept : (rows after : Rows) (os more : List Object) (user n : ℕ) (r : Rights) → AreKeptRows rows os
    → ((other m : ℕ) → rights_in_row (object_in more m) other ≡ cond ((user == other) && (n == m)) r.0 (rights_in_row (object_in os m) other))
    → SetsRow rows (row_key user n) (row_with r) after → AreKeptRows after more
row_kept rows after os more user n r h there set other m =
    set other m
    ∙ elim ((user == other) && (n == m)) as (λ c. cond c (row_with r) (row_at rows (row_key other m)) ≡ kept_row (cond c r.0 (rights_in_row (object_in os m) other))) [
      | true ↦ refl
      | false ↦ h other m
    ]
    ∙ sym (ap kept_row (there other m))

-- the rows of one object are there no more
pub rows_left : (rows after : Rows) (os more : List Object) (n : ℕ) → AreKeptRows rows os
    → ((user m : ℕ) → rights_in_row (object_in more m) user ≡ cond (n == m) 0 (rights_in_row (object_in os m) user))
    → ((user m : ℕ) → row_at after (row_key user m) ≡ cond (n == m) None (row_at rows (row_key user m))) → AreKeptRows after more
rows_left rows after os more n h there set user m =
    set user m
    ∙ elim (n == m) as (λ c. cond c None (row_at rows (row_key user m)) ≡ kept_row (cond c 0 (rights_in_row (object_in os m) user))) [
      | true ↦ refl
      | false ↦ h user m
    ]
    ∙ sym (ap kept_row (there user m))
