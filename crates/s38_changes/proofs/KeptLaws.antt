-- What is kept of users stays what the objects say: a law for each change of the objects.
use Rattle.std.proofs.Common.{◌≡◌, ℕ, ◌+◌, ◌<◌, ◌≤◌, ◌==◌, true, false, cond, List, length, refl, sym, ◌∙◌, ap, subst, arith}
use Rattle.std.proofs.lemmas.Bool.Decides.{nat_tests}
use Rattle.std.specs.Prelude.{◌&&◌, All, Option, Some, None, IsSome}
use Rattle.std.specs.Option.{option_map}
use Rattle.s38_base.specs.declared.id.Id.{Id}
use Rattle.s38_base.specs.declared.id.ObjNum.{ObjNum}
use Rattle.s38_base.specs.declared.rights.Rights.{Rights}
use Rattle.s38_base.specs.declared.rights.Special.{Special}
use Rattle.s38_memory.specs.declared.cell.Cell.{Cell}
use Rattle.s38_indexes.specs.Entries.{EntryIndex}
use Rattle.s38_queues.specs.MessageQueue.{MessageQueue}
use Rattle.s38_profiles.specs.declared.profile.Profile.{Profile}
use Rattle.s38_profiles.specs.ProfileMaps.{ProfileMaps}
use Rattle.s38_profiles.specs.Rows.{Rows, SetsRow, row_at, row_key, row_with}
use Rattle.s38_profiles.specs.Users.{SetsUser, Users, charge_in as charge_of, entered, user_at}
use Rattle.s38_rules.specs.declared.object.Body.{Body}
use Rattle.s38_rules.specs.declared.object.Body.TheVariants as bodies
use Rattle.s38_rules.specs.declared.object.Object.{Object}
use Rattle.s38_rules.specs.state.Headers.{rights_in_row}
use Rattle.s38_rules.specs.state.Held.{Held, change, change_in, charge_in, moved, object, object_in, pages_for, pages_of, renamed, space_pages}
use Rattle.s38_rules.specs.state.Keeping.{AreKeptRows, AreUsers, IsUser}
use Rattle.s38_rules.specs.state.Kept.{Mirrors, kept_profile, kept_row, profile_by}
use Rattle.s38_rules.specs.state.Parts.{Part, index_part, over, over_object, over_part, profile_part, queue_part, space_part}
use Rattle.s38_rules.specs.state.PartsAt.{cells_at, on_index, on_queue, on_space, set_profile}
use Rattle.s38_rules.specs.state.LawfulParts.{IsPart, index_lawful, queue_lawful}
use Rattle.s38_rules.specs.state.PrivateRows.{AreRows, row_of}
use Rattle.s38_rules.specs.state.Access.{access_of, granted, on_access, open_to_all, with_access}
use Rattle.s38_rules.proofs.ChargeLaws.{KeepsNumber, change_absent, charge_changed, charge_same, number_of, object_above, object_changed}
use Rattle.s38_rules.proofs.RowLaws.{row_read}
use Rattle.s38_rules.proofs.UserLaws.{charge_kept, charge_most, row_kept, rows_of, user_set, user_there, users_by, users_of}

-- the numbers that were not given are those of no object
abbrev pub AreGiven : Held → Type 0
AreGiven h = (n : ℕ) → h.next ≤ n → object h n ≡ None

pub given_by : (h : Held) → All (λ o. number_of o < h.next) h.objects → AreGiven h
given_by h all n high = object_above n h.next h.objects all high

pub nat_same : (a b : ℕ) → (a == b) ≡ true → a ≡ b
nat_same a b h = grind (arith, nat_tests)

some_none : (x : Object) → Some x ≡ None → ⊥
some_none x h = cc

-- ---- one object is another one

-- what is found once the object of a number was changed
pub found_changed : (n m : ℕ) (f : Object → Object) (o : Object) (os : List Object) → KeepsNumber f → object_in os n ≡ Some o
    → object_in (change_in os n f) m ≡ cond (n == m) (Some (f o)) (object_in os m)
found_changed n m f o os keeps found =
    object_changed n m f os keeps
    ∙ elim (n == m) as (λ c. (n == m) ≡ c → cond c (option_map f (object_in os m)) (object_in os m) ≡ cond c (Some (f o)) (object_in os m)) [
      | true ↦ λ q. ap (λ (k : ℕ). option_map f (object_in os k)) (sym (nat_same n m q)) ∙ ap (option_map f) found
      | false ↦ λ q. refl
    ] refl

-- what says the same of the changed object says the same of each
pub says_same : {T : Type 0} (g : Option Object → T) (n m : ℕ) (f : Object → Object) (o : Object) (os : List Object) → KeepsNumber f → object_in os n ≡ Some o → g (Some (f o)) ≡ g (Some o)
    → g (object_in (change_in os n f) m) ≡ g (object_in os m)
says_same g n m f o os keeps found same =
    ap g (found_changed n m f o os keeps found)
    ∙ elim (n == m) as (λ c. (n == m) ≡ c → g (cond c (Some (f o)) (object_in os m)) ≡ g (object_in os m)) [
      | true ↦ λ q. same ∙ sym (ap g found) ∙ ap (λ (k : ℕ). g (object_in os k)) (nat_same n m q)
      | false ↦ λ q. refl
    ] refl

-- a change of an object that leaves all that is kept of users
pub record Leaves (f : Object → Object) (o : Object) : Type 0 where
  pub owner : (f o).owner ≡ o.owner
  pub rows : (f o).rows ≡ o.rows
  pub pages : pages_of (f o).body ≡ pages_of o.body
  pub profile : (charge : ℕ) → profile_by (f o).body charge ≡ profile_by o.body charge

pays_same : (user : ℕ) (f : Object → Object) (o : Object) → (f o).owner ≡ o.owner → pages_of (f o).body ≡ pages_of o.body → pages_for user (f o) ≡ pages_for user o
pays_same user f o owner pages =
    ap (λ (k : ObjNum). cond (k.0 == user) (pages_of (f o).body) 0) owner ∙ ap (λ (p : ℕ). cond (o.owner.0 == user) p 0) pages

left_found : (maps : ProfileMaps) (h : Held) (n : ℕ) (f : Object → Object) (o : Object) → KeepsNumber f → object h n ≡ Some o → Leaves f o → Mirrors maps h → Mirrors maps (change h n f)
left_found maps h n f o keeps found leaves m =
    let charges = λ (user : ℕ).
    let same : pages_for user (f o) ≡ pages_for user o = pays_same user f o leaves.owner leaves.pages in
    let e : charge_in (change_in h.objects n f) user ≡ charge_in h.objects user = omega (arith, charge_changed user n f o h.objects found, same) in e in
    record {
      rows = rows_of maps.rows h.objects (change_in h.objects n f) m.rows
          (λ user k. says_same (λ (r : Option Object). rights_in_row r user) n k f o h.objects keeps found (ap (λ r. row_of r user) leaves.rows));
      users = users_by maps.users (change_in h.objects n f) (charge_in h.objects) (charge_in (change_in h.objects n f))
          (users_of maps.users h.objects (change_in h.objects n f) (charge_in h.objects) m.users
          (λ user charge. says_same (λ (r : Option Object). kept_profile r charge) n user f o h.objects keeps found (leaves.profile charge)))
          (λ user there. sym (charges user));
      unowned = λ user high. charges user ∙ m.unowned user high;
    }

-- what leaves all that is kept of users keeps it
pub left : (maps : ProfileMaps) (h : Held) (n : ℕ) (f : Object → Object) → KeepsNumber f → ((o : Object) → object h n ≡ Some o → Leaves f o) → Mirrors maps h → Mirrors maps (change h n f)
left maps h n f keeps leaves m =
    elim (object h n) as (λ r. object h n ≡ r → Mirrors maps (change h n f)) [
      | None ↦ λ q. subst (λ (os : List Object). Mirrors maps (record h { objects = os })) (sym (change_absent n f h.objects q)) m
      | Some o ↦ λ q. left_found maps h n f o keeps q (leaves o q) m
    ] refl

pub renamed_kept : (maps : ProfileMaps) (h : Held) (n : ℕ) (id : Id) → Mirrors maps h → Mirrors maps (renamed h n id)
renamed_kept maps h n id m =
    left maps h n (λ o. record o { id = id }) (λ o. refl) (λ o there. record { owner = refl; rows = refl; pages = refl; profile = λ charge. refl }) m

pub moved_kept : (maps : ProfileMaps) (h : Held) (n : ℕ) (context : ObjNum) → Mirrors maps h → Mirrors maps (moved h n context)
moved_kept maps h n context m =
    left maps h n (λ o. record o { context = context }) (λ o. refl) (λ o there. record { owner = refl; rows = refl; pages = refl; profile = λ charge. refl }) m

pub public_kept : (maps : ProfileMaps) (h : Held) (n : ℕ) (r : Rights) → Mirrors maps h → Mirrors maps (on_access h n (open_to_all r))
public_kept maps h n r m =
    left maps h n (λ o. with_access (open_to_all r (access_of o)) o) (λ o. refl) (λ o there. record { owner = refl; rows = refl; pages = refl; profile = λ charge. refl }) m

-- a part of which nothing is kept: its object takes one page, and is no user
pub record IsUnkept (T : Type 0) (p : Part T) : Type 0 where
  pub pages : (x : T) → pages_of (p.make x) ≡ 1
  pub profile : (x : T) (charge : ℕ) → profile_by (p.make x) charge ≡ None

pages_left : {T : Type 0} (p : Part T) (lawful : IsPart T p) (free : IsUnkept T p) (f : T → T) (b : Body) (r : Option T) → p.of b ≡ r → pages_of (over p f b r) ≡ pages_of b
pages_left p lawful free f b None e = refl
pages_left p lawful free f b (Some x) e = free.pages (f x) ∙ sym (ap pages_of (lawful.back b x e) ∙ free.pages x)

profile_left : {T : Type 0} (p : Part T) (lawful : IsPart T p) (free : IsUnkept T p) (f : T → T) (b : Body) (charge : ℕ) (r : Option T) → p.of b ≡ r → profile_by (over p f b r) charge ≡ profile_by b charge
profile_left p lawful free f b charge None e = refl
profile_left p lawful free f b charge (Some x) e =
    free.profile (f x) charge ∙ sym (ap (λ (c : Body). profile_by c charge) (lawful.back b x e) ∙ free.profile x charge)

part_leaves : {T : Type 0} (p : Part T) (lawful : IsPart T p) (free : IsUnkept T p) (f : T → T) (o : Object) → Leaves (over_object p f) o
part_leaves p lawful free f o =
    record {
      owner = refl;
      rows = refl;
      pages = pages_left p lawful free f o.body (p.of o.body) refl;
      profile = λ charge. profile_left p lawful free f o.body charge (p.of o.body) refl;
    }

-- what an object of such a kind holds is something else
pub part_unkept : {T : Type 0} (p : Part T) (lawful : IsPart T p) (free : IsUnkept T p) (maps : ProfileMaps) (h : Held) (n : ℕ) (f : T → T) → Mirrors maps h → Mirrors maps (over_part p h n f)
part_unkept p lawful free maps h n f m = left maps h n (over_object p f) (λ o. refl) (λ o there. part_leaves p lawful free f o) m

queue_free : IsUnkept MessageQueue queue_part
queue_free = record { pages = λ x. refl; profile = λ x charge. refl }

-- the messages of a queue are others
pub queue_kept : (maps : ProfileMaps) (h : Held) (n : ℕ) (f : MessageQueue → MessageQueue) → Mirrors maps h → Mirrors maps (on_queue h n f)
queue_kept maps h n f m = part_unkept queue_part queue_lawful queue_free maps h n f m

index_free : IsUnkept EntryIndex index_part
index_free = record { pages = λ x. refl; profile = λ x charge. refl }

-- the entries of an index are others
pub index_kept : (maps : ProfileMaps) (h : Held) (n : ℕ) (f : EntryIndex → EntryIndex) → Mirrors maps h → Mirrors maps (on_index h n f)
index_kept maps h n f m = part_unkept index_part index_lawful index_free maps h n f m

space_leaves : (h : Held) (n : ℕ) (f : List Cell → List Cell) (o : Object) (b : Body) → length (f (cells_at h n)) ≡ length (cells_at h n) → object h n ≡ Some o → o.body ≡ b → Leaves (over_object space_part f) o
space_leaves h n f o (bodies.Space cells) many there e =
    let here : cells_at h n ≡ cells = rw (there, e) refl in
    let same : length (f cells) ≡ length cells = ap (λ (c : List Cell). length (f c)) (sym here) ∙ many ∙ ap (λ (c : List Cell). length c) here in
    record { owner = refl; rows = refl; pages = rw e (ap (λ (k : ℕ). 1 + space_pages k) same); profile = λ charge. rw e refl }
space_leaves h n f o _ many there e = record { owner = refl; rows = refl; pages = rw e refl; profile = λ charge. rw e refl }

-- the cells of a space are others, and as many
pub cells_kept : (maps : ProfileMaps) (h : Held) (n : ℕ) (f : List Cell → List Cell) → length (f (cells_at h n)) ≡ length (cells_at h n) → Mirrors maps h → Mirrors maps (on_space h n f)
cells_kept maps h n f many m = left maps h n (over_object space_part f) (λ o. refl) (λ o there. space_leaves h n f o o.body many there refl) m

-- ---- a row is set

-- the rights of one user on the object are others
pub row_found : (n k user : ℕ) (r : Rights) (f : Object → Object) (o : Object) (os : List Object) (other : ℕ) → KeepsNumber f → object_in os n ≡ Some o
    → row_of (f o).rows other ≡ cond (user == other) r.0 (row_of o.rows other)
    → rights_in_row (object_in (change_in os n f) k) other ≡ cond ((user == other) && (n == k)) r.0 (rights_in_row (object_in os k) other)
row_found n k user r f o os other keeps found set =
    ap (λ (x : Option Object). rights_in_row x other) (found_changed n k f o os keeps found)
    ∙ elim (n == k) as (λ c. (n == k) ≡ c → rights_in_row (cond c (Some (f o)) (object_in os k)) other ≡ cond ((user == other) && c) r.0 (rights_in_row (object_in os k) other)) [
      | true ↦ λ q.
          let here : rights_in_row (object_in os k) other ≡ row_of o.rows other = ap (λ (m : ℕ). rights_in_row (object_in os m) other) (sym (nat_same n k q)) ∙ ap (λ (x : Option Object). rights_in_row x other) found in
          set ∙ elim (user == other) as (λ d. cond d r.0 (row_of o.rows other) ≡ cond (d && true) r.0 (rights_in_row (object_in os k) other)) [
            | true ↦ refl
            | false ↦ sym here
          ]
      | false ↦ λ q. elim (user == other) as (λ d. rights_in_row (object_in os k) other ≡ cond (d && false) r.0 (rights_in_row (object_in os k) other)) [ true ↦ refl | false ↦ refl ]
    ] refl

-- the rights of a user on an object that is there are set
pub granted_kept : (maps after : ProfileMaps) (h : Held) (n : ℕ) (o : Object) (user : ObjNum) (r : Rights) → object h n ≡ Some o → AreRows o.rows
    → SetsRow maps.rows (row_key user.0 n) (row_with r) after.rows → after.users ≡ maps.users → Mirrors maps h → Mirrors after (on_access h n (granted user r))
granted_kept maps after h n o user r found are set users m =
    let f = λ (x : Object). with_access (granted user r (access_of x)) x in
    let charges = λ (u : ℕ). let e : charge_in (change_in h.objects n f) u ≡ charge_in h.objects u = charge_same u n f h.objects (λ x. refl) in e in
    record {
      rows = row_kept maps.rows after.rows h.objects (change_in h.objects n f) user.0 n r m.rows
          (λ other k. row_found n k user.0 r f o h.objects other (λ x. refl) found (row_read o.rows user r other are)) set;
      users = subst (λ (us : Users). AreUsers us (change_in h.objects n f) (charge_in (change_in h.objects n f))) (sym users)
          (users_by maps.users (change_in h.objects n f) (charge_in h.objects) (charge_in (change_in h.objects n f))
          (users_of maps.users h.objects (change_in h.objects n f) (charge_in h.objects) m.users
          (λ u charge. says_same (λ (x : Option Object). kept_profile x charge) n u f o h.objects (λ x. refl) found refl))
          (λ u there. sym (charges u)));
      unowned = λ u high. charges u ∙ m.unowned u high;
    }

-- ---- who pays

-- a profile has other specials and another limit
pub profile_kept : (maps after : ProfileMaps) (h : Held) (n : ℕ) (o : Object) (special was_special : Special) (limit was_limit : ℕ) → object h n ≡ Some o → o.body ≡ bodies.Profile was_special was_limit
    → SetsUser maps.users n (Some (entered special limit (user_at maps.users n))) after.users → after.rows ≡ maps.rows → Mirrors maps h → Mirrors after (set_profile h n special limit)
profile_kept maps after h n o special was_special limit was_limit found e set same m =
    let os = h.objects in
    let f = over_object profile_part (λ _. (special, limit)) in
    let more = change_in os n f in
    let is : IsUser os n = rw (found, e) refl in
    let kept : charge_of (user_at maps.users n) ≡ charge_in os n = charge_kept maps.users os (charge_in os) n m.users is in
    let pays = λ (u : ℕ).
    let one : pages_of (f o).body ≡ pages_of o.body = rw e refl in
    let step : pages_for u (f o) ≡ pages_for u o = ap (λ (p : ℕ). cond (o.owner.0 == u) p 0) one in
    let r : charge_in more u ≡ charge_in os u = omega (arith, step, charge_changed u n f o os found) in r in
    record {
      rows = subst (λ (rs : Rows). AreKeptRows rs more) (sym same)
          (rows_of maps.rows os more m.rows (λ user k. says_same (λ (r : Option Object). rights_in_row r user) n k f o os (λ x. refl) found refl));
      users = users_by after.users more (charge_in os) (charge_in more)
          (user_set maps.users after.users os more (charge_in os) n (Some (entered special limit (user_at maps.users n))) m.users
          (λ u. ap (λ (x : Option Object). kept_profile x (charge_in os u)) (found_changed n u f o os (λ x. refl) found)
          ∙ elim (n == u) as (λ c. (n == u) ≡ c → kept_profile (cond c (Some (f o)) (object_in os u)) (charge_in os u) ≡ cond c (Some (entered special limit (user_at maps.users n))) (kept_profile (object_in os u) (charge_in os u))) [
            | true ↦ λ q.
                let body : profile_by (f o).body (charge_in os u) ≡ Some (record { special = special; limit = limit; charge = charge_in os u }) = rw e refl in
                body ∙ ap (λ (k : ℕ). Some (record { special = special; limit = limit; charge = k })) (ap (charge_in os) (sym (nat_same n u q)) ∙ sym kept)
            | false ↦ λ q. refl
          ] refl)
          set)
          (λ u there. sym (pays u));
      unowned = λ u high. pays u ∙ m.unowned u high;
    }

-- ---- a new object

-- what is kept of the number of a new object before it is there
pub none_yet : (maps : ProfileMaps) (h : Held) → AreGiven h → Mirrors maps h → user_at maps.users h.next ≡ None
none_yet maps h given m =
    m.users h.next ∙ ap (λ (x : Option Object). kept_profile x (charge_in h.objects h.next)) (given h.next (omega arith))

-- ---- what is read

-- what reads the same says the same
pub read_kept : (maps after : ProfileMaps) (h : Held) → ((user n : ℕ) → row_at after.rows (row_key user n) ≡ row_at maps.rows (row_key user n)) → ((user : ℕ) → user_at after.users user ≡ user_at maps.users user)
    → Mirrors maps h → Mirrors after h
read_kept maps after h rows users m = record { rows = λ user n. rows user n ∙ m.rows user n; users = λ user. users user ∙ m.users user; unowned = m.unowned }

-- the rows of an object that is there
pub rows_read : (maps : ProfileMaps) (h : Held) (n : ℕ) (o : Object) → object h n ≡ Some o → Mirrors maps h → (user : ℕ) → row_at maps.rows (row_key user n) ≡ kept_row (row_of o.rows user)
rows_read maps h n o found m user = m.rows user n ∙ ap (λ (x : Option Object). kept_row (rights_in_row x user)) found

-- a number that was not given has no row
pub no_row_yet : (maps : ProfileMaps) (h : Held) (user : ℕ) → AreGiven h → Mirrors maps h → row_at maps.rows (row_key user h.next) ≡ None
no_row_yet maps h user given m = m.rows user h.next ∙ ap (λ (x : Option Object). kept_row (rights_in_row x user)) (given h.next (omega arith))

-- a profile that is there is a user
pub profile_there : (maps : ProfileMaps) (h : Held) (n : ℕ) (o : Object) (special : Special) (limit : ℕ) → object h n ≡ Some o → o.body ≡ bodies.Profile special limit → Mirrors maps h → IsSome (user_at maps.users n)
profile_there maps h n o special limit found e m =
    let is : IsUser h.objects n = rw (found, e) refl in
    user_there maps.users h.objects (charge_in h.objects) n m.users is

-- what is kept of a user's charge is no more than what it pays for
pub charge_read : (maps : ProfileMaps) (h : Held) (user : ℕ) → Mirrors maps h → charge_of (user_at maps.users user) ≤ charge_in h.objects user
charge_read maps h user m = let e = ap charge_of (m.users user) in omega (arith, e, charge_most (object h user) (charge_in h.objects user))
