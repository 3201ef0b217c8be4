-- What is kept of users where an object is given, a profile is set, or a space gets another length.
use Rattle.std.proofs.Common.{◌≡◌, ℕ, ◌+◌, ◌-◌, ◌<◌, ◌≤◌, ◌^◌, ◌==◌, true, false, cond, List, [], ◌∷◌, refl, sym, ◌∙◌, ap, subst, arith}
use Rattle.std.proofs.lemmas.Bool.Decides.{nat_tests}
use Rattle.std.specs.Prelude.{Option, Some, None, IsSome, OnErr, OnOk, Result, Ok, Err, is_some, nat_lt}
use Rattle.s38_base.specs.declared.fault.NoMemory.{NoMemory}
use Rattle.s38_base.specs.declared.id.ObjNum.{ObjNum}
use Rattle.s38_base.specs.declared.rights.Rights.{Rights}
use Rattle.s38_base.specs.declared.rights.Special.{Special}
use Rattle.s38_memory.specs.declared.cell.Cell.{Cell}
use Rattle.s38_memory.specs.Tagged.{resized}
use Rattle.s38_profiles.specs.declared.profile.Profile.{Profile}
use Rattle.s38_profiles.specs.ProfileMaps.{ProfileMaps}
use Rattle.s38_profiles.specs.Rows.{Rows, SetsRow, row_at, row_key, row_with}
use Rattle.s38_profiles.specs.Users.{SetsUser, Users, charge_in as charge_of, entered, limit_in as kept_limit, user_at}
use Rattle.s38_objects.specs.Lawful.{IsObjectMap}
use Rattle.s38_rules.specs.declared.object.Body.{Body}
use Rattle.s38_rules.specs.declared.object.Body.TheVariants as bodies
use Rattle.s38_rules.specs.declared.object.Object.{Object}
use Rattle.s38_rules.specs.families.Creation.{limit_in}
use Rattle.s38_rules.specs.families.Grants.{taker_rule}
use Rattle.s38_rules.specs.state.Headers.{limit_of}
use Rattle.s38_rules.specs.state.Held.{Held, change, change_in, charge_beside, charge_in, has_number, object, owner_in, pages_of, without, without_in}
use Rattle.s38_rules.specs.state.Keeping.{paid}
use Rattle.s38_rules.specs.state.Kept.{Mirrors, kept_profile, profile_by}
use Rattle.s38_rules.specs.state.Parts.{part_in, profile_part, space_part}
use Rattle.s38_rules.specs.state.PartsAt.{on_space, set_profile}
use Rattle.s38_rules.specs.state.PrivateRows.{AreRows}
use Rattle.s38_rules.specs.state.Access.{access_of, granted, on_access, owned_by, with_access}
use Rattle.s38_rules.specs.state.State.{State}
use Rattle.s38_rules.specs.families.Spaces.{owner_pays, pages_for_length}
use Rattle.s38_rules.proofs.ChargeLaws.{AreRising, KeepsNumber, beside_found, change_absent, charge_without, found_number, own_pages, pages_within, rising_by, some_page}
use Rattle.s38_rules.proofs.PartLaws.{part_kept}
use Rattle.s38_rules.proofs.RuleLaws.{fails_none}
use Rattle.s38_rules.proofs.UserLaws.{charge_kept, is_user, user_there}
use Rattle.s38_changes.proofs.CellLaws.{resized_length}
use Rattle.s38_changes.proofs.LimitLaws.{without_absent}
use Rattle.s38_changes.proofs.KeptLaws.{charge_read, given_by, granted_kept, profile_kept, read_kept}
use Rattle.s38_changes.proofs.AddRemoveLaws.{gone_kept}
use Rattle.s38_changes.proofs.PaymentLaws.{given_kept, resized_kept}

-- where there is no object of the number, a change leaves all
none_changed : (h : Held) (n : ℕ) (f : Object → Object) → object h n ≡ None → change h n f ≡ h
none_changed h n f none = ap (λ (os : List Object). record h { objects = os }) (change_absent n f h.objects none)

pub stays : (s : State) (n : ℕ) (f : Object → Object) → object s.held n ≡ None → s ≡ record s { held = change s.held n f }
stays s n f none = ap (λ (h : Held). record s { held = h }) (sym (none_changed s.held n f none))

-- two changes of an object are one
changed_twice : (n : ℕ) (f g : Object → Object) (os : List Object) → KeepsNumber f → change_in (change_in os n f) n g ≡ change_in os n (λ o. g (f o))
changed_twice n f g [] keeps = refl
changed_twice n f g (o ∷ os) keeps =
    elim (has_number n o) as (λ b. has_number n o ≡ b → change_in (cond b (f o ∷ os) (o ∷ change_in os n f)) n g ≡ cond b (g (f o) ∷ os) (o ∷ change_in os n (λ x. g (f x)))) [
      | true ↦ λ q. let here : has_number n (f o) ≡ true = ap (λ (k : ObjNum). k.0 == n) (keeps o) ∙ q in rw here refl
      | false ↦ λ q. rw q (ap (λ (l : List Object). o ∷ l) (changed_twice n f g os keeps))
    ] refl

-- ---- a row is set

-- a row that is set, or refused
pub row_set : (maps after : ProfileMaps) (h more : Held) (n : ℕ) (o : Object) (user : ObjNum) (r : Rights) (result : Result (Unit {0}) NoMemory) → object h n ≡ Some o → AreRows o.rows
    → OnOk result (more ≡ on_access h n (granted user r)) → OnOk result (SetsRow maps.rows (row_key user.0 n) (row_with r) after.rows) → after.users ≡ maps.users
    → OnErr result (more ≡ h) → OnErr result ((other m : ℕ) → row_at after.rows (row_key other m) ≡ row_at maps.rows (row_key other m)) → Mirrors maps h → Mirrors after more
row_set maps after h more n o user r (Ok x) found are ok set users err same m =
    subst (λ (k : Held). Mirrors after k) (sym ok) (granted_kept maps after h n o user r found are set users m)
row_set maps after h more n o user r (Err x) found are ok set users err same m =
    subst (λ (k : Held). Mirrors after k) (sym err) (read_kept maps after h same (λ other. ap (λ (us : Users). user_at us other) users) m)

-- ---- an object is given

limit_body : (b : Body) → 1 ≤ limit_of b → IsSome (profile_by b 0)
limit_body (bodies.Profile special limit) h = refl
limit_body bodies.Context h = absurd (omega (arith, h))
limit_body _ h = absurd (omega (arith, h))

limit_some : (o : Option Object) → 1 ≤ limit_in o → IsSome (kept_profile o 0)
limit_some None h = absurd (omega (arith, h))
limit_some (Some o) h = limit_body o.body h

room : (h : Held) (n user : ℕ) (o : Object) → object h n ≡ Some o → taker_rule h n user (object h n) ≡ None
    → charge_in (without_in h.objects n) user + pages_of o.body ≤ limit_in (object h user)
room h n user o found rule =
    let within : nat_lt (limit_in (object h user)) (charge_in (without_in h.objects n) user + pages_of o.body) ≡ false = fails_none _ _ _ (ap (taker_rule h n user) (sym found) ∙ rule) in
    grind (arith, nat_tests)

-- who may own an object is a user
taker_there : (maps : ProfileMaps) (h : Held) (n user : ℕ) (o : Object) → object h n ≡ Some o → taker_rule h n user (object h n) ≡ None → Mirrors maps h → IsSome (user_at maps.users user)
taker_there maps h n user o found rule m =
    user_there maps.users h.objects (charge_in h.objects) user m.users (limit_some (object h user) (omega (arith, room h n user o found rule, some_page o.body)))

paid_most : (pages : ℕ) (before : Option Profile) → charge_of (paid pages before) ≤ pages
paid_most pages None = omega arith
paid_most pages (Some p) = omega arith

nat_same : (a b : ℕ) → (a == b) ≡ true → a ≡ b
nat_same a b h = grind (arith, nat_tests)

-- what it pays for can be counted
given_room : (maps : ProfileMaps) (mid : Users) (h : Held) (n user limit : ℕ) (o : Object) → AreRising h.objects → object h n ≡ Some o → taker_rule h n user (object h n) ≡ None
    → limit ≡ limit_in (object h user) → limit < 2 ^ 32
    → SetsUser maps.users o.owner.0 (paid (charge_of (user_at maps.users o.owner.0) - pages_of o.body) (user_at maps.users o.owner.0)) mid → Mirrors maps h
    → charge_of (user_at mid user) + pages_of o.body < 2 ^ 64
given_room maps mid h n user limit o rising found rule is small set m =
    let os = h.objects in
    let a : ℕ = o.owner.0 in
    let within = room h n user o found rule in
    let pays = charge_without user n o os rising found in
    let most : charge_of (user_at mid user) ≤ charge_in (without_in os n) user =
    elim (a == user) as (λ b. (a == user) ≡ b → charge_of (user_at mid user) ≤ charge_in (without_in os n) user) [
      | true ↦ λ q.
          let at : charge_in os a ≡ charge_in os user = ap (charge_in os) (nat_same a user q) in
          let now : charge_of (user_at mid user) ≡ charge_of (paid (charge_of (user_at maps.users a) - pages_of o.body) (user_at maps.users a)) = ap charge_of (set user) ∙ rw q refl in
          let step : charge_in (without_in os n) user + pages_of o.body ≡ charge_in os user = rw q at pays in
          omega (arith, at, now, step, charge_read maps h a m, paid_most (charge_of (user_at maps.users a) - pages_of o.body) (user_at maps.users a))
      | false ↦ λ q.
          let now : charge_of (user_at mid user) ≡ charge_of (user_at maps.users user) = ap charge_of (set user) ∙ rw q refl in
          let step : charge_in (without_in os n) user + 0 ≡ charge_in os user = rw q at pays in
          omega (arith, now, step, charge_read maps h user m)
    ] refl in
    omega (arith, most, within, is, small)

limit_body_kept : (b : Body) (charge : ℕ) → kept_limit (profile_by b charge) ≡ limit_of b
limit_body_kept (bodies.Profile special limit) charge = refl
limit_body_kept bodies.Context charge = refl
limit_body_kept _ charge = refl

limit_kept : (o : Option Object) (charge : ℕ) → kept_limit (kept_profile o charge) ≡ limit_in o
limit_kept None charge = refl
limit_kept (Some o) charge = limit_body_kept o.body charge

-- what is kept of a user's limit
limit_read : (maps : ProfileMaps) (h : Held) (user : ℕ) → Mirrors maps h → kept_limit (user_at maps.users user) ≡ limit_in (object h user)
limit_read maps h user m = ap kept_limit (m.users user) ∙ limit_kept (object h user) (charge_in h.objects user)

-- an object is another user's, who has a row and pays for it
pub standing_merged : (h set owned : Held) (n : ℕ) (user : ObjNum) (r : Rights) → set ≡ on_access h n (granted user r) → owned ≡ on_access set n (owned_by user) → owned ≡ on_access h n (λ s. owned_by user (granted user r s))
standing_merged h set owned n user r first then =
    then ∙ ap (λ (k : Held). on_access k n (owned_by user)) first
    ∙ ap (λ (os : List Object). record h { objects = os })
    (changed_twice n (λ o. with_access (granted user r (access_of o)) o) (λ o. with_access (owned_by user (access_of o)) o) h.objects (λ o. refl))

pub object_given : (maps both lessened after : ProfileMaps) (h set owned : Held) (n : ℕ) (o : Object) (user : ObjNum) (r : Rights) (pages : ℕ) → IsObjectMap h → object h n ≡ Some o → AreRows o.rows
    → taker_rule h n user.0 (object h n) ≡ None → pages ≡ pages_of o.body
    → set ≡ on_access h n (granted user r) → SetsRow maps.rows (row_key user.0 n) (row_with r) both.rows → both.users ≡ maps.users → owned ≡ on_access set n (owned_by user)
    → SetsUser both.users o.owner.0 (paid (charge_of (user_at both.users o.owner.0) - pages) (user_at both.users o.owner.0)) lessened.users → lessened.rows ≡ both.rows
    → SetsUser lessened.users user.0 (paid (charge_of (user_at lessened.users user.0) + pages) (user_at lessened.users user.0)) after.users → after.rows ≡ lessened.rows
    → Mirrors maps h → Mirrors after owned
object_given maps both lessened after h set owned n o user r pages lawful found are rule is first row users then less less_rows more more_rows m =
    let a : ℕ = o.owner.0 in
    subst (λ (k : Held). Mirrors after k) (sym (standing_merged h set owned n user r first then))
    (given_kept maps after lessened.users h n o user r (given_by h lawful.given) found are (taker_there maps h n user.0 o found rule m)
    (subst (λ (us : Users). SetsUser us a (paid (charge_of (user_at us a) - pages_of o.body) (user_at us a)) lessened.users) users
    (subst (λ (k : ℕ). SetsUser both.users a (paid (charge_of (user_at both.users a) - k) (user_at both.users a)) lessened.users) is less))
    (subst (λ (k : ℕ). SetsUser lessened.users user.0 (paid (charge_of (user_at lessened.users user.0) + k) (user_at lessened.users user.0)) after.users) is more)
    (subst (λ (rs : Rows). SetsRow maps.rows (row_key user.0 n) (row_with r) rs) (sym (more_rows ∙ less_rows)) row)
    m)

-- what the new owner pays for can be counted
pub given_counted : (maps both lessened : ProfileMaps) (h : Held) (n : ℕ) (o : Object) (user limit pages : ℕ) → IsObjectMap h → object h n ≡ Some o
    → taker_rule h n user (object h n) ≡ None → pages ≡ pages_of o.body → both.users ≡ maps.users → limit ≡ kept_limit (user_at maps.users user) → limit < 2 ^ 32
    → SetsUser both.users o.owner.0 (paid (charge_of (user_at both.users o.owner.0) - pages) (user_at both.users o.owner.0)) lessened.users
    → Mirrors maps h → charge_of (user_at lessened.users user) + pages < 2 ^ 64
given_counted maps both lessened h n o user limit pages lawful found rule is users limited small less m =
    let a : ℕ = o.owner.0 in
    let fits = given_room maps lessened.users h n user limit o (rising_by h.objects lawful.rising) found rule (limited ∙ limit_read maps h user m) small
    (subst (λ (us : Users). SetsUser us a (paid (charge_of (user_at us a) - pages_of o.body) (user_at us a)) lessened.users) users
    (subst (λ (k : ℕ). SetsUser both.users a (paid (charge_of (user_at both.users a) - k) (user_at both.users a)) lessened.users) is less)) m in
    omega (arith, fits, is)

-- ---- a profile is set

no_user : IsSome (kept_profile None 0) → ⊥
no_user h = cc

entered_body : (maps after : ProfileMaps) (h : Held) (n : ℕ) (o : Object) (b : Body) (special : Special) (limit : ℕ) → object h n ≡ Some o → o.body ≡ b → IsSome (profile_by b (charge_in h.objects n))
    → SetsUser maps.users n (Some (entered special limit (user_at maps.users n))) after.users → after.rows ≡ maps.rows → Mirrors maps h → Mirrors after (set_profile h n special limit)
entered_body maps after h n o (bodies.Profile was_special was_limit) special limit found e there set same m = profile_kept maps after h n o special was_special limit was_limit found e set same m
entered_body maps after h n o bodies.Context special limit found e there set same m = absurd (no_user there)
entered_body maps after h n o _ special limit found e there set same m = absurd (no_user there)

-- a user has other specials and another limit
profile_entered : (maps after : ProfileMaps) (h : Held) (n : ℕ) (special : Special) (limit : ℕ) → IsSome (user_at maps.users n)
    → SetsUser maps.users n (Some (entered special limit (user_at maps.users n))) after.users → after.rows ≡ maps.rows → Mirrors maps h → Mirrors after (set_profile h n special limit)
profile_entered maps after h n special limit there set same m =
    elim (object h n) as (λ r. object h n ≡ r → IsSome (kept_profile r (charge_in h.objects n)) → Mirrors after (set_profile h n special limit)) [
      | None ↦ λ q g. absurd (no_user g)
      | Some o ↦ λ q g. entered_body maps after h n o o.body special limit q refl g set same m
    ] refl (subst (λ (x : Option Profile). IsSome x) (m.users n) there)

pub profile_set : (maps after : ProfileMaps) (h : Held) (n : ℕ) (special : Special) (limit : ℕ) (users : Users) (result : Result (Unit {0}) NoMemory) → is_some (user_at maps.users n) ≡ true
    → OnOk result (after ≡ record maps { users = users }) → OnOk result (SetsUser maps.users n (Some (entered special limit (user_at maps.users n))) after.users) → OnErr result (user_at maps.users n ≡ None)
    → Mirrors maps h → Mirrors after (set_profile h n special limit)
profile_set maps after h n special limit users (Ok x) there ok others added m = profile_entered maps after h n special limit there others (ap (λ (p : ProfileMaps). p.rows) ok) m
profile_set maps after h n special limit users (Err x) there ok others added m = absurd (no_user (subst (λ (p : Option Profile). IsSome p) added there))

no_part : (b : Body) (charge : ℕ) → is_some (profile_by b charge) ≡ false → profile_part.of b ≡ None
no_part (bodies.Profile special limit) charge h = cc
no_part bodies.Context charge h = refl
no_part _ charge h = refl

no_profile : (o : Option Object) (charge : ℕ) → is_some (kept_profile o charge) ≡ false → part_in profile_part o ≡ None
no_profile None charge h = refl
no_profile (Some o) charge h = no_part o.body charge h

-- where there is no such user, nothing is set
pub profile_absent : (maps : ProfileMaps) (h : Held) (n : ℕ) (special : Special) (limit : ℕ) → is_some (user_at maps.users n) ≡ false → Mirrors maps h → set_profile h n special limit ≡ h
profile_absent maps h n special limit none m =
    part_kept profile_part h n (λ _. (special, limit)) (no_profile (object h n) (charge_in h.objects n) (subst (λ (x : Option Profile). is_some x ≡ false) (m.users n) none))

-- ---- an object is gone

none_found : (x : Object) → Some x ≡ None → ⊥
none_found x h = cc

-- where there is no object of the number, none is taken out
pub none_gone : (h : Held) (n : ℕ) → object h n ≡ None → without h n ≡ h
none_gone h n none = ap (λ (os : List Object). record h { objects = os }) (without_absent n h.objects none)

-- an object that is taken out is forgotten
pub forgotten : (maps after : ProfileMaps) (h : Held) (n : ℕ) (o : Object) → IsObjectMap h → object h n ≡ Some o
    → ((user m : ℕ) → row_at after.rows (row_key user m) ≡ cond (o.number.0 == m) None (row_at maps.rows (row_key user m)))
    → ((user : ℕ) → user_at after.users user ≡ cond (o.number.0 == user) None (cond (o.owner.0 == user) (paid (charge_of (user_at maps.users o.owner.0) - pages_of o.body) (user_at maps.users o.owner.0)) (user_at maps.users user)))
    → Mirrors maps h → Mirrors after (without h n)
forgotten maps after h n o lawful found rows users m =
    let here : o.number.0 ≡ n = found_number n o h.objects found in
    subst (λ (k : ℕ). Mirrors after (without h k)) here
    (gone_kept maps after h o.number.0 o (rising_by h.objects lawful.rising) (ap (λ (k : ℕ). object h k) here ∙ found) rows users m)

-- ---- a space gets another length

-- what its owner pays for can be counted
resized_room : (maps : ProfileMaps) (h : Held) (n pages limit : ℕ) (o : Object) → AreRising h.objects → object h n ≡ Some o → owner_pays h n pages ≡ None
    → limit ≡ limit_in (object h o.owner.0) → limit < 2 ^ 32 → Mirrors maps h
    → charge_of (user_at maps.users o.owner.0) - pages_of o.body + pages < 2 ^ 64
unfolding owner_pays
resized_room maps h n pages limit o rising found rule is small m =
    let over : nat_lt (limit_in (object h (owner_in (object h n)))) (charge_beside h.objects n + pages) ≡ false = fails_none _ _ _ rule in
    let own : limit_in (object h (owner_in (object h n))) ≡ limit_in (object h o.owner.0) = ap (λ (r : Option Object). limit_in (object h (owner_in r))) found in
    let within : charge_beside h.objects n + pages ≤ limit_in (object h (owner_in (object h n))) = grind (arith, nat_tests) in
    omega (arith, own, within, is, small, beside_found n o h.objects rising found, charge_read maps h o.owner.0 m)

-- its owner pays for the pages of its new length in the place of those before
pub length_kept : (maps after : ProfileMaps) (h : Held) (n len : ℕ) (o : Object) (cells : List Cell) → object h n ≡ Some o → o.body ≡ bodies.Space cells
    → SetsUser maps.users o.owner.0 (paid (charge_of (user_at maps.users o.owner.0) - pages_of o.body + pages_for_length len) (user_at maps.users o.owner.0)) after.users
    → after.rows ≡ maps.rows → Mirrors maps h → Mirrors after (on_space h n (resized len))
length_kept maps after h n len o cells found e set same m =
    let os = h.objects in
    let a : ℕ = o.owner.0 in
    resized_kept maps after h n (resized len) o cells (charge_of (user_at maps.users a) - pages_of o.body + pages_for_length len) found e
    (λ there.
    let kept = charge_kept maps.users os (charge_in os) a m.users (is_user maps.users os (charge_in os) a m.users there) in
    let within : pages_of o.body ≤ charge_in os a = let w = pages_within n a o os found in omega (arith, w, own_pages o) in
    let many = resized_length len cells in
    omega (arith, kept, within, many))
    set same m

pub length_counted : (maps : ProfileMaps) (h : Held) (n len limit : ℕ) (o : Object) → IsObjectMap h → object h n ≡ Some o → owner_pays h n (pages_for_length len) ≡ None
    → limit ≡ kept_limit (user_at maps.users o.owner.0) → limit < 2 ^ 32 → Mirrors maps h
    → charge_of (user_at maps.users o.owner.0) - pages_of o.body + pages_for_length len < 2 ^ 64
length_counted maps h n len limit o lawful found rule is small m =
    resized_room maps h n (pages_for_length len) limit o (rising_by h.objects lawful.rising) found rule (is ∙ limit_read maps h o.owner.0 m) small m

no_space : (b : Body) → ((cells : List Cell) → b ≡ bodies.Space cells → ⊥) → space_part.of b ≡ None
no_space (bodies.Space cells) none = absurd (none cells refl)
no_space bodies.Context none = refl
no_space (bodies.Profile special limit) none = refl
no_space _ none = refl

-- the object of a number is no space, and nothing is changed
pub space_stays : (s : State) (n : ℕ) (f : List Cell → List Cell) (o : Object) → object s.held n ≡ Some o → ((cells : List Cell) → o.body ≡ bodies.Space cells → ⊥) → s ≡ record s { held = on_space s.held n f }
space_stays s n f o found none =
    ap (λ (h : Held). record s { held = h }) (sym (part_kept space_part s.held n f (ap (λ (r : Option Object). part_in space_part r) found ∙ no_space o.body none)))
