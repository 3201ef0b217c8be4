-- What holds where no rule refuses a new object.
use Rattle.std.proofs.Common.{◌≡◌, ℕ, ◌+◌, ◌<◌, ◌≤◌, ◌^◌, ◌==◌, cond, true, false, ◌||◌, nat_le, nat_lt, length, Some, None, Option, refl, sym, subst, arith}
use Rattle.std.proofs.lemmas.Bool.Decides.{nat_tests}
use Rattle.s38_base.specs.declared.exception.Exception.{Exception}
use Rattle.s38_base.specs.Limits.{last_number, most_objects}
use Rattle.s38_rules.specs.declared.creating.Creating.{Creating}
use Rattle.s38_rules.specs.families.Creation.{creation_fails, creation_limits, is_taken, limit_in, maker_rows, number_rule, pages_rule}
use Rattle.s38_base.specs.declared.id.ObjNum.{ObjNum}
use Rattle.s38_objects.specs.Lawful.{is_place}
use Rattle.s38_profiles.specs.ProfileMaps.{ProfileMaps}
use Rattle.s38_profiles.specs.Rows.{Rows, SetsRow, row_key}
use Rattle.s38_profiles.specs.Users.{SetsUser, charge_in as charge_of, user_at}
use Rattle.s38_rules.specs.declared.object.Object.{Object}
use Rattle.s38_rules.specs.state.Held.{Held, charge_in, home, is_there, object, pages_of, with_object}
use Rattle.s38_rules.specs.state.Keeping.{paid}
use Rattle.s38_rules.specs.state.Kept.{Mirrors, profile_by}
use Rattle.s38_rules.proofs.ChargeLaws.{some_page}
use Rattle.s38_changes.proofs.KeptLaws.{AreGiven}
use Rattle.s38_changes.proofs.AddRemoveLaws.{added_kept}
use Rattle.s38_rules.proofs.RuleLaws.{fails_none, first_none}

left_by : (h : Held) → number_rule h ≡ None → h.next ≤ 2 ^ 62
left_by h e =
    let none : (nat_le most_objects (length h.objects) || nat_lt last_number h.next) ≡ false = fails_none _ _ _ e in
    grind (arith, nat_tests)

left_within : (h : Held) (owner pages : ℕ) → creation_limits h owner pages ≡ None → h.next ≤ 2 ^ 62
unfolding creation_limits
left_within h owner pages e = left_by h (first_none _ _ e).1

-- a number is left
pub number_left : (h : Held) (owner : ℕ) (made : Creating) (own : Option Exception) → creation_fails h owner made own ≡ None → h.next ≤ 2 ^ 62
unfolding creation_fails
number_left h owner made own e = left_within h owner made.pages (first_none _ _ (first_none _ _ e).1).1

-- the identification is new
pub name_free : (h : Held) (owner : ℕ) (made : Creating) (own : Option Exception) → creation_fails h owner made own ≡ None → is_taken h made.context.0 made.id ≡ false
unfolding creation_fails
name_free h owner made own e = fails_none _ _ _ (first_none _ _ e).0

-- ---- who pays for a new object

paid_within : (h : Held) (owner pages : ℕ) → creation_limits h owner pages ≡ None → pages_rule h owner (charge_in h.objects owner + pages) 0 ≡ None
unfolding creation_limits
paid_within h owner pages e = (first_none _ _ e).0

-- its owner may
pub paid_for : (h : Held) (owner : ℕ) (made : Creating) (own : Option Exception) → creation_fails h owner made own ≡ None → pages_rule h owner (charge_in h.objects owner + made.pages) 0 ≡ None
unfolding creation_fails
paid_for h owner made own e = paid_within h owner made.pages (first_none _ _ (first_none _ _ e).1).1

no_limit : (pages : ℕ) → 1 ≤ pages → nat_lt 0 pages ≡ false → ⊥
no_limit pages some h = absurd (grind (arith, nat_tests))

payer_there : (o : Option Object) (charge pages : ℕ) → 1 ≤ pages → nat_lt (limit_in o) (charge + pages) ≡ false → o ≡ None → ⊥
payer_there None charge pages some h e = no_limit (charge + pages) (omega (arith, some)) h
payer_there (Some o) charge pages some h e = cc

below : (a b : ℕ) → nat_le b a ≡ false → a < b
below a b h = grind (arith, nat_tests)

-- who may pay is there, so its number was given
pub payer_given : (h : Held) (user charge pages operand : ℕ) → 1 ≤ pages → AreGiven h → pages_rule h user (charge + pages) operand ≡ None → user < h.next
payer_given h user charge pages operand some given e =
    let allowed : nat_lt (limit_in (object h user)) (charge + pages) ≡ false = fails_none _ _ _ e in
    below user h.next (elim (nat_le h.next user) as (λ b. nat_le h.next user ≡ b → b ≡ false) [
      | true ↦ λ q. let high : h.next ≤ user = grind (arith, nat_tests) in absurd (payer_there (object h user) charge pages some allowed (given user high))
      | false ↦ λ q. refl
    ] refl)

-- what was prepared for a new object, and what its owner pays from then on, is what is kept with it
pub addition_kept : (maps mid after : ProfileMaps) (h new : Held) (o : Object) (number : ObjNum) → number.0 ≡ h.next → AreGiven h → o.number.0 ≡ h.next
    → pages_rule h o.owner.0 (charge_in h.objects o.owner.0 + pages_of o.body) 0 ≡ None → o.rows ≡ maker_rows o.owner.0
    → SetsRow maps.rows (row_key o.owner.0 number.0) (Some (record { 0 = 255 })) mid.rows → SetsUser maps.users number.0 (profile_by o.body 0) mid.users
    → SetsUser mid.users o.owner.0 (paid (charge_of (user_at mid.users o.owner.0) + pages_of o.body) (user_at mid.users o.owner.0)) after.users
    → after.rows ≡ mid.rows → new ≡ with_object h o → Mirrors maps h → Mirrors after new
addition_kept maps mid after h new o number next given own allowed rows row user paying same made m =
    let owner : o.owner.0 < h.next = payer_given h o.owner.0 (charge_in h.objects o.owner.0) (pages_of o.body) 0 (some_page o.body) given allowed in
    let entered : SetsUser maps.users h.next (profile_by o.body 0) mid.users = subst (λ (n : ℕ). SetsUser maps.users n (profile_by o.body 0) mid.users) next user in
    let set : SetsRow maps.rows (row_key o.owner.0 h.next) (Some (record { 0 = 255 })) after.rows =
    subst (λ (rs : Rows). SetsRow maps.rows (row_key o.owner.0 h.next) (Some (record { 0 = 255 })) rs) (sym same)
    (subst (λ (n : ℕ). SetsRow maps.rows (row_key o.owner.0 n) (Some (record { 0 = 255 })) mid.rows) next row) in
    subst (λ (k : Held). Mirrors after k) (sym made) (added_kept maps after mid.users h o (record { 0 = 255 }) given own owner rows entered paying set m)

-- ---- where a new object is put

-- a home is a place
pub home_placed : (h : Held) (context : ℕ) → is_place h (home h context).0 ≡ true
home_placed h context =
    elim (is_there h context) as (λ b. is_there h context ≡ b → is_place h (cond b context 0) ≡ true) [
      | true ↦ λ q. rw q (elim (context == 0) as (λ c. (c || true) ≡ true) [ true ↦ refl | false ↦ refl ])
      | false ↦ λ q. refl
    ] refl
