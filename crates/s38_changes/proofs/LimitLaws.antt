-- What a user pays for, against what its profile allows: one that is no profile may own nothing.
use Rattle.std.proofs.Common.{◌≡◌, ℕ, ◌+◌, ◌-◌, ◌≤◌, ◌==◌, Bool, true, false, cond, not, List, [], ◌∷◌, refl, sym, ◌∙◌, ap, arith}
use Rattle.std.proofs.lemmas.Bool.Decides.{nat_tests}
use Rattle.std.specs.Prelude.{Option, Some, None, ◌&&◌, ◌||◌, nat_lt}
use Rattle.std.specs.List.{list_any}
use Rattle.s38_rules.specs.declared.object.Body.{Body}
use Rattle.s38_rules.specs.declared.object.Body.TheVariants as bodies
use Rattle.s38_rules.specs.declared.object.Object.{Object}
use Rattle.s38_rules.specs.ask.Authority.{is_profile, rights_that_count}
use Rattle.s38_rules.specs.families.Creation.{limit_in, pages_rule}
use Rattle.s38_rules.specs.state.Headers.{limit_of}
use Rattle.s38_rules.specs.state.Held.{Held, charge_beside, charge_in, has_number, object, object_in, pages_of, without_in}
use Rattle.s38_rules.specs.families.Profiles.{is_owner, is_profile_in, owns}
use Rattle.s38_rules.specs.families.Spaces.{owner_pays}
use Rattle.s38_rules.proofs.ChargeLaws.{AreRising, beside_found, charge_first, charge_none, charge_without, other_pages, own_pages, some_page}

both_pass : (a b pages : ℕ) → 1 ≤ pages → nat_lt 0 (a + pages) ≡ nat_lt 0 (b + pages)
both_pass a b pages h = grind (arith, nat_tests)

by_body : (b : Body) (paid others pages : ℕ) → 1 ≤ pages → (is_profile b ≡ true → paid ≡ others) → nat_lt (limit_of b) (paid + pages) ≡ nat_lt (limit_of b) (others + pages)
by_body (bodies.Profile special limit) paid others pages h same = ap (λ n. nat_lt limit (n + pages)) (same refl)
by_body bodies.Context paid others pages h same = both_pass paid others pages h
by_body _ paid others pages h same = both_pass paid others pages h

by_object : (o : Option Object) (paid others pages : ℕ) → 1 ≤ pages → (is_profile_in o ≡ true → paid ≡ others) → nat_lt (limit_in o) (paid + pages) ≡ nat_lt (limit_in o) (others + pages)
by_object None paid others pages h same = both_pass paid others pages h
by_object (Some o) paid others pages h same = by_body o.body paid others pages h same

counted_there : (o : Option Object) (charge : ℕ) → is_profile_in o ≡ true → rights_that_count o charge ≡ charge
counted_there None charge h = cc
counted_there (Some o) charge h = rw h refl

some_none : (x : Object) → Some x ≡ None → ⊥
some_none x h = cc

-- no object has the number, and none is left out
pub without_absent : (n : ℕ) (os : List Object) → object_in os n ≡ None → without_in os n ≡ os
without_absent n [] h = refl
without_absent n (o ∷ os) h =
    elim (has_number n o) as (λ b. cond b (Some o) (object_in os n) ≡ None → cond (not b) (o ∷ without_in os n) (without_in os n) ≡ o ∷ os) [
      | true ↦ λ g. absurd (some_none o g)
      | false ↦ λ g. ap (λ (l : List Object). o ∷ l) (without_absent n os g)
    ] h

-- no object has the number, and nobody owns it
pub nobody_allowed : (h : Held) (n pages : ℕ) → object h n ≡ None → AreRising h.objects → pages_rule h 0 (charge_in h.objects 0 + pages) 0 ≡ owner_pays h n pages
unfolding owner_pays charge_beside
nobody_allowed h n pages none rising =
    let gone : without_in h.objects n ≡ h.objects = without_absent n h.objects none in
    rw (none, gone) refl

-- those that a user pays for, and so many more
pub more_allowed : (h : Held) (user pages : ℕ) → 1 ≤ pages
    → nat_lt (limit_in (object h user)) (rights_that_count (object h user) (charge_in h.objects user) + pages) ≡ nat_lt (limit_in (object h user)) (charge_in h.objects user + pages)
more_allowed h user pages some =
    by_object (object h user) (rights_that_count (object h user) (charge_in h.objects user)) (charge_in h.objects user) pages some (counted_there (object h user) (charge_in h.objects user))

less_is : (o : Option Object) (charge own others : ℕ) → others + own ≡ charge → is_profile_in o ≡ true → rights_that_count o charge - own ≡ others
less_is o charge own others e there = omega (arith, counted_there o charge there, e)

-- the owner of an object pays for so many pages in the place of its own
pub owner_allowed : (h : Held) (n : ℕ) (o : Object) (pages : ℕ) → AreRising h.objects → object h n ≡ Some o → 1 ≤ pages
    → nat_lt (limit_in (object h o.owner.0)) ((rights_that_count (object h o.owner.0) (charge_in h.objects o.owner.0) - pages_of o.body) + pages) ≡ nat_lt (limit_in (object h o.owner.0)) (charge_beside h.objects n + pages)
owner_allowed h n o pages rising found some =
    by_object (object h o.owner.0) (rights_that_count (object h o.owner.0) (charge_in h.objects o.owner.0) - pages_of o.body) (charge_beside h.objects n) pages some
    (less_is (object h o.owner.0) (charge_in h.objects o.owner.0) (pages_of o.body) (charge_beside h.objects n) (beside_found n o h.objects rising found))

-- an object stays with its owner
pub own_allowed : (h : Held) (n : ℕ) (o : Object) → AreRising h.objects → object h n ≡ Some o
    → nat_lt (limit_in (object h o.owner.0)) ((rights_that_count (object h o.owner.0) (charge_in h.objects o.owner.0) - pages_of o.body) + pages_of o.body)
    ≡ nat_lt (limit_in (object h o.owner.0)) (charge_in (without_in h.objects n) o.owner.0 + pages_of o.body)
own_allowed h n o rising found =
    let pays : charge_in (without_in h.objects n) o.owner.0 + pages_of o.body ≡ charge_in h.objects o.owner.0 =
    ap (λ (p : ℕ). charge_in (without_in h.objects n) o.owner.0 + p) (sym (own_pages o)) ∙ charge_without o.owner.0 n o h.objects rising found in
    by_object (object h o.owner.0) (rights_that_count (object h o.owner.0) (charge_in h.objects o.owner.0) - pages_of o.body) (charge_in (without_in h.objects n) o.owner.0) (pages_of o.body) (some_page o.body)
    (less_is (object h o.owner.0) (charge_in h.objects o.owner.0) (pages_of o.body) (charge_in (without_in h.objects n) o.owner.0) pays)

-- an object goes to another user
pub taker_allowed : (h : Held) (n user : ℕ) (o : Object) → AreRising h.objects → object h n ≡ Some o → (o.owner.0 == user) ≡ false
    → nat_lt (limit_in (object h user)) (rights_that_count (object h user) (charge_in h.objects user) + pages_of o.body) ≡ nat_lt (limit_in (object h user)) (charge_in (without_in h.objects n) user + pages_of o.body)
taker_allowed h n user o rising found other =
    let same : charge_in (without_in h.objects n) user ≡ charge_in h.objects user = omega (arith, charge_without user n o h.objects rising found, other_pages user o other) in
    by_object (object h user) (rights_that_count (object h user) (charge_in h.objects user)) (charge_in (without_in h.objects n) user) (pages_of o.body) (some_page o.body)
    (λ there. counted_there (object h user) (charge_in h.objects user) there ∙ sym same)

-- ---- who owns an object pays for it

zero_sum : (a b : ℕ) → 1 ≤ a → (a + b == 0) ≡ false
zero_sum a b h = grind (arith, nat_tests)

none_more : (b : ℕ) → 0 + b ≡ b
none_more b = omega arith

one_owned : (b : Bool) (pages rest : ℕ) (others : Bool) → 1 ≤ pages → (rest == 0) ≡ not others → (cond b pages 0 + rest == 0) ≡ not (b || others)
one_owned true pages rest others some h = zero_sum pages rest some
one_owned false pages rest others some h = ap (λ (n : ℕ). n == 0) (none_more rest) ∙ h

nothing_owned : (user : ℕ) (os : List Object) → (charge_in os user == 0) ≡ not (list_any (owns user) os)
nothing_owned user [] = rw (charge_none user) refl
nothing_owned user (o ∷ os) =
    ap (λ (n : ℕ). n == 0) (charge_first user o os)
    ∙ one_owned (o.owner.0 == user) (pages_of o.body) (charge_in os user) (list_any (owns user) os) (some_page o.body) (nothing_owned user os)

not_twice : (b : Bool) → not (not b) ≡ b
not_twice true = refl
not_twice false = refl

charged_by : (o : Option Object) (os : List Object) (user : ℕ) → not (rights_that_count o (charge_in os user) == 0) ≡ (is_profile_in o && list_any (owns user) os)
charged_by None os user = refl
charged_by (Some o) os user =
    elim (is_profile o.body) as (λ b. not (cond b (charge_in os user) 0 == 0) ≡ (b && list_any (owns user) os)) [
      | true ↦ ap not (nothing_owned user os) ∙ not_twice (list_any (owns user) os)
      | false ↦ refl
    ]

pub owner_charged : (h : Held) (user : ℕ) → not (rights_that_count (object h user) (charge_in h.objects user) == 0) ≡ is_owner h user
owner_charged h user = charged_by (object h user) h.objects user
