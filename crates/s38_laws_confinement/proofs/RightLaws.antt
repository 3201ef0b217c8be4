-- Where no way to a right is open for the users that act, what is permitted does not use it.
use Rattle.std.proofs.Common.{◌+◌, ◌-◌, ◌<◌, ◌==◌, ◌∙◌, ◌∷◌, ◌≡◌, ◌≢◌, ◌⊎◌, Bool, List, [], ap, arith, bit_and, bit_or, cond, false, inl, inr, length, min, refl, subst, suc, sym, true, zero, ℕ}
use Rattle.std.proofs.lemmas.Bool.Decides.{nat_tests}
use Rattle.std.proofs.lemmas.Bool.{cond_both, false≢true, true≢false}
use Rattle.std.proofs.lemmas.List.Elements.{All-cons, All-contains, All-head, All-nil, All-tail, All-weaker}
use Rattle.std.proofs.lemmas.List.Folds.{list_any_none}
use Rattle.std.proofs.lemmas.Nat.Bits.{bit_at-lt, bit_at-zero, bit_at_and, bit_at_or}
use Rattle.std.proofs.lemmas.Option.{none-some, same_Some, slice_get_read}
use Rattle.std.specs.Int.{bit_at}
use Rattle.std.specs.List.{Any as Holds, Contains}
use Rattle.std.specs.Prelude.{All, None, Option, Some, filter, not, slice_get}
use Rattle.s38_base.specs.Exceptions as exceptions
use Rattle.s38_base.specs.Limits.{last_operand}
use Rattle.s38_base.specs.Pointers.{carried_in, object_of, target_of}
use Rattle.s38_base.specs.RightNames as rights
use Rattle.s38_base.specs.Signals.{fails}
use Rattle.s38_base.specs.declared.attr.Attr.{Attr}
use Rattle.s38_base.specs.declared.exception.Exception.{Exception}
use Rattle.s38_base.specs.declared.pointer.Pointer.TheVariants as pointers
use Rattle.s38_base.specs.declared.pointer.Pointer.{Pointer}
use Rattle.s38_base.specs.declared.rights.Rights.{Rights}
use Rattle.s38_code.specs.Operations.{family_of}
use Rattle.s38_code.specs.declared.event.Request.{Request}
use Rattle.s38_code.specs.declared.operand.Operand.TheVariants as operands
use Rattle.s38_code.specs.declared.operand.Operand.{Operand}
use Rattle.s38_rules.proofs.RuleLaws.{first_none}
use Rattle.s38_rules.specs.ask.Authority.{available, governs, has_rights, is_governed, is_profile, lacks_special, missing, rights_failure, rights_that_count, row_on, source_by, sources_by, sources_on}
use Rattle.s38_rules.specs.state.Headers.{public_in, rights_in_row}
use Rattle.s38_rules.specs.state.Held.{Held, object}
use Rattle.s38_rules.specs.families.Instruction.{Instruction}
use Rattle.s38_rules.specs.ask.Needs.{first_of, need}
use Rattle.s38_rules.specs.ask.Operands.{pointer_at, pointer_of, target}
use Rattle.s38_rules.specs.families.Rows.{row}
use Rattle.s38_rules.specs.state.State.{State}
use Rattle.s38_rules.specs.ask.Users.{acting}
use Rattle.s38_rules.specs.step.Verdict.{lock_rules, refused_by}
use Rattle.s38_rules.specs.ask.RightsRules.{carried_for, claim_rule, granting_rule, rights_rule, rights_rules, subject}
use Rattle.s38_rules.specs.ask.AddressRules.{address_rule, address_rules, by_operand, is_base, is_looked_at, is_of_operand, is_pointer, item_rule, named_rule, needs_rule, object_rule, pointer_rule}
use Rattle.s38_rules.specs.declared.need.Claim.TheVariants.{Available, Granting, Ownership}
use Rattle.s38_rules.specs.declared.need.Claim.{Claim}
use Rattle.s38_rules.specs.declared.need.Named.TheVariants.{Implied, Written}
use Rattle.s38_rules.specs.declared.need.Named.{Named}
use Rattle.s38_rules.specs.declared.need.Need.{Need}
use Rattle.s38_rules.specs.declared.need.Sought.TheVariants.{Any}
use Rattle.s38_rules.specs.declared.object.Object.{Object}
use Rattle.s38_laws_confinement.proofs.NeedLaws.{IsOfFirst, SpeakSo, Speaks, SpeaksSo, row_speaks}
use Rattle.s38_laws_confinement.proofs.PointerLaws.{pointer_kept}
use Rattle.s38_laws_confinement.proofs.AccessLaws.{nat_same}
use Rattle.s38_laws_confinement.specs.Confined.{Claims, ClaimsRight, LiesIn, Uses}
use Rattle.s38_laws_confinement.specs.NoWay.{HasNoWay, IsHarmless, Lacks, NoWay, space_right}
use Rattle.s38_laws_confinement.specs.OfPointers.{OfOperand, OfPointer}

-- ---- bits

pub lacks_both : (a b r : ℕ) → Lacks r a → Lacks r b → Lacks r (bit_or a b)
lacks_both a b r la lb = bit_at_or a b r ∙ rw (la, lb) refl

pub lacks_none : (r : ℕ) → Lacks r rights.no_rights
lacks_none r = bit_at-zero r

pub has_or : (a b r : ℕ) → bit_at b r ≡ 1 → bit_at (bit_or a b) r ≡ 1
has_or a b r has = omega (arith, bit_at_or a b r, bit_at-lt a r, has)

pub lacks_by : (a r : ℕ) → (bit_at a r ≡ 1 → ⊥) → Lacks r a
lacks_by a r none = by (bit_at a r) (bit_at-lt a r) none
  where
    by : (n : ℕ) → n < 2 → (n ≡ 1 → ⊥) → n ≡ 0
    by zero few one = refl
    by (suc zero) few one = absurd (one refl)
    by (suc (suc n)) few one = omega (arith, few)

there_by : (operand : ℕ) (b : Bool) (x : Rights) → rights_failure operand (cond b None (Some x)) ≡ None → b ≡ true
there_by operand true x h = refl
there_by operand false x h = cc

-- a right that is needed is there
pub not_lacking : (operand needed there r : ℕ) → missing operand needed there ≡ None → bit_at needed r ≡ 1 → Lacks r there → ⊥
not_lacking operand needed there r h has lacks =
    let all : bit_and there needed ≡ needed = nat_same _ _ (there_by operand (has_rights needed there) _ h) in
    let bits : min (bit_at there r) (bit_at needed r) ≡ bit_at needed r = sym (bit_at_and there needed r) ∙ ap (λ n. bit_at n r) all in
    omega (arith, bits, has, lacks)

-- ---- who acts has none

-- users among those who have no way have none
pub among : (h : Held) (users acting : List ℕ) (o r : ℕ) → NoWay h users o r → All (λ u. Contains users u) acting → NoWay h acting o r
among h users acting o r closed within = record {
  given = closed.given;
  right = closed.right;
  nobody = All-weaker (λ u. Contains users u) (HasNoWay h o r) (λ u there. All-contains (HasNoWay h o r) users u closed.nobody there) acting within;
  everybody = closed.everybody;
  spaces = closed.spaces;
}

counted_lacks : (x : Option Object) (row r : ℕ) → Lacks r row → Lacks r (rights_that_count x row)
counted_lacks None row r lacks = lacks_none r
counted_lacks (Some o) row r lacks = cond_both (is_profile o.body) row rights.no_rights (Lacks r) (λ yes. lacks) (λ no. lacks_none r)

source_lacks : (h : Held) (o r user : ℕ) → Lacks r (public_in (object h o)) → HasNoWay h o r user → Lacks r (source_by h o user)
unfolding source_by
source_lacks h o r user everybody has =
    rw has.all (lacks_both (public_in (object h o)) (row_on h o user) r everybody (counted_lacks (object h user) (rights_in_row (object h o) user) r has.row))

sources_lack : (h : Held) (o r : ℕ) (acting : List ℕ) → Lacks r (public_in (object h o)) → All (HasNoWay h o r) acting → Lacks r (sources_by h o acting)
sources_lack h o r [] everybody nobody = lacks_none r
sources_lack h o r (user ∷ users) everybody nobody =
    lacks_both (source_by h o user) (sources_by h o users) r
    (source_lacks h o r user everybody (All-head (HasNoWay h o r) user users nobody))
    (sources_lack h o r users everybody (All-tail (HasNoWay h o r) user users nobody))

sources_on_lack : (h : Held) (o r : ℕ) (acting : List ℕ) (x : Option Object) → Lacks r (sources_by h o acting) → Lacks r (sources_on h o acting x)
sources_on_lack h o r acting None lacks = lacks_none r
sources_on_lack h o r acting (Some x) lacks = lacks

-- the right is not available, with a pointer that does not carry it
pub lacking : (h : Held) (acting : List ℕ) (o r carried : ℕ) → NoWay h acting o r → Lacks r carried → Lacks r (available h acting o carried)
unfolding available
lacking h acting o r carried closed lacks =
    lacks_both carried (sources_on h o acting (object h o)) r lacks (sources_on_lack h o r acting (object h o) (sources_lack h o r acting closed.everybody closed.nobody))

governs_not : (h : Held) (o r user : ℕ) (x : Object) → object h o ≡ Some x → HasNoWay h o r user → governs h o user ≡ false
governs_not h o r user x found has =
    let no = has.owner x found in
    let other : (user == x.owner.0) ≡ false = grind (arith, nat_tests) in
    rw (found, has.all, other) refl

-- no acting user governs the object, where it is there
pub ungoverned : (h : Held) (acting : List ℕ) (o r : ℕ) (x : Object) → object h o ≡ Some x → NoWay h acting o r → is_governed h o acting ≡ false
unfolding is_governed
ungoverned h acting o r x found closed =
    list_any_none (governs h o) acting (All-weaker (HasNoWay h o r) (λ u. governs h o u ≡ false) (λ u has. governs_not h o r u x found has) acting closed.nobody)

-- ---- pointers that are used

harmless_carries : (o r : ℕ) (p : Option Pointer) → OfPointer (IsHarmless o r) p → target_of p ≡ o → Lacks r (carried_in p)
harmless_carries o r None h to = lacks_none r
harmless_carries o r (Some p) h to = h.carries to

-- what a need's pointer to the object carries
carried_lacks : (h : Held) (acting : List ℕ) (ops : List Operand) (k : ℕ) (named : Named) (o r : ℕ) → NoWay h acting o r → All (OfOperand (IsHarmless o r)) ops
    → subject h ops k named ≡ o → Lacks r (carried_for h ops k named)
carried_lacks h acting ops k Written o r closed asked to = harmless_carries o r (pointer_at h ops k) (pointer_kept (IsHarmless o r) h ops k closed.spaces asked) to
carried_lacks h acting ops k (Implied n) o r closed asked to = lacks_none r

-- so the right is not available for a need of the object
pub subject_lacks : (h : Held) (acting : List ℕ) (ops : List Operand) (k : ℕ) (named : Named) (o r : ℕ) → NoWay h acting o r → All (OfOperand (IsHarmless o r)) ops
    → subject h ops k named ≡ o → Lacks r (available h acting (subject h ops k named) (carried_for h ops k named))
subject_lacks h acting ops k named o r closed asked to =
    subst (λ n. Lacks r (available h acting n (carried_for h ops k named))) (sym to) (lacking h acting o r (carried_for h ops k named) closed (carried_lacks h acting ops k named o r closed asked to))

-- ---- what passed the rules

-- a test that is passed, and what is asked after it
pub passed : (b : Bool) (more : Option Exception) (x : Exception) → cond b more (Some x) ≡ None → (b ≡ true) × (more ≡ None)
passed true more x h = (refl, h)
passed false more x h = cc

-- a rule that each need of a list passed
each_passed : (rule : Need → Option Exception) (wanted : List Need) → first_of rule wanted ≡ None → All (λ need. rule need ≡ None) wanted
each_passed rule [] h = All-nil (λ need. rule need ≡ None)
each_passed rule (need ∷ more) h =
    let both = first_none (rule need) (first_of rule more) h in
    All-cons (λ n. rule n ≡ None) need more both.0 (each_passed rule more both.1)

-- an operand passed its own rule, and the needs that speak of it passed theirs
record HasPassed (itself : ℕ → Operand → Option Exception) (rule : Need → Option Exception) (wanted : List Need) (k : ℕ) (operand : Operand) : Type 0 where
  own : itself (min k last_operand) operand ≡ None
  needs : needs_rule rule wanted (min k last_operand) ≡ None

passed_at : (itself : ℕ → Operand → Option Exception) (rule : Need → Option Exception) (wanted : List Need) (k : ℕ) (ops : List Operand) (j : ℕ) (operand : Operand)
    → by_operand itself rule wanted k ops ≡ None → slice_get ops j ≡ Some operand → HasPassed itself rule wanted (k + j) operand
passed_at itself rule wanted k [] j operand h at = cc
passed_at itself rule wanted k (x ∷ ops) zero operand h at =
    let place : k ≡ k + 0 = omega arith in
    let one = first_none _ _ h in
    let here : HasPassed itself rule wanted k x = record { own = one.0; needs = (first_none _ _ one.1).0 } in
    subst (λ (i : ℕ). HasPassed itself rule wanted i operand) place (subst (HasPassed itself rule wanted k) (same_Some x operand at) here)
passed_at itself rule wanted k (x ∷ ops) (suc j) operand h at =
    let place : k + 1 + j ≡ k + suc j = omega arith in
    let more = (first_none _ _ (first_none _ _ h).1).1 in
    subst (λ (i : ℕ). HasPassed itself rule wanted i operand) place (passed_at itself rule wanted (k + 1) ops j operand more at)

-- what holds of those that pass a test
where_passed : (P : Need → Type 0) (test : Need → Bool) (xs : List Need) → All P (filter test xs) → All (λ x. test x ≡ true → P x) xs
where_passed P test [] h = All-nil (λ x. test x ≡ true → P x)
where_passed P test (x ∷ xs) h =
    elim (test x) as (λ b. test x ≡ b → All P (cond b (x ∷ filter test xs) (filter test xs)) → All (λ y. test y ≡ true → P y) (x ∷ xs)) [
      | true ↦ λ e q. All-cons (λ y. test y ≡ true → P y) x xs (λ g. All-head P x (filter test xs) q) (where_passed P test xs (All-tail P x (filter test xs) q))
      | false ↦ λ e q. All-cons (λ y. test y ≡ true → P y) x xs (λ g. absurd (true≢false (sym g ∙ e))) (where_passed P test xs q)
    ] refl h

-- an instruction that no rule refuses
pub record IsPermitted (i : Instruction) (s : State) (p d : ℕ) (t : Request) : Type 0 where
  pub addresses : address_rules s.held t.operands (i.needs s p d t) ≡ None
  pub special : lacks_special s.held (acting s p d) (i.special s p d t) ≡ None
  pub rights : All (λ need. rights_rule s.held (acting s p d) t.operands need ≡ None) (i.needs s p d t)
  pub fails : i.fails s p d t ≡ None

pub permitted : (i : Instruction) (s : State) (p d : ℕ) (t : Request) → refused_by i s p d t ≡ None → IsPermitted i s p d t
unfolding refused_by rights_rules
permitted i s p d t h =
    let one = first_none (address_rules s.held t.operands (i.needs s p d t)) _ h in
    let two = first_none (lacks_special s.held (acting s p d) (i.special s p d t)) _ one.1 in
    let three = first_none (first_of (rights_rule s.held (acting s p d) t.operands) (i.needs s p d t)) _ two.1 in
    let four = first_none (lock_rules s p t (i.needs s p d t)) _ three.1 in
    record { addresses = one.0; special = two.0; rights = each_passed (rights_rule s.held (acting s p d) t.operands) (i.needs s p d t) three.0; fails = four.1 }

-- an operand of a permitted instruction passed its rule, and so did each need of it
operand_passed : (i : Instruction) (s : State) (p d : ℕ) (t : Request) (j : ℕ) (operand : Operand) → IsPermitted i s p d t → slice_get t.operands j ≡ Some operand
    → HasPassed (item_rule s.held) (address_rule s.held t.operands) (i.needs s p d t) (1 + j) operand
unfolding address_rules
operand_passed i s p d t j operand may is = passed_at (item_rule s.held) (address_rule s.held t.operands) (i.needs s p d t) 1 t.operands j operand may.addresses is

need_passed : (i : Instruction) (s : State) (p d : ℕ) (t : Request) (need : Need) (j : ℕ) (operand : Operand) → IsPermitted i s p d t → Contains (i.needs s p d t) need
    → need.place ≡ suc j → j < 255 → slice_get t.operands j ≡ Some operand → address_rule s.held t.operands need ≡ None
need_passed i s p d t need j operand may there at low is =
    let rule = address_rule s.held t.operands in
    let place : min (1 + j) 255 ≡ suc j = omega (arith, low) in
    let stands : is_of_operand (min (1 + j) 255) need ≡ true = grind (arith, nat_tests, at, place) in
    let all = where_passed (λ n. rule n ≡ None) (is_of_operand (min (1 + j) 255)) (i.needs s p d t) (each_passed rule _ (operand_passed i s p d t j operand may is).needs) in
    All-contains (λ n. is_of_operand (min (1 + j) 255) n ≡ true → rule n ≡ None) (i.needs s p d t) need all there stands

-- a pointer that is used is of the need's kind, and its object passed
pub used_parts : (i : Instruction) (s : State) (p d : ℕ) (t : Request) (need : Need) (j : ℕ) (used : Pointer) → IsPermitted i s p d t → Contains (i.needs s p d t) need
    → need.place ≡ suc j → j < 255 → need.named ≡ Written → pointer_at s.held t.operands (suc j) ≡ Some used
    → (is_pointer need.pointer used ≡ true) × (object_rule need (object s.held (object_of used)) ≡ None)
unfolding address_rule
used_parts i s p d t need j used may there stands low named is =
    let less : suc j - 1 ≡ j = omega arith in
    by (slice_get t.operands j) refl (subst (λ k. pointer_of s.held (slice_get t.operands k) ≡ Some used) less is)
  where
    by : (x : Option Operand) → slice_get t.operands j ≡ x → pointer_of s.held x ≡ Some used → (is_pointer need.pointer used ≡ true) × (object_rule need (object s.held (object_of used)) ≡ None)
    by None at none = absurd (none-some used none)
    by (Some operand) at of =
        let rule : address_rule s.held t.operands need ≡ None = need_passed i s p d t need j operand may there stands low at in
        let written : named_rule s.held t.operands need Written ≡ None = subst (λ n. named_rule s.held t.operands need n ≡ None) named rule in
        let here : pointer_rule s.held need (pointer_at s.held t.operands (suc j)) ≡ None = subst (λ k. pointer_rule s.held need (pointer_at s.held t.operands k) ≡ None) stands written in
        passed _ _ _ (subst (λ x. pointer_rule s.held need x ≡ None) is here)

object_there : (need : Need) (x : Option Object) → need.sought ≡ Any → object_rule need x ≡ None → (y : Object) × (x ≡ Some y)
object_there need None any h =
    let looked : fails true exceptions.object_destroyed need.place ≡ None = subst (λ sought. fails (is_looked_at sought) exceptions.object_destroyed need.place ≡ None) any h in
    cc
object_there need (Some y) any h = (y, refl)

-- the object of the first operand is not governed, where a need speaks of it
first_ungoverned : (i : Instruction) (s : State) (p d : ℕ) (t : Request) (need : Need) (o r : ℕ) → o ≢ 0 → NoWay s.held (acting s p d) o r → IsPermitted i s p d t
    → Contains (i.needs s p d t) need → IsOfFirst need → subject s.held t.operands need.place need.named ≡ o → is_governed s.held o (acting s p d) ≡ false
first_ungoverned i s p d t need o r real closed may there speaks to =
    let written : subject s.held t.operands need.place Written ≡ o = subst (λ n. subject s.held t.operands need.place n ≡ o) speaks.named to in
    by (pointer_at s.held t.operands 1) refl (subst (λ k. target s.held t.operands k ≡ o) speaks.place written)
  where
    by : (x : Option Pointer) → pointer_at s.held t.operands 1 ≡ x → target_of x ≡ o → is_governed s.held o (acting s p d) ≡ false
    by None is gone = absurd (real (sym gone))
    by (Some used) is same =
        let parts = used_parts i s p d t need 0 used may there speaks.place (omega arith) speaks.named is in
        let x = object_there need (object s.held (object_of used)) speaks.sought parts.1 in
        ungoverned s.held (acting s p d) o r x.0 (ap (object s.held) (sym same) ∙ x.1) closed

-- ---- a claim on the right is refused

-- the users do not govern, where a claim asks that
abbrev Ungoverned : Claim → Held → ℕ → List ℕ → Type 0
Ungoverned Available h o acting = Unit {0}
Ungoverned _ h o acting = is_governed h o acting ≡ false

claim_refused : (claim : Claim) (h : Held) (acting : List ℕ) (o r carried k given : ℕ) → Lacks r (available h acting o carried) → Ungoverned claim h o acting
    → claim_rule claim h acting o carried k given ≡ None → ClaimsRight claim r given → ⊥
claim_refused Available h acting o r carried k given lacks un passed claims = not_lacking k given (available h acting o carried) r passed claims lacks
claim_refused Granting h acting o r carried k given lacks un passed claims =
    let granting : granting_rule false k given (available h acting o carried) ≡ None = subst (λ b. granting_rule b k given (available h acting o carried) ≡ None) un passed in
    not_lacking k (bit_or rights.objmgt given) (available h acting o carried) r (first_none _ _ granting).0 (has_or rights.objmgt given r claims) lacks
claim_refused Ownership h acting o r carried k given lacks un passed claims =
    let owning : fails (not false) exceptions.ownership_required k ≡ None = subst (λ b. fails (not b) exceptions.ownership_required k ≡ None) un passed in
    cc

need_ungoverned : (claim : Claim) (i : Instruction) (s : State) (p d : ℕ) (t : Request) (need : Need) (o r : ℕ) → o ≢ 0 → NoWay s.held (acting s p d) o r → IsPermitted i s p d t
    → Contains (i.needs s p d t) need → Speaks claim need → subject s.held t.operands need.place need.named ≡ o → Ungoverned claim s.held o (acting s p d)
need_ungoverned Available i s p d t need o r real closed may there speaks to = tt
need_ungoverned _ i s p d t need o r real closed may there speaks to = first_ungoverned i s p d t need o r real closed may there speaks to

-- a need of the object that claims the right is refused
need_unused : (i : Instruction) (s : State) (p d : ℕ) (t : Request) (o r : ℕ) (need : Need) → o ≢ 0 → NoWay s.held (acting s p d) o r → All (OfOperand (IsHarmless o r)) t.operands
    → IsPermitted i s p d t → SpeakSo (i.needs s p d t) → Contains (i.needs s p d t) need → Claims s.held t.operands o r need → ⊥
unfolding rights_rule
need_unused i s p d t o r need real closed asked may so there claims =
    let carried = carried_for s.held t.operands need.place need.named in
    let rule : rights_rule s.held (acting s p d) t.operands need ≡ None = All-contains (λ n. rights_rule s.held (acting s p d) t.operands n ≡ None) (i.needs s p d t) need may.rights there in
    let of_object : claim_rule need.claim s.held (acting s p d) o carried need.place need.rights.0 ≡ None =
    subst (λ n. claim_rule need.claim s.held (acting s p d) n carried need.place need.rights.0 ≡ None) claims.object rule in
    let lacks : Lacks r (available s.held (acting s p d) o carried) =
    lacking s.held (acting s p d) o r carried closed (carried_lacks s.held (acting s p d) t.operands need.place need.named o r closed asked claims.object) in
    let speaks = All-contains SpeaksSo (i.needs s p d t) need so there in
    claim_refused need.claim s.held (acting s p d) o r carried need.place need.rights.0 lacks
    (need_ungoverned need.claim i s p d t need o r real closed may there speaks claims.object) of_object claims.right

base_unused : (o r offset : ℕ) (attr : Attr) (base : Pointer) → is_base base offset attr ≡ true → r ≡ space_right → IsHarmless o r base → object_of base ≡ o → ⊥
base_unused o r offset attr (pointers.System n carried) is space harmless to = cc
base_unused o r offset attr (pointers.Space n at) is space harmless to = false≢true (harmless.lies to space)
base_unused o r offset attr (pointers.Item n at of) is space harmless to = false≢true (harmless.lies to space)

-- an operand that lies in the object is refused
item_unused : (h : Held) (k o r : ℕ) (operand : Operand) → item_rule h k operand ≡ None → r ≡ space_right → OfOperand (IsHarmless o r) operand → LiesIn o operand → ⊥
unfolding item_rule
item_unused h k o r (operands.InSpace (Some base) offset attr) is space harmless lies = base_unused o r offset attr base (passed _ _ _ is).0 space harmless lies
item_unused h k o r _ is space harmless lies = absurd lies

-- what no rule refuses does not use the right
unused_by : (i : Instruction) (s : State) (p d : ℕ) (t : Request) (o r : ℕ) → o ≢ 0 → NoWay s.held (acting s p d) o r → All (OfOperand (IsHarmless o r)) t.operands
    → IsPermitted i s p d t → SpeakSo (i.needs s p d t) → Holds (Claims s.held t.operands o r) (i.needs s p d t) ⊎ ((r ≡ space_right) × Holds (LiesIn o) t.operands) → ⊥
unused_by i s p d t o r real closed asked may so (inl (k, need, low, at, claims)) = need_unused i s p d t o r need real closed asked may so (k, low, at) claims
unused_by i s p d t o r real closed asked may so (inr (space, (k, x, low, at, lies))) =
    let here = operand_passed i s p d t k x may (slice_get_read t.operands (length t.operands) k x refl low (sym at)) in
    item_unused s.held (min (1 + k) last_operand) o r x here.own space (All-contains (OfOperand (IsHarmless o r)) t.operands x asked (k, low, at)) lies

pub unused : (s : State) (p d : ℕ) (t : Request) (o r : ℕ) → o ≢ 0 → NoWay s.held (acting s p d) o r → All (OfOperand (IsHarmless o r)) t.operands
    → refused_by (row t.op) s p d t ≡ None → Uses s p d t o r → ⊥
unused s p d t o r real closed asked e uses = unused_by (row t.op) s p d t o r real closed asked (permitted (row t.op) s p d t e) (row_speaks (family_of t.op) t.op s p d t) uses
