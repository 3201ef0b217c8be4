-- A step that is permitted needs no more new parts than are free.
use Rattle.std.proofs.Common.{◌≡◌, ◌≤◌, ◌∙◌, ◌∷◌, [], Bool, List, None, Option, Some, ap, arith, cond, false, refl, subst, true, ℕ}
use Rattle.std.proofs.lemmas.Bool.Decides.{nat_tests}
use Rattle.std.proofs.lemmas.List.Sums.{sum_by-cons}
use Rattle.std.specs.List.{list_any}
use Rattle.std.specs.Prelude.{nat_lt}
use Rattle.s38_base.specs.Exceptions as exceptions
use Rattle.s38_base.specs.declared.exception.Exception.{Exception}
use Rattle.s38_base.specs.declared.exception.Rule.TheVariants.{StoreFull}
use Rattle.s38_code.specs.declared.event.Event.{Event}
use Rattle.s38_journals.specs.Journals as journals
use Rattle.s38_rules.specs.step.Effect.{effect_of}
use Rattle.s38_rules.specs.store.Forcing.{Ceiling, Forced, Header, Removed, Whole, extent_with_rows, is_whole, must_persist, new_parts, new_parts_of, room_rule, store_rule, with_room}
use Rattle.s38_rules.specs.state.Held.{Held, change_in, has_number}
use Rattle.s38_rules.specs.state.Parts.{journal_part, over_body, over_object}
use Rattle.s38_rules.specs.store.Room.{Extent, Room, extent_at, extent_of, free, image_len, more_parts, pages_begun, rows_pages}
use Rattle.s38_rules.specs.state.State.{State}
use Rattle.s38_rules.specs.step.Step.{awake_verdict}
use Rattle.s38_rules.specs.store.Storing.{all_kept, kept_one, stored, stored_in}
use Rattle.s38_rules.specs.step.Verdict.{of_failure, ruled_verdict}
use Rattle.s38_rules.specs.declared.object.Body.TheVariants as bodies
use Rattle.s38_rules.specs.declared.object.Body.{Body}
use Rattle.s38_rules.specs.declared.object.Object.{Object}
use Rattle.s38_rules.specs.declared.verdict.Verdict.TheVariants.{Permit, Refuse, Wait}
use Rattle.s38_rules.specs.declared.verdict.Verdict.{Verdict}

-- ---- the rule

none_failed : (o : Option Exception) → of_failure o ≡ Permit → o ≡ None
none_failed None h = refl
none_failed (Some x) h = cc

ruled_by : (s : State) (p : ℕ) (e : Event) (v : Verdict) → with_room s p e v ≡ Permit → store_rule s.room (must_persist s p e) (effect_of s p e).state.held.objects ≡ None
ruled_by s p e Permit h = none_failed (store_rule s.room (must_persist s p e) (effect_of s p e).state.held.objects) h
ruled_by s p e Wait h = cc
ruled_by s p e (Refuse x) h = cc

store_ruled : (s : State) (p : ℕ) (e : Event) → awake_verdict s p e ≡ Permit → store_rule s.room (must_persist s p e) (effect_of s p e).state.held.objects ≡ None
unfolding awake_verdict
store_ruled s p e h = ruled_by s p e (ruled_verdict s p e) h

few_by : (room : Room) (new : ℕ) → room_rule room new ≡ None → new ≤ free room
few_by room new h = by (nat_lt (free room) new) refl h
  where
    full : Exception
    full = record { id = exceptions.store_full; operand = 0; rule = StoreFull new (free room) }

    by : (b : Bool) → nat_lt (free room) new ≡ b → cond b (Some full) None ≡ None → new ≤ free room
    by true is h = cc
    by false is h = grind (arith, nat_tests)

-- ---- once the store is updated, as many parts are new

forced_len : (b : Body) → image_len (over_body journal_part journals.forced b) ≡ image_len b
forced_len (bodies.Journal j) = refl
forced_len _ = refl

forced_new : (room : Room) (all : List Forced) (o : Object) → new_parts_of room all (over_object journal_part journals.forced o) ≡ new_parts_of room all o
forced_new room all o = ap (λ (x : Extent). cond o.on_disk (more_parts (extent_at room.extents o.number.0) x) 0) (by (list_any (is_whole o.number.0) all) (extent_at room.extents o.number.0))
  where
    new : Object
    new = over_object journal_part journals.forced o

    same : extent_of new ≡ extent_of o
    same = ap (λ (len : ℕ). record { number = o.number.0; rows = rows_pages o; body = pages_begun len }) (forced_len o.body)

    by : (b : Bool) (old : Option Extent) → cond b (extent_of new) (extent_with_rows new old) ≡ cond b (extent_of o) (extent_with_rows o old)
    by true old = same
    by false None = same
    by false (Some x) = refl

changed_new : (room : Room) (all : List Forced) (n : ℕ) (os : List Object) → new_parts room all (change_in os n (over_object journal_part journals.forced)) ≡ new_parts room all os
changed_new room all n [] = refl
changed_new room all n (o ∷ os) = by (has_number n o) (changed_new room all n os)
  where
    f : Object → ℕ
    f = new_parts_of room all

    by : (b : Bool) → new_parts room all (change_in os n (over_object journal_part journals.forced)) ≡ new_parts room all os
        → new_parts room all (cond b (over_object journal_part journals.forced o ∷ os) (o ∷ change_in os n (over_object journal_part journals.forced))) ≡ new_parts room all (o ∷ os)
    by true rest =
        let one = sum_by-cons f (over_object journal_part journals.forced o) os in
        let two = sum_by-cons f o os in
        let here = forced_new room all o in
        omega (arith, one, two, here)
    by false rest =
        let one = sum_by-cons f o (change_in os n (over_object journal_part journals.forced)) in
        let two = sum_by-cons f o os in
        omega (arith, one, two, rest)

kept_new : (room : Room) (all some : List Forced) (h : Held) → new_parts room all (all_kept h some).objects ≡ new_parts room all h.objects
unfolding all_kept
kept_new room all [] h = refl
kept_new room all (Ceiling ∷ more) h = kept_new room all more h
kept_new room all (Header n ∷ more) h = kept_new room all more h
kept_new room all (Whole n ∷ more) h = kept_new room all more (kept_one h (Whole n)) ∙ changed_new room all n h.objects
kept_new room all (Removed n ∷ more) h = kept_new room all more h

stored_in_new : (o : Option Room) (room : Room) (all some : List Forced) (t : State) → new_parts room all (stored_in o some t).held.objects ≡ new_parts room all t.held.objects
stored_in_new None room all some t = refl
stored_in_new (Some held) room all some t = kept_new room all some t.held

stored_new : (s : State) (p : ℕ) (e : Event) (t : State) (room : Room) (all : List Forced) → new_parts room all (stored s p e t).held.objects ≡ new_parts room all t.held.objects
unfolding stored
stored_new s p e t room all = stored_in_new s.room room all (must_persist s p e) t

-- ---- what is permitted

ruled_few : (o : Option Room) (room : Room) (one : Forced) (more : List Forced) (os : List Object) → o ≡ Some room → store_rule o (one ∷ more) os ≡ None → new_parts room (one ∷ more) os ≤ free room
ruled_few None room one more os is ruled = cc
ruled_few (Some held) room one more os is ruled = subst (λ (r : Room). new_parts r (one ∷ more) os ≤ free r) (same held room is) (few_by held (new_parts held (one ∷ more) os) ruled)
  where
    same : (a b : Room) → Some a ≡ Some b → a ≡ b
    same a b e = cc

-- nothing is forced, or no more parts are new than are free
abbrev pub IsWithin : Room → List Forced → List Object → Type 0
IsWithin room [] os = Unit {0}
IsWithin room (one ∷ more) os = new_parts room (one ∷ more) os ≤ free room

within_by : (o : Option Room) (room : Room) (all : List Forced) (os ps : List Object) → o ≡ Some room → store_rule o all os ≡ None → new_parts room all ps ≡ new_parts room all os → IsWithin room all ps
within_by o room [] os ps is ruled same = tt
within_by o room (one ∷ more) os ps is ruled same = let few = ruled_few o room one more os is ruled in omega (arith, few, same)

-- it finds room
pub permitted_within : (s : State) (p : ℕ) (e : Event) (room : Room) → s.room ≡ Some room → awake_verdict s p e ≡ Permit → IsWithin room (must_persist s p e) (stored s p e (effect_of s p e).state).held.objects
permitted_within s p e room is permit =
    within_by s.room room (must_persist s p e) (effect_of s p e).state.held.objects _ is (store_ruled s p e permit) (stored_new s p e (effect_of s p e).state room (must_persist s p e))
