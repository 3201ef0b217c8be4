-- Step by step numbers, kinds, the ceiling and what is on disk go on, and the room of the store follows.
use Rattle.std.proofs.Common.{◌≡◌, ◌∙◌, ℕ, Bool, true, false, cond, List, [], ◌∷◌, ◌++◌, refl, sym, ap, subst, arith, ◌≤◌}
use Rattle.std.specs.List.{flat_map, list_any}
use Rattle.std.specs.Prelude.{length, None, Option, Some}
use Rattle.s38_base.specs.declared.id.Kind.{Kind}
use Rattle.s38_code.specs.Operations.{family_of}
use Rattle.s38_code.specs.declared.event.Event.TheVariants.{Act, Finish, Start}
use Rattle.s38_code.specs.declared.event.Event.{Event}
use Rattle.s38_code.specs.declared.event.Request.{Request}
use Rattle.s38_code.specs.declared.reply.Reply.TheVariants.{Done}
use Rattle.s38_code.specs.declared.reply.Reply.{Reply}
use Rattle.s38_journals.specs.Journals as journals
use Rattle.s38_laws_objects.proofs.EventLaws.{effect_beside}
use Rattle.s38_laws_objects.specs.Outline.{is_forced}
use Rattle.s38_rules.proofs.RoomLaws.{permitted_by_rules}
use Rattle.s38_rules.proofs.StoreLaws.{stored_holds}
use Rattle.s38_rules.proofs.VerdictLaws.{permitted_none}
use Rattle.s38_rules.specs.families.Computing.{receiver_at, shift_at}
use Rattle.s38_rules.specs.families.Changes.{done}
use Rattle.s38_rules.specs.step.Effect.{effect, effect_of}
use Rattle.s38_rules.specs.store.Forcing.{Ceiling, Forced, Header, Removed, Whole, extent_with_rows, is_whole, must_persist}
use Rattle.s38_rules.specs.state.Held.{Held, change_in, has_number}
use Rattle.s38_rules.specs.state.Parts.{journal_part, over_body, over_object}
use Rattle.s38_rules.specs.store.Room.{Extent, Room, extent_at, extent_of, image_len, pages_begun, rows_pages}
use Rattle.s38_rules.specs.families.Rows.{row}
use Rattle.s38_rules.specs.state.State.{State, process_entry, waits}
use Rattle.s38_rules.specs.step.Step.{awake_verdict, by_verdict, by_waiting, step}
use Rattle.s38_rules.specs.store.Storing.{all_kept, extents_of, kept_one, room_after, stored, stored_in}
use Rattle.s38_rules.specs.step.Verdict.{refused_by, ruled_verdict}
use Rattle.s38_rules.specs.declared.object.Body.TheVariants as bodies
use Rattle.s38_rules.specs.declared.object.Body.{Body}
use Rattle.s38_rules.specs.declared.object.Object.{Object}
use Rattle.s38_rules.specs.declared.verdict.Verdict.TheVariants.{Permit, Refuse, Wait}
use Rattle.s38_rules.specs.declared.verdict.Verdict.{Verdict}
use Rattle.s38_laws_flush.specs.durable.Kept.{AreNumbered, HasOperand}
use Rattle.s38_laws_flush.proofs.durable.GoesLaws.{done_goes, zero_unforced}
use Rattle.s38_laws_flush.proofs.durable.GoesThenLaws.{Goes, Left, quiet_goes}
use Rattle.s38_laws_flush.proofs.durable.MayLaws.{row_may}
use Rattle.s38_laws_flush.proofs.durable.SameLaws.{Same, delivered_same, finish_same, kind_at, journal_same, same_itself, same_numbered, same_then, start_same}

-- ---- an event

-- a change that leaves the same can follow one that goes on
pub goes_same : (all : List Forced) (h j k : Held) → Goes all h j → Same j k → Goes all h k
goes_same all h j k goes same = record {
  numbered = same_numbered j k same goes.numbered;
  next = let one = goes.next in let two = same.next in omega (arith, one, two);
  kinds = λ n less. subst (λ (x : Option Kind). Left (kind_at h n) x) (sym (same.kinds n)) (goes.kinds n less);
  disk = λ n not on. goes.disk n not (sym (same.disk n) ∙ on);
  ceiling = λ not. same.ceiling ∙ goes.ceiling not;
  forced = λ n is. let less = goes.forced n is in let next = same.next in omega (arith, less, next);
}

act_goes : (s : State) (p d : ℕ) (t : Request) → AreNumbered s.held → refused_by (row t.op) s p d t ≡ None → Goes (must_persist s p (Act d t)) s.held (effect (row t.op) s p d t).state.held
unfolding effect must_persist
act_goes s p d t are met =
    let x = (row t.op).changes s p d t in
    goes_same _ s.held (done s p x).held _ (done_goes (1 ≤ length t.operands) x s p are (row_may (family_of t.op) t.op s p d t are met))
    (delivered_same (done s p x) (shift_at s.held t.op t.operands) (receiver_at t.op t.operands) ((row t.op).gives s p d t))

event_goes : (s : State) (p : ℕ) (e : Event) → AreNumbered s.held → awake_verdict s p e ≡ Permit → Goes (must_persist s p e) s.held (effect_of s p e).state.held
unfolding effect_of ruled_verdict must_persist
event_goes s p Start are may = quiet_goes s.held _ are (start_same s p (process_entry s p))
event_goes s p (Act d t) are may = act_goes s p d t are (permitted_none s p t (refused_by (row t.op) s p d t) (permitted_by_rules s p (Act d t) may))
event_goes s p (Finish cause) are may = quiet_goes s.held _ are (finish_same s p (process_entry s p))

-- what the store keeps of an effect
pub stored_same : (s : State) (p : ℕ) (e : Event) (t : State) → Same t.held (stored s p e t).held
stored_same s p e t = stored_holds (Same t.held) (λ h n so_far. same_then t.held h _ so_far (journal_same h n journals.forced)) s p e t (same_itself t.held)

-- ---- a step that takes effect, and one that does not

abbrev pub IsDone : Reply → Type 0
IsDone (Done values) = Unit {0}
IsDone _ = ⊥

-- it is permitted, and leads to its effect
pub record TakesEffect (s t : State) (p : ℕ) (e : Event) : Type 0 where
  pub permit : awake_verdict s p e ≡ Permit
  pub held : t.held ≡ (stored s p e (effect_of s p e).state).held
  pub units : t.units ≡ (stored s p e (effect_of s p e).state).units
  pub room : t.room ≡ (stored s p e (effect_of s p e).state).room

effect_by : (s : State) (p : ℕ) (e : Event) (v : Verdict) → awake_verdict s p e ≡ v → IsDone (by_verdict s p e v).reply → TakesEffect s (by_verdict s p e v).state p e
effect_by s p e Permit is done = record { permit = is; held = refl; units = refl; room = refl }
effect_by s p e Wait is done = absurd done
effect_by s p e (Refuse x) is done = absurd done

pub takes_effect : (s : State) (p : ℕ) (e : Event) → IsDone (step s p e).reply → TakesEffect s (step s p e).state p e
unfolding step
takes_effect s p e = by (waits s p)
  where
    by : (b : Bool) → IsDone (by_waiting b s p e).reply → TakesEffect s (by_waiting b s p e).state p e
    by true done = absurd done
    by false done = effect_by s p e (awake_verdict s p e) refl done

-- nothing of it changes
pub record Stayed (s t : State) : Type 0 where
  pub held : t.held ≡ s.held
  pub units : t.units ≡ s.units
  pub room : t.room ≡ s.room

stayed_by : (s : State) (p : ℕ) (e : Event) (v : Verdict) → (IsDone (by_verdict s p e v).reply → ⊥) → Stayed s (by_verdict s p e v).state
stayed_by s p e Permit not = absurd (not tt)
stayed_by s p e Wait not = record { held = refl; units = refl; room = refl }
stayed_by s p e (Refuse x) not = record { held = refl; units = refl; room = refl }

pub stayed : (s : State) (p : ℕ) (e : Event) → (IsDone (step s p e).reply → ⊥) → Stayed s (step s p e).state
unfolding step
stayed s p e = by (waits s p)
  where
    by : (b : Bool) → (IsDone (by_waiting b s p e).reply → ⊥) → Stayed s (by_waiting b s p e).state
    by true not = record { held = refl; units = refl; room = refl }
    by false not = stayed_by s p e (awake_verdict s p e) not

pub step_goes : (s : State) (p : ℕ) (e : Event) → AreNumbered s.held → IsDone (step s p e).reply → Goes (must_persist s p e) s.held (step s p e).state.held
step_goes s p e are is =
    let takes = takes_effect s p e is in
    subst (λ (k : Held). Goes (must_persist s p e) s.held k) (sym takes.held)
    (goes_same (must_persist s p e) s.held (effect_of s p e).state.held _ (event_goes s p e are takes.permit) (stored_same s p e (effect_of s p e).state))

-- ---- the number of no object

event_unforced : (s : State) (p : ℕ) (e : Event) → AreNumbered s.held → awake_verdict s p e ≡ Permit → HasOperand e → is_forced 0 (must_persist s p e) ≡ true → ⊥
unfolding ruled_verdict must_persist
event_unforced s p Start are may has is = let h : false ≡ true = is in cc
event_unforced s p (Act d t) are may has is =
    zero_unforced (1 ≤ length t.operands) ((row t.op).changes s p d t) s p are (row_may (family_of t.op) t.op s p d t are (permitted_none s p t (refused_by (row t.op) s p d t) (permitted_by_rules s p (Act d t) may))) has is
event_unforced s p (Finish cause) are may has is = let h : false ≡ true = is in cc

pub step_unforced : (s : State) (p : ℕ) (e : Event) → AreNumbered s.held → IsDone (step s p e).reply → HasOperand e → is_forced 0 (must_persist s p e) ≡ true → ⊥
step_unforced s p e are is has forced_is = event_unforced s p e are (takes_effect s p e is).permit has forced_is

-- ---- the room

forced_len : (b : Body) → image_len (over_body journal_part journals.forced b) ≡ image_len b
forced_len (bodies.Journal j) = refl
forced_len _ = refl

-- a journal space that is kept takes as many pages as before
forced_extents : (all : List Forced) (xs : List Extent) (o : Object) → extents_of all xs (over_object journal_part journals.forced o) ≡ extents_of all xs o
forced_extents all xs o = ap (λ (x : Extent). cond o.on_disk (x ∷ []) []) (by (list_any (is_whole o.number.0) all) (extent_at xs o.number.0))
  where
    new : Object
    new = over_object journal_part journals.forced o

    same : extent_of new ≡ extent_of o
    same = ap (λ (len : ℕ). record { number = o.number.0; rows = rows_pages o; body = pages_begun len }) (forced_len o.body)

    by : (b : Bool) (old : Option Extent) → cond b (extent_of new) (extent_with_rows new old) ≡ cond b (extent_of o) (extent_with_rows o old)
    by true old = same
    by false None = same
    by false (Some x) = refl

changed_extents : (all : List Forced) (xs : List Extent) (n : ℕ) (os : List Object) → flat_map (extents_of all xs) (change_in os n (over_object journal_part journals.forced)) ≡ flat_map (extents_of all xs) os
changed_extents all xs n [] = refl
changed_extents all xs n (o ∷ os) = by (has_number n o) (changed_extents all xs n os)
  where
    by : (b : Bool) → flat_map (extents_of all xs) (change_in os n (over_object journal_part journals.forced)) ≡ flat_map (extents_of all xs) os
        → flat_map (extents_of all xs) (cond b (over_object journal_part journals.forced o ∷ os) (o ∷ change_in os n (over_object journal_part journals.forced))) ≡ extents_of all xs o ++ flat_map (extents_of all xs) os
    by true rest = ap (λ (ys : List Extent). ys ++ flat_map (extents_of all xs) os) (forced_extents all xs o)
    by false rest = ap (λ (ys : List Extent). extents_of all xs o ++ ys) rest

kept_extents : (all : List Forced) (xs : List Extent) (some : List Forced) (h : Held) → flat_map (extents_of all xs) (all_kept h some).objects ≡ flat_map (extents_of all xs) h.objects
unfolding all_kept
kept_extents all xs [] h = refl
kept_extents all xs (Ceiling ∷ more) h = kept_extents all xs more h
kept_extents all xs (Header n ∷ more) h = kept_extents all xs more h
kept_extents all xs (Whole n ∷ more) h = kept_extents all xs more (kept_one h (Whole n)) ∙ changed_extents all xs n h.objects
kept_extents all xs (Removed n ∷ more) h = kept_extents all xs more h

-- once the store is updated, the room is that of the objects after it
abbrev pub follows_room : Option Room → List Forced → List Object → Option Room
follows_room None all os = None
follows_room (Some room) all os = Some (room_after room all os)

stored_in_room : (o : Option Room) (all : List Forced) (t : State) → t.room ≡ o → (stored_in o all t).room ≡ follows_room o all (stored_in o all t).held.objects
stored_in_room None all t same = same
stored_in_room (Some room) all t same = ap (λ (xs : List Extent). Some (record room { extents = xs })) (sym (kept_extents all room.extents all t.held))

pub stored_room : (s : State) (p : ℕ) (e : Event) (t : State) → t.room ≡ s.room → (stored s p e t).room ≡ follows_room s.room (must_persist s p e) (stored s p e t).held.objects
unfolding stored
stored_room s p e t same = stored_in_room s.room (must_persist s p e) t same

pub step_room : (s : State) (p : ℕ) (e : Event) → IsDone (step s p e).reply → (step s p e).state.room ≡ follows_room s.room (must_persist s p e) (step s p e).state.held.objects
step_room s p e is =
    let takes = takes_effect s p e is in
    takes.room ∙ stored_room s p e (effect_of s p e).state (effect_beside s p e).room
    ∙ ap (λ (h : Held). follows_room s.room (must_persist s p e) h.objects) (sym takes.held)
