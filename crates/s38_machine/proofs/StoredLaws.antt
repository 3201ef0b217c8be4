-- What a step has the store keep, and that the room of the store fits the objects after it.
use Rattle.std.proofs.Common.{◌≡◌, ◌≤◌, ℕ, List, [], ◌∷◌, length, refl, sym, ◌∙◌, ap, subst}
use Rattle.std.proofs.lemmas.List.Elements.{All-weaker}
use Rattle.std.specs.Prelude.{All, Option, Some, None, IfSome}
use Rattle.s38_code.specs.declared.event.Event.{Event}
use Rattle.s38_space_map.specs.Keeping.{RoomHeld, room_in}
use Rattle.s38_journals.specs.Journals as journals
use Rattle.s38_machine.specs.Stored.{FitsStore, IsPrepared, must_persist_at, must_persist_in}
use Rattle.s38_laws_objects.proofs.EventLaws.{effect_beside, event_well, verdict_well}
use Rattle.s38_laws_objects.specs.Well.{AreWell, IsWell}
use Rattle.s38_objects.specs.Lawful.{IsObjectMap}
use Rattle.s38_profiles.specs.ProfileMaps.{ProfileMaps}
use Rattle.s38_space_rules.proofs.FittingLaws.{fits_after, fits_but, fits_stored}
use Rattle.s38_space_rules.specs.Following.{Fits, FitsBut}
use Rattle.s38_rules.proofs.Laws.{effect_keeps}
use Rattle.s38_rules.proofs.StoreLaws.{stored_beside}
use Rattle.s38_rules.specs.declared.object.Object.{Object}
use Rattle.s38_rules.specs.declared.verdict.Verdict.TheVariants.{Permit}
use Rattle.s38_rules.specs.step.Effect.{effect_of}
use Rattle.s38_rules.specs.store.Forcing.{Ceiling, Forced, Header, Removed, Whole, must_persist}
use Rattle.s38_rules.specs.state.Held.{Held}
use Rattle.s38_rules.specs.state.Kept.{Mirrors}
use Rattle.s38_rules.specs.store.Room.{Room}
use Rattle.s38_rules.specs.state.State.{State}
use Rattle.s38_rules.specs.step.Step.{awake, awake_verdict}
use Rattle.s38_rules.specs.store.Storable.{IsStorable}
use Rattle.s38_rules.specs.store.Storing.{all_kept, kept_one, room_after, stored, stored_in}
use Rattle.s38_units.proofs.KeptLaws.{journal_kept}

-- ---- a world with a store

abbrev FitsIn : State → Option Room → Type 0
FitsIn s o = IfSome o (λ room. Fits room.extents s.held × AreWell s)

-- its room fits the objects, which are well
pub fits_room : (s : State) (o : Option RoomHeld) (held : RoomHeld) → s.room ≡ room_in o → o ≡ Some held → FitsStore s → Fits held.room.extents s.held × AreWell s
fits_room s o held is some fits = subst (λ (r : Option Room). FitsIn s r) (is ∙ ap room_in some) fits

-- objects that are well can be kept
pub storable_all : (os : List Object) → All IsWell os → All IsStorable os
storable_all os well = All-weaker IsWell IsStorable (λ o is. is.storable) os well

-- ---- what is prepared

pub prepared_some : (room : Option Room) (all : List Forced) (next : RoomHeld) → IsPrepared room all (Some next) → (room ≡ Some next.room) × (length all ≤ next.spare)
prepared_some room [] next is = cc
prepared_some room (one ∷ more) next is = is

pub prepared_none : (room : Room) (all : List Forced) → IsPrepared (Some room) all None → all ≡ []
prepared_none room [] is = refl
prepared_none room (one ∷ more) is = cc

-- the room that is prepared is that of the store
pub fits_prepared : (o : Option Room) (P : Room → Type 0) (all : List Forced) (next : RoomHeld) → IsPrepared o all (Some next) → IfSome o P → P next.room
fits_prepared o P all next is fits = subst (λ (x : Option Room). IfSome x P) (prepared_some o all next is).0 fits

-- nothing must persist where nothing is prepared
pub none_prepared : (o : Option Room) (all : List Forced) (room : Room) → o ≡ Some room → IsPrepared o all None → length all ≡ 0
none_prepared o all room some is = ap length (prepared_none room all (subst (λ (x : Option Room). IsPrepared x all None) some is))

-- ---- journal spaces that are kept

one_mirrored : (maps : ProfileMaps) (h : Held) (one : Forced) → Mirrors maps h → Mirrors maps (kept_one h one)
one_mirrored maps h (Whole n) m = journal_kept maps h n journals.forced m
one_mirrored maps h Ceiling m = m
one_mirrored maps h (Header n) m = m
one_mirrored maps h (Removed n) m = m

-- what is kept of users stays what the objects say
pub all_mirrored : (maps : ProfileMaps) (h : Held) (all : List Forced) → Mirrors maps h → Mirrors maps (all_kept h all)
unfolding all_kept
all_mirrored maps h [] m = m
all_mirrored maps h (one ∷ more) m = all_mirrored maps (kept_one h one) more (one_mirrored maps h one m)

-- ---- a permitted event

pub same_room : (s : State) (p : ℕ) (e : Event) → (effect_of s p e).state.room ≡ s.room
same_room s p e = (effect_beside s p e).room

-- what is prepared before it, is there after it
pub prepared_behind : (s : State) (p : ℕ) (e : Event) (all : List Forced) (spare : Option RoomHeld) → IsPrepared s.room all spare → IsPrepared (effect_of s p e).state.room all spare
prepared_behind s p e all spare is = subst (λ (o : Option Room). IsPrepared o all spare) (sym (same_room s p e)) is

-- a store keeps what must persist
pub stored_anew : (s : State) (p : ℕ) (e : Event) → stored_in (effect_of s p e).state.room (must_persist_at s p e) (effect_of s p e).state ≡ stored s p e (effect_of s p e).state
unfolding stored
stored_anew s p e = ap (λ (o : Option Room). stored_in o (must_persist_at s p e) (effect_of s p e).state) (same_room s p e) ∙ by s.room (must_persist s p e) (effect_of s p e).state
  where
    by : (o : Option Room) (all : List Forced) (t : State) → stored_in o (must_persist_in o all) t ≡ stored_in o all t
    by None all t = refl
    by (Some room) all t = refl

-- the room fits all that need not persist
pub fits_others : (s : State) (p : ℕ) (e : Event) → FitsStore s → IfSome (effect_of s p e).state.room (λ room. FitsBut (must_persist_at s p e) room.extents (effect_of s p e).state.held)
fits_others s p e fits = subst (λ (o : Option Room). IfSome o (λ room. FitsBut (must_persist_at s p e) room.extents (effect_of s p e).state.held)) (sym (same_room s p e)) (by s.room fits)
  where
    by : (o : Option Room) → FitsIn s o → IfSome o (λ room. FitsBut (must_persist_in o (must_persist s p e)) room.extents (effect_of s p e).state.held)
    by None is = tt
    by (Some room) is = fits_but s p e room.extents is.0

pub storable_behind : (s : State) (p : ℕ) (e : Event) → awake_verdict s p e ≡ Permit → FitsStore s → IfSome (effect_of s p e).state.room (λ _. All IsStorable (effect_of s p e).state.held.objects)
storable_behind s p e may fits = subst (λ (o : Option Room). IfSome o (λ _. All IsStorable (effect_of s p e).state.held.objects)) (sym (same_room s p e)) (by s.room fits)
  where
    by : (o : Option Room) → FitsIn s o → IfSome o (λ _. All IsStorable (effect_of s p e).state.held.objects)
    by None is = tt
    by (Some room) is = storable_all (effect_of s p e).state.held.objects (event_well s p e is.1 may)

-- ---- the state after it

stored_none : (s : State) (p : ℕ) (e : Event) (t : State) → s.room ≡ None → t.room ≡ None → (stored s p e t).room ≡ None
unfolding stored
stored_none s p e t was is = ap (λ (o : Option Room). (stored_in o (must_persist s p e) t).room) was ∙ is

stored_some : (s : State) (p : ℕ) (e : Event) (t : State) (room : Room) → s.room ≡ Some room → (stored s p e t).room ≡ Some (room_after room (must_persist s p e) t.held.objects)
unfolding stored
stored_some s p e t room was = ap (λ (o : Option Room). (stored_in o (must_persist s p e) t).room) was

-- the room fits the objects after a permitted event
pub fits_anew : (s : State) (p : ℕ) (e : Event) → awake_verdict s p e ≡ Permit → IsObjectMap (effect_of s p e).state.held → FitsStore s → FitsStore (awake (stored s p e (effect_of s p e).state))
fits_anew s p e may lawful fits = by s.room refl fits
  where
    t : State
    t = (effect_of s p e).state

    by : (o : Option Room) → s.room ≡ o → FitsIn s o → FitsStore (awake (stored s p e (effect_of s p e).state))
    by None is f = subst (λ (o : Option Room). FitsIn (awake (stored s p e t)) o) (sym (stored_none s p e t is (same_room s p e ∙ is))) tt
    by (Some room) is f =
        subst (λ (o : Option Room). FitsIn (awake (stored s p e t)) o) (sym (stored_some s p e t room is))
        (let fit = fits_stored s p e t (room_after room (must_persist s p e) t.held.objects).extents (fits_after room (must_persist s p e) t.held lawful.rising) in
        let well = verdict_well s p e Permit f.1 may in
        (record { rows = fit.rows }, record { limit = well.limit; objects = well.objects }))

-- ---- the state to which the effect leads

-- what is prepared before it, is there after it
pub prepared_at : (s t : State) (p : ℕ) (e : Event) (all : List Forced) (spare : Option RoomHeld) → t ≡ (effect_of s p e).state → IsPrepared s.room all spare → IsPrepared t.room all spare
prepared_at s t p e all spare is prepared = subst (λ (u : State). IsPrepared u.room all spare) (sym is) (prepared_behind s p e all spare prepared)

-- the room fits all that need not persist
pub fits_at : (s t : State) (p : ℕ) (e : Event) (all : List Forced) → t ≡ (effect_of s p e).state → all ≡ must_persist_at s p e → FitsStore s → IfSome t.room (λ room. FitsBut all room.extents t.held)
fits_at s t p e all is these fits =
    let Fitting : State → List Forced → Type 0 = λ u these. IfSome u.room (λ room. FitsBut these room.extents u.held) in
    subst (λ (u : State). Fitting u all) (sym is) (subst (λ (l : List Forced). Fitting (effect_of s p e).state l) (sym these) (fits_others s p e fits))

-- each object can be kept
pub storable_at : (s t : State) (p : ℕ) (e : Event) → t ≡ (effect_of s p e).state → awake_verdict s p e ≡ Permit → FitsStore s → IfSome t.room (λ _. All IsStorable t.held.objects)
storable_at s t p e is may fits = subst (λ (u : State). IfSome u.room (λ _. All IsStorable u.held.objects)) (sym is) (storable_behind s p e may fits)

-- the store keeps what must persist
pub stored_at : (s t : State) (p : ℕ) (e : Event) (all : List Forced) → t ≡ (effect_of s p e).state → all ≡ must_persist_at s p e → stored_in t.room all t ≡ stored s p e (effect_of s p e).state
stored_at s t p e all is these =
    ap (λ (u : State). stored_in u.room all u) is
    ∙ ap (λ (l : List Forced). stored_in (effect_of s p e).state.room l (effect_of s p e).state) these
    ∙ stored_anew s p e

-- as many processes as before
pub stored_keeps : (s t : State) (p : ℕ) (e : Event) → t ≡ stored s p e (effect_of s p e).state → length t.processes ≡ length s.processes
stored_keeps s t p e is = ap (λ (u : State). length u.processes) is ∙ rw (stored_beside s p e (effect_of s p e).state).processes (effect_keeps s p e)

-- the room fits what is there
pub fits_stored_at : (s t : State) (p : ℕ) (e : Event) → t ≡ (effect_of s p e).state → awake_verdict s p e ≡ Permit → IsObjectMap t.held → FitsStore s → FitsStore (awake (stored s p e (effect_of s p e).state))
fits_stored_at s t p e is may lawful fits = fits_anew s p e may (subst (λ (u : State). IsObjectMap u.held) is lawful) fits
