-- What follows an event that took effect.
use Rattle.std.proofs.Common.{◌≡◌, ℕ, ◌∷◌, refl, sym, subst, ap, ◌∙◌, length}
use Rattle.std.specs.Prelude.{IfSome, None, Option, Some}
use Rattle.s38_code.specs.declared.event.Event.{Event}
use Rattle.s38_code.specs.declared.event.Event.TheVariants.{Start, Act, Finish}
use Rattle.s38_machine.specs.Stored.{FitsStore}
use Rattle.s38_laws_objects.specs.Well.{AreWell}
use Rattle.s38_space_rules.specs.Following.{Fits}
use Rattle.s38_rules.specs.declared.verdict.Verdict.TheVariants.{Permit}
use Rattle.s38_rules.specs.step.Effect.{effect_of}
use Rattle.s38_rules.specs.store.Room.{Room}
use Rattle.s38_rules.specs.state.State.{State}
use Rattle.s38_rules.specs.step.Step.{awake, awake_verdict}
use Rattle.s38_rules.specs.store.Storing.{stored}
use Rattle.s38_rights_cache.proofs.ChangeLaws.{same_steady}
use Rattle.s38_rights_cache.proofs.EventLaws.{event_steady}
use Rattle.s38_rights_cache.proofs.SameLaws.{same_held}
use Rattle.s38_rights_cache.specs.Following.{world_after_event}
use Rattle.s38_rights_cache.specs.Places.{IsSteady}
use Rattle.s38_rights_cache.specs.Worlds.{WorldState}

-- the state is that to which the event led
pub world_after_state : (w : WorldState) (p : ℕ) (e : Event) (t : State) → (world_after_event w p e t).state ≡ t
unfolding world_after_event
world_after_state w p Start t = refl
world_after_state w p (Act depth request) t = refl
world_after_state w p (Finish cause) t = refl

-- a world in which an event took effect, and then counts followed
pub took_up : (w v y : WorldState) (p : ℕ) (e : Event) (t : State) → v ≡ w → t ≡ awake (stored v.state p e (effect_of v.state p e).state)
    → ((s : State) → y ≡ world_after_event (record v { state = s }) p e t) → y ≡ world_after_event w p e (awake (stored w.state p e (effect_of w.state p e).state))
took_up w v y p e t is led follows =
    follows v.state ∙ ap (λ (u : State). world_after_event v p e u) led
    ∙ ap (λ (z : WorldState). world_after_event z p e (awake (stored z.state p e (effect_of z.state p e).state))) is

took_to : (v y : WorldState) (p : ℕ) (e : Event) (t : State) → ((s : State) → y ≡ world_after_event (record v { state = s }) p e t) → y.state ≡ t
took_to v y p e t follows = ap (λ (z : WorldState). z.state) (follows v.state) ∙ world_after_state v p e t

pub took_state : (w v y : WorldState) (p : ℕ) (e : Event) (t : State) → v ≡ w → t ≡ awake (stored v.state p e (effect_of v.state p e).state)
    → ((s : State) → y ≡ world_after_event (record v { state = s }) p e t) → y.state ≡ awake (stored w.state p e (effect_of w.state p e).state)
took_state w v y p e t is led follows = ap (λ (z : WorldState). z.state) (took_up w v y p e t is led follows) ∙ world_after_state w p e _

pub took_kept : (w v y : WorldState) (p : ℕ) (e : Event) (t : State) → v ≡ w → ((s : State) → y ≡ world_after_event (record v { state = s }) p e t) → length t.processes ≡ length v.state.processes
    → length y.state.processes ≡ length w.state.processes
took_kept w v y p e t is follows kept = ap (λ (s : State). length s.processes) (took_to v y p e t follows) ∙ kept ∙ ap (λ (z : WorldState). length z.state.processes) is

pub took_fits : (w v y : WorldState) (p : ℕ) (e : Event) (t : State) → v ≡ w → ((s : State) → y ≡ world_after_event (record v { state = s }) p e t) → FitsStore t → FitsStore y.state
took_fits w v y p e t is follows fits = subst (λ (s : State). FitsStore s) (sym (took_to v y p e t follows)) fits

pub took_steady : (w v y : WorldState) (p : ℕ) (e : Event) (t : State) → v ≡ w → t ≡ awake (stored v.state p e (effect_of v.state p e).state)
    → ((s : State) → y ≡ world_after_event (record v { state = s }) p e t) → awake_verdict w.state p e ≡ Permit → IsSteady w → IsSteady y
took_steady w v y p e t is led follows may steady = subst IsSteady (sym (took_up w v y p e t is led follows)) (event_steady w p e may steady)

-- a process that joins those who wait leaves places right
abbrev pub joined : WorldState → ℕ → WorldState
joined w p = record w { state = record w.state { waiting = p ∷ w.state.waiting } }

joined_steady : (w : WorldState) (p : ℕ) → IsSteady w → IsSteady (joined w p)
joined_steady w p steady = same_steady w (record w.state { waiting = p ∷ w.state.waiting }) steady (same_held w.state.held) refl

joined_fits : (w : WorldState) (p : ℕ) → FitsStore w.state → FitsStore (joined w p).state
joined_fits w p fits = by w.state.room fits
  where
    Fitting : State → Option Room → Type 0
    Fitting s o = IfSome o (λ room. Fits room.extents s.held × AreWell s)

    by : (o : Option Room) → Fitting w.state o → Fitting (joined w p).state o
    by None f = tt
    by (Some room) f = (f.0, record { limit = f.1.limit; objects = f.1.objects })

pub joined_is : (w v : WorldState) (t : State) (p : ℕ) → v ≡ w → t ≡ record v.state { waiting = p ∷ v.state.waiting } → record v { state = t } ≡ joined w p
joined_is w v t p is led = ap (λ (s : State). record v { state = s }) led ∙ ap (λ (z : WorldState). joined z p) is

pub waits_steady : (w v : WorldState) (t : State) (p : ℕ) → v ≡ w → t ≡ record v.state { waiting = p ∷ v.state.waiting } → IsSteady w → IsSteady (record v { state = t })
waits_steady w v t p is led steady = subst IsSteady (sym (joined_is w v t p is led)) (joined_steady w p steady)

pub waits_fits : (w v : WorldState) (t : State) (p : ℕ) → v ≡ w → t ≡ record v.state { waiting = p ∷ v.state.waiting } → FitsStore w.state → FitsStore t
waits_fits w v t p is led fits = subst (λ (z : WorldState). FitsStore z.state) (sym (joined_is w v t p is led)) (joined_fits w p fits)
