-- What the room in a store has to say beside the rules.
use Rattle.std.proofs.Common.{◌≡◌, ℕ, List, [], refl}
use Rattle.std.specs.Prelude.{Option, Some, None}
use Rattle.s38_base.specs.declared.exception.Exception.{Exception}
use Rattle.s38_code.specs.declared.event.EndCause.{EndCause}
use Rattle.s38_code.specs.declared.event.Event.{Event}
use Rattle.s38_code.specs.declared.event.Event.TheVariants.{Finish}
use Rattle.s38_rules.specs.declared.object.Object.{Object}
use Rattle.s38_rules.specs.declared.verdict.Verdict.{Verdict}
use Rattle.s38_rules.specs.declared.verdict.Verdict.TheVariants.{Permit, Wait, Refuse}
use Rattle.s38_rules.specs.step.Effect.{effect_of}
use Rattle.s38_rules.specs.store.Forcing.{must_persist, store_rule, with_room}
use Rattle.s38_rules.specs.store.Room.{Room}
use Rattle.s38_rules.specs.state.State.{State}
use Rattle.s38_rules.specs.step.Step.{awake_verdict}
use Rattle.s38_rules.specs.step.Verdict.{of_failure, ruled_verdict}

unlimited_end : (o : Option Room) (os : List Object) → of_failure (store_rule o [] os) ≡ Permit
unlimited_end None os = refl
unlimited_end (Some room) os = refl

-- an end is always permitted
pub end_permitted : (s : State) (p : ℕ) (cause : EndCause) → awake_verdict s p (Finish cause) ≡ Permit
unfolding awake_verdict ruled_verdict must_persist
end_permitted s p cause = unlimited_end s.room (effect_of s p (Finish cause)).state.held.objects

waits_not : (o : Option Exception) → of_failure o ≡ Wait → ⊥
waits_not None h = cc
waits_not (Some x) h = cc

waits_by : (s : State) (p : ℕ) (e : Event) (v : Verdict) → with_room s p e v ≡ Wait → v ≡ Wait
waits_by s p e Permit h = absurd (waits_not (store_rule s.room (must_persist s p e) (effect_of s p e).state.held.objects) h)
waits_by s p e Wait h = refl
waits_by s p e (Refuse x) h = cc

-- what waits, waits by the rules
pub waits_by_rules : (s : State) (p : ℕ) (e : Event) → awake_verdict s p e ≡ Wait → ruled_verdict s p e ≡ Wait
unfolding awake_verdict
waits_by_rules s p e h = waits_by s p e (ruled_verdict s p e) h

permitted_by : (s : State) (p : ℕ) (e : Event) (v : Verdict) → with_room s p e v ≡ Permit → v ≡ Permit
permitted_by s p e Permit h = refl
permitted_by s p e Wait h = cc
permitted_by s p e (Refuse x) h = cc

-- what is permitted is permitted by the rules
pub permitted_by_rules : (s : State) (p : ℕ) (e : Event) → awake_verdict s p e ≡ Permit → ruled_verdict s p e ≡ Permit
unfolding awake_verdict
permitted_by_rules s p e h = permitted_by s p e (ruled_verdict s p e) h
