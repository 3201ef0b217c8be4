-- The laws of what is durable after a step.
use Rattle.std.specs.Prelude.{◌≡◌, ℕ, All, List, Some, false}
use Rattle.s38_code.specs.declared.event.Event.{Event}
use Rattle.s38_durable_state.specs.Durable.{Durable, durable_after, kept}
use Rattle.s38_durable_state.specs.Following.{Counts, Follows, NumbersRise, StaysUserIn}
use Rattle.s38_laws_objects.specs.Outline.{is_forced}
use Rattle.s38_rules.specs.store.Forcing.{Forced, must_persist}
use Rattle.s38_rules.specs.store.Room.{Room}
use Rattle.s38_rules.specs.state.State.{State}
use Rattle.s38_rules.specs.step.Step.{step}
use Rattle.s38_rules.specs.store.Storing.{room_after}

pub record DurableLaws : Type 0 where
  pub follows : (all : List Forced) (d : Durable) (s : State) → NumbersRise s.held → Follows s.held (durable_after all d s)
  pub counts : (all : List Forced) (d : Durable) (s : State) (room : Room) → All (StaysUserIn d) s.held.objects → Counts (Some room) d
      → Counts (Some (room_after room all s.held.objects)) (durable_after all d s)
  pub stays : (s : State) (p : ℕ) (e : Event) (d : Durable) (n : ℕ) → NumbersRise (step s p e).state.held → Follows s.held d → is_forced n (must_persist s p e) ≡ false
      → kept (durable_after (must_persist s p e) d (step s p e).state).objects n ≡ kept d.objects n
