-- One step of the machine: an event takes effect, or is refused, or waits; each answer makes an entry, but that
-- to a process which waits already.
use Rattle.std.specs.Prelude.{ℕ, Bool, true, false, [], ◌∷◌, if◌then◌else◌}
use Rattle.s38_code.specs.declared.event.Event.{Event}
use Rattle.s38_code.specs.declared.reply.Reply.{Reply}
use Rattle.s38_code.specs.declared.reply.Reply.TheVariants.{Done, Signal, MustWait}
use Rattle.s38_rules.specs.declared.verdict.Verdict.{Verdict}
use Rattle.s38_rules.specs.declared.verdict.Verdict.TheVariants.{Permit, Wait, Refuse}
use Rattle.s38_rules.specs.state.State.{State, waits}
use Rattle.s38_rules.specs.step.Effect.{effect_of}
use Rattle.s38_rules.specs.store.Forcing.{with_room}
use Rattle.s38_rules.specs.store.Storing.{stored}
use Rattle.s38_rules.specs.step.Verdict.{ruled_verdict}

-- ---- what becomes of an event

-- the rules, and then the room in the store
unfoldable pub awake_verdict : State → ℕ → Event → Verdict
awake_verdict s p event = with_room s p event (ruled_verdict s p event)

-- a process that waits goes on waiting
unfoldable pub verdict_of : State → ℕ → Event → Verdict
verdict_of s p event = if waits s p then Wait else awake_verdict s p event

-- ---- the step

pub record Stepped : Type 0 where
  pub reply : Reply
  pub state : State
  -- whether the answer makes an entry
  pub enters : Bool

-- nobody waits any more
abbrev pub awake : State → State
awake s = record s { waiting = [] }

abbrev pub by_verdict : State → ℕ → Event → Verdict → Stepped
by_verdict s process event Permit = record { reply = Done (effect_of s process event).values; state = awake (stored s process event (effect_of s process event).state); enters = true }
by_verdict s process event Wait = record { reply = MustWait; state = record s { waiting = process ∷ s.waiting }; enters = true }
by_verdict s process event (Refuse x) = record { reply = Signal x; state = s; enters = true }

abbrev pub by_waiting : Bool → State → ℕ → Event → Stepped
by_waiting true s process event = record { reply = MustWait; state = s; enters = false }
by_waiting false s process event = by_verdict s process event (awake_verdict s process event)

unfoldable pub step : State → ℕ → Event → Stepped
step s process event = by_waiting (waits s process) s process event
