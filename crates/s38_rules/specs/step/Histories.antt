-- What a history leads to, and what holds on its way.
use Rattle.std.specs.Prelude.{List, [], ◌∷◌}
use Rattle.s38_code.specs.declared.entry.Entry.{Entry}
use Rattle.s38_rules.specs.state.State.{State}
use Rattle.s38_rules.specs.step.Step.{step}

-- the state after some entries
abbrev pub state_after : State → List Entry → State
state_after s [] = s
state_after s (e ∷ es) = state_after (step s e.process e.event).state es

-- a law holds of each state on the way of a history, the first and the last too
abbrev pub Throughout : (State → Type 0) → State → List Entry → Type 0
Throughout Law s [] = Law s
Throughout Law s (e ∷ es) = Law s × Throughout Law (step s e.process e.event).state es
