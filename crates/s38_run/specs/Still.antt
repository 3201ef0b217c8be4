-- A machine without a store, whose moment stays that of its start.
use Rattle.std.specs.Prelude.{◌≡◌, ℕ}
use Rattle.s38_rules.specs.state.State.{State}
use Rattle.s38_rules.specs.step.Legal.{IsSound, Run}

-- what a machine was started with, and the moment then
pub record Beginning : Type 0 where
  pub state : State
  pub first : ℕ

abbrev pub beginning : Run → Beginning
beginning m = record { state = m.origin; first = m.first }

-- it is sound, and is at the moment of its start
pub record IsStill (m : Run) : Type 0 where
  pub sound : IsSound m
  pub moment : m.moment ≡ m.first

-- it never stops
abbrev pub AlwaysGoes : Run → Type 0
AlwaysGoes m = Unit {0}
