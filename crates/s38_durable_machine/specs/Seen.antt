-- A machine over a vault, as contracts see it.
use Rattle.std.specs.Prelude.{◌-◌, ℕ, List, Option, None, length, slice_get, take}
use Rattle.std.specs.Option.{option_map}
use Rattle.s38_code.specs.declared.entry.Entry.{Entry}
use Rattle.s38_code.specs.declared.event.Event.{Event}
use Rattle.s38_rules.specs.step.Legal.{Run}
use Rattle.s38_rules.specs.state.State.{State}
use Rattle.s38_durable_machine.specs.declared.ending.Ending.{Ending}
use Rattle.s38_durable_machine.specs.declared.ending.Ending.TheVariants.{Going, Stopped, Wanting}

-- its machine, the vault as it is and as it was when the run began, and whether it goes on; where it goes no more, the last
-- entry of its machine is that of the call that failed
pub record StoredView (V : Type 0) : Type 0 where
  pub machine : Run
  pub vault : V
  pub first : V
  pub ending : Ending

abbrev pub without_last : {A : Type 0} → List A → List A
without_last xs = take (length xs - 1) xs

-- what was answered: without the entry of the call that failed
abbrev pub answered_by : Ending → Run → Run
answered_by Going m = m
answered_by Stopped m = record m { history = without_last m.history; marks = without_last m.marks }
answered_by Wanting m = record m { history = without_last m.history; marks = without_last m.marks }

abbrev pub run_of : {V : Type 0} → StoredView V → Run
run_of x = answered_by x.ending x.machine

-- ---- the call that failed

abbrev pub call_of : Entry → ℕ × Event
call_of e = (e.process, e.event)

abbrev pub stopped_by : Ending → List Entry → Option (ℕ × Event)
stopped_by Going history = None
stopped_by Stopped history = option_map call_of (slice_get history (length history - 1))
stopped_by Wanting history = None

-- the call that was answered Stopped
abbrev pub stopped_of : {V : Type 0} → StoredView V → Option (ℕ × Event)
stopped_of x = stopped_by x.ending x.machine.history

-- ---- the beginning

-- with what a machine over a vault was started, and its vault then
pub record StoredBeginning (V : Type 0) : Type 0 where
  pub state : State
  pub vault : V

abbrev pub beginning_of : {V : Type 0} → StoredView V → StoredBeginning V
beginning_of x = record { state = x.machine.origin; vault = x.first }

-- the last entry of a machine that went on counts as that of a call that failed
abbrev pub broken_off : {V : Type 0} → StoredView V → StoredView V
broken_off x = record { machine = x.machine; vault = x.vault; first = x.first; ending = Wanting }
