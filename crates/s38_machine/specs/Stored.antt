-- A machine with a store: what of a step must persist, and what is prepared for it.
pub use Rattle.s38_verdicts.specs.Anew.{must_persist_at, must_persist_by, must_persist_in}
pub use Rattle.s38_verdicts.specs.Fitting.{FitsStore}
use Rattle.std.specs.Prelude.{◌≡◌, ◌≤◌, ℕ, List, [], ◌∷◌, length, Option, Some, None}
use Rattle.s38_code.specs.declared.deck.Job.{Job}
use Rattle.s38_code.specs.declared.event.Event.{Event}
use Rattle.s38_code.specs.declared.made.CheckedTemplate.{CheckedTemplate}
use Rattle.s38_space_map.specs.Keeping.{RoomHeld}
use Rattle.s38_machine.specs.Log.{with_last}
use Rattle.s38_rules.specs.store.Forcing.{Forced}
use Rattle.s38_rules.specs.state.Held.{Held}
use Rattle.s38_rules.specs.step.Legal.{Run}
use Rattle.s38_rules.specs.state.Opening.{state_of}
use Rattle.s38_rules.specs.store.Room.{Room}
use Rattle.s38_rules.specs.state.State.{State}
use Rattle.s38_rules.specs.step.Step.{verdict_of}

-- the state in which jobs find a machine over a store that has this room
abbrev pub stored_state_of : Option Room → Held → List CheckedTemplate → List Job → State
stored_state_of room held templates jobs = record (state_of held templates jobs) { room = room }

-- ---- a step

-- what must persist of an event: nothing where it is not permitted
abbrev pub kept_anew : State → ℕ → Event → List Forced
kept_anew s p event = must_persist_by s p event (verdict_of s p event)

-- what is prepared: where something must persist, the room of the store once more, with the memory for that
abbrev pub IsPrepared : Option Room → List Forced → Option RoomHeld → Type 0
IsPrepared room [] spare = spare ≡ None
IsPrepared room (one ∷ more) None = room ≡ None
IsPrepared room (one ∷ more) (Some next) = (room ≡ Some next.room) × (length (one ∷ more) ≤ next.spare)

-- the store of a machine has come to a moment, and the last entry was answered then
abbrev pub stamped : ℕ → Run → Run
stamped moment m = record m { marks = with_last moment m.marks; moment = moment }
