-- What must persist of an event, by what becomes of it.
use Rattle.std.specs.Prelude.{ℕ, List, [], Option, Some, None}
use Rattle.s38_code.specs.declared.event.Event.{Event}
use Rattle.s38_rules.specs.declared.verdict.Verdict.{Verdict}
use Rattle.s38_rules.specs.declared.verdict.Verdict.TheVariants.{Permit, Wait, Refuse}
use Rattle.s38_rules.specs.store.Forcing.{Forced, must_persist}
use Rattle.s38_rules.specs.store.Room.{Room}
use Rattle.s38_rules.specs.state.State.{State}

-- what must persist of a permitted event; nothing without a store
abbrev pub must_persist_in : Option Room → List Forced → List Forced
must_persist_in None all = []
must_persist_in (Some room) all = all

abbrev pub must_persist_at : State → ℕ → Event → List Forced
must_persist_at s p event = must_persist_in s.room (must_persist s p event)

-- nothing where it is not permitted
abbrev pub must_persist_by : State → ℕ → Event → Verdict → List Forced
must_persist_by s p event Permit = must_persist_at s p event
must_persist_by s p event Wait = []
must_persist_by s p event (Refuse x) = []
