-- The state after a step that has a store keep something: a journal space that is kept has no byte that is not, and the
-- store has room for less.
use Rattle.std.specs.Prelude.{ℕ, List, [], ◌∷◌, Option, Some, None, if◌then◌else◌}
use Rattle.std.specs.List.{flat_map}
use Rattle.s38_code.specs.declared.event.Event.{Event}
use Rattle.s38_journals.specs.Journals as journals
use Rattle.s38_rules.specs.declared.object.Object.{Object}
use Rattle.s38_rules.specs.store.Forcing.{Forced, Whole, extent_after, must_persist}
use Rattle.s38_rules.specs.state.Held.{Held}
use Rattle.s38_rules.specs.state.PartsAt.{on_journal}
use Rattle.s38_rules.specs.store.Room.{Extent, Room, extent_at}
use Rattle.s38_rules.specs.state.State.{State}

-- all bytes of a journal space that is forced whole are kept
abbrev pub kept_one : Held → Forced → Held
kept_one h (Whole n) = on_journal h n journals.forced
kept_one h _ = h

unfoldable pub all_kept : Held → List Forced → Held
all_kept h [] = h
all_kept h (one ∷ more) = all_kept (kept_one h one) more

-- the extent of an object on disk after a step that forces this; one that is not on disk has none
abbrev pub extents_of : List Forced → List Extent → Object → List Extent
extents_of all old o = if o.on_disk then extent_after all (extent_at old o.number.0) o ∷ [] else []

-- those of all objects that are there after the step
abbrev pub room_after : Room → List Forced → List Object → Room
room_after room all os = record room { extents = flat_map (extents_of all room.extents) os }

abbrev pub stored_in : Option Room → List Forced → State → State
stored_in None all s = s
stored_in (Some room) all s = record s { held = all_kept s.held all; room = Some (room_after room all s.held.objects) }

-- the effect of an event, with what the event forces kept by the store; without a store nothing is kept
unfoldable pub stored : State → ℕ → Event → State → State
stored s p event t = stored_in s.room (must_persist s p event) t
