-- What a step has a store keep at once, and whether there is room for it. Without a store nothing is ever full.
use Rattle.std.specs.Prelude.{ℕ, ◌==◌, Bool, false, true, ◌&&◌, List, [], ◌∷◌, ◌++◌, Option, Some, None, nat_lt, sum_by, if◌then◌else◌}
use Rattle.std.specs.List.{list_any}
use Rattle.s38_base.specs.declared.exception.Exception.{Exception}
use Rattle.s38_base.specs.declared.exception.Rule.TheVariants.{StoreFull}
use Rattle.s38_base.specs.declared.id.Kind.{Kind}
use Rattle.s38_base.specs.Exceptions as exceptions
use Rattle.s38_code.specs.declared.event.Event.{Event}
use Rattle.s38_code.specs.declared.event.Event.TheVariants.{Start, Act, Finish}
use Rattle.s38_commits.specs.Unit.{CommitUnit}
use Rattle.s38_commits.specs.Units.{unit_of}
use Rattle.s38_rules.specs.declared.object.Body.{Body}
use Rattle.s38_rules.specs.declared.object.Object.{Object}
use Rattle.s38_rules.specs.declared.verdict.Verdict.{Verdict}
use Rattle.s38_rules.specs.declared.verdict.Verdict.TheVariants.{Permit, Wait, Refuse}
use Rattle.s38_rules.specs.families.Changes.{CellsPut, Changes, Committed, Decommitted, Ensured, Entered, Framed, Gone, Journaled, Locked, Made, Moved, Named, OnAccess, OnCursor, OnIndex, OnQueue, Profiled, Resized, Stays, Then, done}
use Rattle.s38_rules.specs.families.Creation.{is_of_kind}
use Rattle.s38_rules.specs.step.Effect.{effect_of}
use Rattle.s38_rules.specs.state.Held.{Held, is_on_disk, object}
use Rattle.s38_rules.specs.state.Journaling.{journal_for, journal_for_block}
use Rattle.s38_rules.specs.state.PartsAt.{journal_at}
use Rattle.s38_rules.specs.store.Room.{Extent, Room, free, extent_at, extent_of, more_parts, rows_pages}
use Rattle.s38_rules.specs.families.Rows.{row}
use Rattle.s38_rules.specs.state.State.{State}
use Rattle.s38_rules.specs.step.Verdict.{of_failure}

pub data Forced : Type 0 where
  -- the ceiling, up to which numbers may be given
  Ceiling : Forced
  -- of an object what is said beside its body: header and rows; of a profile all
  Header : ℕ → Forced
  -- an object as it is
  Whole : ℕ → Forced
  -- that an object is there no more
  Removed : ℕ → Forced

-- ---- what a change forces

-- what is said of an object on disk follows
abbrev pub followed : Held → ℕ → List Forced
followed h n = if is_on_disk h n then Header n ∷ [] else []

abbrev pub whole_if : Option ℕ → List Forced
whole_if None = []
whole_if (Some n) = Whole n ∷ []

-- a ceiling rises before a number above it is given; a profile is on disk from its creation on
abbrev pub creation_forces : Held → Held → List Forced
creation_forces old new =
    (if nat_lt old.ceiling new.ceiling then Ceiling ∷ [] else []) ++ (if is_on_disk new old.next then Whole old.next ∷ [] else [])

abbrev pub forced_removal : Held → Kind → ℕ → List Forced
forced_removal h kind n = if is_of_kind kind (object h n) && is_on_disk h n then Removed n ∷ [] else []

-- how many bytes of a journal space may stay unforced
abbrev pub most_unforced : ℕ
most_unforced = 32768

abbrev pub overdue : Held → Option ℕ → List Forced
overdue h None = []
overdue h (Some journal) = if nat_lt most_unforced (journal_at h journal).unforced then Whole journal ∷ [] else []

-- the journal space of a unit, if there is one
abbrev pub commit_forces : Held → ℕ → Option CommitUnit → List Forced
commit_forces h block None = []
commit_forces h block (Some unit) = whole_if (journal_for_block h block)

-- an object that is ensured is forced whole, and with a data space its journal space; the end of a unit that stays forces
-- its journal space, and so does a change with which too many of its bytes would stay unforced
abbrev pub forced_by : State → ℕ → Changes → List Forced
forced_by s p Stays = []
forced_by s p (OnQueue n f) = []
forced_by s p (OnIndex n f) = []
forced_by s p (OnCursor n f) = []
forced_by s p (Resized n bytes) = []
forced_by s p (CellsPut operand cells) = []
forced_by s p (Entered block change f) =
    overdue (done s p (Entered block change f)).held (journal_for s.held change.space.0)
forced_by s p (Journaled n port) = []
forced_by s p (OnAccess n f) = followed s.held n
forced_by s p (Profiled n special limit) = followed s.held n
forced_by s p (Named n id) = followed s.held n
forced_by s p (Moved n context) = followed s.held n
forced_by s p (Ensured n) = Whole n ∷ whole_if (journal_for s.held n)
forced_by s p (Made owner made body) = creation_forces s.held (done s p (Made owner made body)).held
forced_by s p (Gone kind n) = forced_removal s.held kind n
forced_by s p (Framed f) = []
forced_by s p (Locked n held) = []
forced_by s p (Committed block) = commit_forces s.held block (unit_of s.units block)
forced_by s p (Decommitted block) = []
forced_by s p (Then first second) = forced_by s p first ++ forced_by (done s p first) p second

-- what a permitted event forces; a start and an end force nothing
unfoldable pub must_persist : State → ℕ → Event → List Forced
must_persist s p Start = []
must_persist s p (Act depth request) = forced_by s p ((row request.op).changes s p depth request)
must_persist s p (Finish cause) = []

-- ---- room

abbrev pub is_whole : ℕ → Forced → Bool
is_whole n (Whole m) = m == n
is_whole n _ = false

-- the rows of an object follow, and its body stays as it is kept; an object that is not kept yet is kept as it is
abbrev pub extent_with_rows : Object → Option Extent → Extent
extent_with_rows o None = extent_of o
extent_with_rows o (Some x) = record { number = o.number.0; rows = rows_pages o; body = x.body }

-- the extent of an object after a step that forces this
abbrev pub extent_after : List Forced → Option Extent → Object → Extent
extent_after all old o = if list_any (is_whole o.number.0) all then extent_of o else extent_with_rows o old

-- how many parts of an object on disk are new
abbrev pub new_parts_of : Room → List Forced → Object → ℕ
new_parts_of room all o =
    if o.on_disk then more_parts (extent_at room.extents o.number.0) (extent_after all (extent_at room.extents o.number.0) o) else 0

-- how many parts are new in all, where these objects are there after the step
abbrev pub new_parts : Room → List Forced → List Object → ℕ
new_parts room all os = sum_by (new_parts_of room all) os

-- a step needs no more new parts than are free
abbrev pub room_rule : Room → ℕ → Option Exception
room_rule room new =
    if nat_lt (free room) new then Some (record { id = exceptions.store_full; operand = 0; rule = StoreFull new (free room) }) else None

-- a step that forces nothing needs no room
abbrev pub store_rule : Option Room → List Forced → List Object → Option Exception
store_rule None all os = None
store_rule (Some room) [] os = None
store_rule (Some room) (one ∷ more) os = room_rule room (new_parts room (one ∷ more) os)

-- the last limit of a step that every other rule permits
abbrev pub with_room : State → ℕ → Event → Verdict → Verdict
with_room s p event Permit = of_failure (store_rule s.room (must_persist s p event) (effect_of s p event).state.held.objects)
with_room s p event Wait = Wait
with_room s p event (Refuse x) = Refuse x
