-- What is durable of a machine: up to which number objects may be given, and of each object on disk what the store keeps:
-- its header and its rows as they are, and its body as it was kept last.
use Rattle.std.specs.Prelude.{ℕ, ◌==◌, Bool, true, List, [], ◌∷◌, Option, Some, None, find, if◌then◌else◌, length}
use Rattle.std.specs.List.{flat_map, list_any}
use Rattle.s38_code.specs.declared.entry.Entry.{Entry}
use Rattle.s38_code.specs.declared.reply.Reply.{Reply}
use Rattle.s38_code.specs.declared.reply.Reply.TheVariants.{Done, Signal, MustWait}
use Rattle.s38_commits.specs.Units.{UnitMap}
use Rattle.s38_image.specs.declared.stored.Stored.{Stored}
use Rattle.s38_image.specs.Settled.{committed_image}
use Rattle.s38_rules.specs.declared.object.Body.{Body}
use Rattle.s38_rules.specs.declared.object.Body.TheVariants as bodies
use Rattle.s38_rules.specs.declared.object.Object.{Object}
use Rattle.s38_rules.specs.families.Changes.{Ensured, done}
use Rattle.s38_rules.specs.store.Forcing.{Forced, forced_by, is_whole, must_persist}
use Rattle.s38_rules.specs.state.Held.{Held}
use Rattle.s38_rules.specs.state.Journaling.{journal_for}
use Rattle.s38_rules.specs.state.PartsAt.{journal_at}
use Rattle.s38_rules.specs.state.State.{State}
use Rattle.s38_rules.specs.step.Step.{step}

pub record Durable : Type 0 where
  pub ceiling : ℕ
  -- in rising order of number
  pub objects : List Stored

-- ---- what is kept of one object

abbrev pub is_of_number : ℕ → Stored → Bool
is_of_number n x = x.object.number.0 == n

-- what is kept under a number
abbrev pub kept : List Stored → ℕ → Option Stored
kept xs n = find (is_of_number n) xs

abbrev pub last_sequence_in : Held → Option ℕ → ℕ
last_sequence_in h None = 0
last_sequence_in h (Some journal) = length (journal_at h journal).entries

-- the object as it is now, with every uncommitted change taken back, and with the last entry of its journal space
abbrev pub whole_stored : UnitMap → Held → Object → Stored
whole_stored units h o = committed_image units (last_sequence_in h (journal_for h o.number.0)) o

abbrev pub whole_object : State → Object → Stored
whole_object s o = whole_stored s.units s.held o

-- what is said of a user follows, and another body stays as it was kept
abbrev pub body_after : Body → Body → Body
body_after (bodies.Profile special limit) old = bodies.Profile special limit
body_after _ old = old

-- header and rows follow the object
abbrev pub with_header_and_rows : Object → Stored → Stored
with_header_and_rows o x = record x { object = record o { on_disk = true; body = body_after o.body x.object.body } }

-- an object that was not kept before is kept as it is now
abbrev pub followed_or_whole : State → Object → Option Stored → Stored
followed_or_whole s o None = whole_object s o
followed_or_whole s o (Some x) = with_header_and_rows o x

-- what is kept of an object after a step that forces this
abbrev pub kept_after : List Forced → State → Option Stored → Object → Stored
kept_after all s old o = if list_any (is_whole o.number.0) all then whole_object s o else followed_or_whole s o old

abbrev pub kept_by_force : List Forced → State → List Stored → Object → List Stored
kept_by_force all s old o = if o.on_disk then kept_after all s (kept old o.number.0) o ∷ [] else []

-- ---- what is durable after a step, and after a history

-- after a step that forces this and leads to a state
abbrev pub durable_after : List Forced → Durable → State → Durable
durable_after all d s = record { ceiling = s.held.ceiling; objects = flat_map (kept_by_force all s d.objects) s.held.objects }

-- what takes effect makes durable what it forces, and nothing else does
abbrev pub after_reply : Durable → State → Entry → Reply → Durable
after_reply d s e (Done values) = durable_after (must_persist s e.process e.event) d (step s e.process e.event).state
after_reply d s e (Signal x) = d
after_reply d s e MustWait = d

-- from what is durable in a state, after the entries of a history
abbrev pub durable : Durable → State → List Entry → Durable
durable d s [] = d
durable d s (e ∷ es) = durable (after_reply d s e e.reply) (step s e.process e.event).state es

-- ---- the end of a run

-- objects are ensured one after another
abbrev pub closed : Durable → State → List Object → Durable
closed d s [] = d
closed d s (o ∷ os) =
    closed (durable_after (forced_by s 0 (Ensured o.number.0)) d (done s 0 (Ensured o.number.0))) (done s 0 (Ensured o.number.0)) os
