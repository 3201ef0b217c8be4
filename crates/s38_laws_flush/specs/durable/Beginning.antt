-- With what a run over a store begins.
use Rattle.std.specs.Prelude.{ℕ, List, Option, map}
use Rattle.s38_base.specs.Limits.{body_limit}
use Rattle.s38_code.specs.declared.deck.Job.{Job}
use Rattle.s38_code.specs.declared.made.CheckedTemplate.{CheckedTemplate}
use Rattle.s38_durable_state.specs.Durable.{Durable}
use Rattle.s38_durable_state.specs.Following.{extent_in}
use Rattle.s38_restart.specs.catalog.Groups.{removals}
use Rattle.s38_restart.specs.catalog.Stores.{ceiling_of, objects_stored_in}
use Rattle.s38_restart.specs.Parts.{all_parts}
use Rattle.s38_rules.specs.state.Held.{Held}
use Rattle.s38_rules.specs.state.Opening.{state_of}
use Rattle.s38_rules.specs.store.Room.{Room}
use Rattle.s38_rules.specs.state.State.{State}
use Rattle.s38_vault.specs.Content.{Content, changed}

-- what a restart reads of the content of a store: its ceiling, and the image of each object
abbrev pub durable_in : Content → Durable
durable_in m = record { ceiling = ceiling_of (all_parts m); objects = objects_stored_in body_limit (all_parts m) }

-- the content without its orphan pages
abbrev pub cleaned : Content → Content
cleaned m = changed m (removals (all_parts m))

-- the room of a store that takes so many parts, where this is durable
abbrev pub room_for : ℕ → Durable → Room
room_for parts d = record { parts = parts; extents = map extent_in d.objects }

-- a machine begins with these objects, over a store with this room
abbrev pub origin_of : Held → List CheckedTemplate → List Job → Option Room → State
origin_of held templates jobs room = record (state_of held templates jobs) { room = room }
