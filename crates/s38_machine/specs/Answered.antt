-- A machine with its world, and its world after an answer.
use Rattle.std.specs.Prelude.{◌≡◌, ℕ, List, [], if◌then◌else◌}
use Rattle.s38_code.specs.declared.entry.Entry.{Entry}
use Rattle.s38_code.specs.declared.event.Event.{Event}
use Rattle.s38_rules.specs.declared.verdict.Verdict.{Verdict}
use Rattle.s38_rules.specs.declared.verdict.Verdict.TheVariants.{Permit, Wait, Refuse}
use Rattle.s38_rules.specs.step.Legal.{Run, history_after, marks_after}
use Rattle.s38_rules.specs.state.State.{State, waits}
use Rattle.s38_rules.specs.step.Step.{Stepped, awake_verdict, step}
use Rattle.s38_verdicts.specs.Asked.{checked_world, rows_for}
use Rattle.s38_rights_cache.specs.Following.{world_after_event}
use Rattle.s38_rights_cache.specs.Places.{RisesBy}
use Rattle.s38_rights_cache.specs.Worlds.{WorldState, begun_world}

-- with what it was started, its world now, and how it came there
pub record WorldRun : Type 0 where
  pub origin : State
  pub world : WorldState
  pub history : List Entry
  pub marks : List ℕ
  pub first : ℕ
  pub moment : ℕ

-- its run, of which the world is not told
abbrev pub run_of : WorldRun → Run
run_of m = record { origin = m.origin; state = m.world.state; history = m.history; marks = m.marks; first = m.first; moment = m.moment }

-- it has just begun, at a moment
abbrev pub begun_run : ℕ → State → WorldRun
begun_run moment s = record { origin = s; world = begun_world s; history = []; marks = []; first = moment; moment = moment }

-- ---- an answer

-- after an event that was given a verdict, and led to a state: what took effect is followed
abbrev pub world_by : Verdict → WorldState → ℕ → Event → State → WorldState
world_by Permit w p event t = world_after_event w p event t
world_by Wait w p event t = record w { state = t }
world_by (Refuse x) w p event t = record w { state = t }

-- an event that was given a verdict is entered
abbrev pub entered : WorldRun → ℕ → Event → Verdict → Stepped → WorldRun
entered m p event verdict x = record m { world = world_by verdict m.world p event x.state; history = history_after m.history p event x; marks = marks_after m.marks m.moment x }

-- ---- a step

-- rights are checked, and then the event takes effect; what a process asks that waits already changes nothing
abbrev pub world_after : WorldState → ℕ → Event → WorldState
world_after w p event = if waits w.state p then w else world_by (awake_verdict w.state p event) (checked_world w p event) p event (step w.state p event).state

abbrev pub rows_after : WorldState → ℕ → Event → ℕ
rows_after w p event = if waits w.state p then 0 else rows_for w p event

-- the world after an answer: the place of the process has what was found last before the effect, if anything was; all
-- other places stay, and so many rows were visited
pub record IsAnsweredWorld (w : WorldState) (p : ℕ) (event : Event) (t : WorldState) : Type 0 where
  pub world : t ≡ record (world_after w p event) { visits = t.visits }
  pub visits : RisesBy w.visits (rows_after w p event) t.visits

-- the world after an event that was not answered: at most the place of its process and the visits are others
pub record IsCheckedWorld (w : WorldState) (p : ℕ) (event : Event) (t : WorldState) : Type 0 where
  pub world : t ≡ record (checked_world w p event) { visits = t.visits }
  pub visits : RisesBy w.visits (rows_for w p event) t.visits
