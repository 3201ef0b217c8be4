-- Machines that have begun the jobs of a deck, and whole runs from there.
use Rattle.std.specs.Prelude.{◌≡◌, ◌≤◌, ℕ, List, None, Some, length, slice_get}
use Rattle.s38_code.specs.declared.deck.Deck.{Deck}
use Rattle.s38_code.specs.declared.deck.Job.{Job}
use Rattle.s38_code.specs.declared.entry.Entry.{Entry}
use Rattle.s38_code.specs.declared.made.CreateResult.{CreateResult}
use Rattle.s38_objects.specs.Lawful.{IsObjectMap}
use Rattle.s38_rules.specs.state.Held.{Held}
use Rattle.s38_rules.specs.step.Legal.{begun, no_moment}
use Rattle.s38_rules.specs.state.State.{State}
use Rattle.s38_top.specs.declared.outcome.Whole.{Whole}
use Rattle.s38_top.specs.declared.start.Started.{Started}
use Rattle.s38_top.specs.Decks.{AreMarks, IsRunOf, made_for, opened_machine}

-- the objects with which a machine began
abbrev pub held_of : Started → Held
held_of started = started.machine.state.held

-- the machine has begun the jobs of the deck, with what creation makes of the template of each
pub record IsStarted (started : Started) : Type 0 where
  pub begins : started.machine ≡ begun no_moment (opened_machine None (held_of started) started.deck)
  pub few : length started.deck.jobs ≤ 256
  pub count : length started.made.items ≡ length started.deck.jobs
  pub each : (k : ℕ) (job : Job) (one : CreateResult) → slice_get started.deck.jobs k ≡ Some job
      → slice_get started.made.items k ≡ Some one → made_for started.deck job ≡ Some one

-- the jobs of a deck ran whole from some objects, their entries are in this order, and this is what they came to
pub record IsWholeOf (held : Held) (Order : State → List Entry → Type 0) (deck : Deck) (whole : Whole) : Type 0 where
  pub deck_is : whole.deck ≡ deck
  pub run : IsRunOf None held Order deck whole.history.items
  pub state_is : run.state ≡ whole.state
  pub marks : AreMarks whole.marks.items whole.history.items
  pub lawful : IsObjectMap whole.state.held
