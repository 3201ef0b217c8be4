-- What changes an entry of a data space, or destroys the data space, in a history.
use Rattle.std.specs.Prelude.{◌≡◌, ℕ, ◌==◌, Bool, false, ◌||◌, List, [], ◌∷◌}
use Rattle.s38_code.specs.declared.entry.Entry.{Entry}
use Rattle.s38_code.specs.declared.event.Event.{Event}
use Rattle.s38_code.specs.declared.event.Event.TheVariants.{Act, Finish, Start}
use Rattle.s38_code.specs.declared.reply.Reply.{Reply}
use Rattle.s38_code.specs.declared.reply.Reply.TheVariants.{Done, MustWait, Signal}
use Rattle.s38_commits.specs.Changes.{is_of_entry}
use Rattle.s38_rules.specs.families.Changes.{Changes, Entered, Gone, Then}
use Rattle.s38_rules.specs.families.Rows.{row}
use Rattle.s38_rules.specs.state.State.{State}
use Rattle.s38_rules.specs.step.Step.{step}

-- a change is of the entry, or destroys the object of the data space's number
abbrev pub touches : ℕ → ℕ → Changes → Bool
touches n at (Entered block change f) = is_of_entry n at change
touches n at (Gone kind m) = m == n
touches n at (Then a b) = touches n at a || touches n at b
touches n at _ = false

-- an event changes the entry or destroys the data space; a start and an end do not
abbrev pub touched_by : ℕ → ℕ → State → ℕ → Event → Bool
touched_by n at s p Start = false
touched_by n at s p (Act depth request) = touches n at ((row request.op).changes s p depth request)
touched_by n at s p (Finish cause) = false

-- only what takes effect does
abbrev pub touched : ℕ → ℕ → State → Entry → Reply → Bool
touched n at s e (Done values) = touched_by n at s e.process e.event
touched n at s e (Signal x) = false
touched n at s e MustWait = false

-- no entry of a history that begins in a state does
abbrev pub LeavesAlone : ℕ → ℕ → State → List Entry → Type 0
LeavesAlone n at s [] = Unit {0}
LeavesAlone n at s (e ∷ es) = (touched n at s e e.reply ≡ false) × LeavesAlone n at (step s e.process e.event).state es
