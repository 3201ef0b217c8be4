-- What status 0 says of each command.
use Rattle.std.specs.Prelude.{◌≡◌, ℕ, List, [], Option, Some, None}
use Rattle.std.specs.Io.KnownBytes.{Appends}
use Rattle.s38_code.specs.declared.deck.Deck.{Deck}
use Rattle.s38_code.specs.declared.entry.Entry.{Entry}
use Rattle.s38_demo.specs.Total.{demo_text}
use Rattle.s38_joblog.specs.Log.{last_line}
use Rattle.s38_rules.specs.state.Held.{Held}
use Rattle.s38_rules.specs.state.Opening.{held_installed}
use Rattle.s38_store_file.specs.Stores.{BlocksBeforeAndAfter, Keeps}
use Rattle.s38_command.specs.declared.command.Command.{Command}
use Rattle.s38_command.specs.declared.command.Command.TheVariants.{Jobs, Check, Demo, Install, List as Listing}
use Rattle.s38_top.specs.declared.outcome.RunEnd.TheVariants.{Kept}
use Rattle.s38_command.specs.declared.turns.Turns.{Turns}
use Rattle.s38_top.specs.Decks.{checked_of}
use Rattle.s38_top.specs.Laws.{KeepsLaws}
use Rattle.s38_top.specs.Outside.{Outside, Unread, Untouched}
use Rattle.s38_top.specs.Runs.{RanOver, all_durable_of}
use Rattle.s38_top.specs.Answered.{checked_text, listed_text, run_text}
use Rattle.s38_top.specs.Causes.{HasDeck, HasMadeStore, IsListing, RanGenerated}

-- the input was read to its end
abbrev pub ReadOut : Outside → Outside → Type 0
ReadOut old new = (bytes : List ℕ) → old.left ≡ Some bytes → new.left ≡ Some []

-- a deck was spelled, the history is that of its whole runs over the store and keeps the laws of runs, what it left is
-- kept, its text was written, and the input was read to its end
pub record IsComplete (turns : Turns) (old new : Outside) (history : List Entry) : Type 0 where
  pub deck : Deck
  pub taken : HasDeck old new deck
  pub ran : RanOver turns old.disk deck history
  pub laws : KeepsLaws (Some ran.room) ran.held deck history ran.run.state
  pub kept : BlocksBeforeAndAfter old.disk new.disk (λ f g. Keeps new.disk.size g (all_durable_of ran.run.state))
  pub told : Appends old.written new.written (run_text deck history Kept)
  pub finished : ReadOut old new

-- a deck was spelled, what creation makes of each of its templates was written, the input was read to its end, and
-- nothing was run
pub record IsCheckOfDeck (old new : Outside) (history : List Entry) : Type 0 where
  pub deck : Deck
  pub taken : HasDeck old new deck
  pub told : Appends old.written new.written (checked_text (checked_of deck))
  pub finished : ReadOut old new
  pub still : history ≡ []
  pub untouched : Untouched old new

-- the generated deck was run so, the history keeps the laws of runs, the text of the demonstration was written, and the
-- input was not read
pub record IsDemonstrated (size : ℕ) (old new : Outside) (history : List Entry) : Type 0 where
  pub deck : Deck
  pub ran : RanGenerated size deck history
  pub laws : KeepsLaws None held_installed deck history ran.run.state
  pub told : Appends old.written new.written (demo_text size history)
  pub unread : Unread old new
  pub untouched : Untouched old new

-- a store was made where none was
pub record IsInstalled (old new : Outside) (history : List Entry) : Type 0 where
  pub made : HasMadeStore old.disk new.disk
  pub told : Appends old.written new.written (last_line 0)
  pub unread : Unread old new
  pub still : history ≡ []

-- a line for each object of the store was written
pub record IsListed (old new : Outside) (history : List Entry) : Type 0 where
  pub objects : Held
  pub listing : IsListing old.disk new.disk objects
  pub told : Appends old.written new.written (listed_text objects)
  pub unread : Unread old new
  pub still : history ≡ []

-- what status 0 says of each command
abbrev pub Serves : Option Command → Outside → Outside → List Entry → Type 0
Serves None old new history = ⊥
Serves (Some (Jobs turns)) old new history = IsComplete turns old new history
Serves (Some Check) old new history = IsCheckOfDeck old new history
Serves (Some (Demo size)) old new history = IsDemonstrated size old new history
Serves (Some Install) old new history = IsInstalled old new history
Serves (Some Listing) old new history = IsListed old new history
