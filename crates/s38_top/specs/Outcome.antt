-- How an outcome is told, and all that is said of a call: each status has its cause, and good calls are served.
use Rattle.std.specs.Prelude.{◌≡◌, ◌⊎◌, ◌==◌, if◌then◌else◌, ℕ, List, take, Option, Some, None}
use Rattle.std.specs.Io.KnownBytes.{Appends}
use Rattle.s38_base.specs.Faults.{Rose}
use Rattle.s38_disk.specs.Blocks.{DiskState as Blocks}
use Rattle.s38_disk.specs.Disk.{DiskView, IsAt}
use Rattle.s38_io.specs.Sink.{AppendsFront}
use Rattle.s38_code.specs.declared.deck.Deck.{Deck}
use Rattle.s38_code.specs.declared.entry.Entry.{Entry}
use Rattle.s38_store_file.specs.Refusals.{IsBad, IsTaken}
use Rattle.s38_store_file.specs.declared.fault.BadStore.{BadStore}
use Rattle.s38_template.specs.Grammar.{Spells}
use Rattle.s38_command.specs.declared.command.Command.{Command}
use Rattle.s38_command.specs.declared.command.Command.TheVariants.{Jobs, Check, Demo, Install, List as Listing}
use Rattle.s38_top.specs.declared.outcome.Outcome.{Outcome}
use Rattle.s38_top.specs.Crash.{IsSafe}
use Rattle.s38_top.specs.Outside.{Outside}
use Rattle.s38_top.specs.Answered.{history_of, marks_of, most, outcome_text, status_of}
use Rattle.s38_top.specs.Causes.{Holds, IsServed}
use Rattle.s38_top.specs.Served.{Serves}

-- ---- how it is told

-- a fault of the sink changes the status, unless memory was wanted before
abbrev pub faulted : Outcome → ℕ
faulted o = if status_of o == 7 then 7 else 6

-- the text was written, or the sink failed and a prefix of it was
abbrev pub IsWrittenOut : Option (List ℕ) → Option (List ℕ) → ℕ → ℕ → ℕ → Outcome → Type 0
IsWrittenOut written written' put put' status o =
    ((status ≡ status_of o) × Appends written written' (outcome_text o))
    ⊎ ((status ≡ faulted o) × (Rose put put' × AppendsFront written written' (outcome_text o)))

abbrev pub Tells : Outside → Outside → ℕ → Outcome → Type 0
Tells old new status o = IsWrittenOut old.written new.written old.put new.put status o

-- the program came to an outcome that holds, and told it
pub record Ends (asked : Option Command) (old new : Outside) (status : ℕ) (history : List Entry) (marks : List ℕ) : Type 0 where
  pub outcome : Outcome
  pub holds : Holds asked old new outcome
  pub tells : Tells old new status outcome
  pub kept : history ≡ history_of outcome
  pub marked : marks ≡ marks_of outcome

-- ---- completeness

-- what was to be read is known, and spells a deck
pub record IsGoodDeck (left : Option (List ℕ)) : Type 0 where
  pub text : List ℕ
  pub told : left ≡ Some text
  pub deck : Deck
  pub is : Spells (take most text) deck

-- what a disk has is known, and nothing is wrong with its store
pub record IsGoodStore (disk : DiskView) : Type 0 where
  pub blocks : Blocks
  pub told : IsAt disk.past blocks
  pub sound : (bad : BadStore) → IsBad disk.size blocks.now bad → ⊥

-- what a command asks of what is to be read and of the disk
abbrev pub IsGoodFor : Option Command → Outside → Type 0
IsGoodFor None old = ⊥
IsGoodFor (Some (Jobs turns)) old = IsGoodDeck old.left × IsGoodStore old.disk
IsGoodFor (Some Check) old = IsGoodDeck old.left
IsGoodFor (Some (Demo size)) old = Unit {0}
IsGoodFor (Some Install) old = (bad : BadStore) → IsTaken old.disk bad → ⊥
IsGoodFor (Some Listing) old = IsGoodStore old.disk

-- good words, a good deck and a good store where they are used, and no count of faults that rose
pub record IsGood (asked : Option Command) (old new : Outside) : Type 0 where
  pub served : IsServed asked
  pub good_for : IsGoodFor (asked) old
  pub source : Rose old.taken new.taken → ⊥
  pub sink : Rose old.put new.put → ⊥
  pub disk : Rose old.disk.faults new.disk.faults → ⊥

-- such a call is served, unless memory is wanted, or what a run leaves finds no room
abbrev pub IsServedBy : ℕ → Type 0
IsServedBy status = (status ≡ 0) ⊎ ((status ≡ 7) ⊎ (status ≡ 8))

-- ---- all of it

-- each status but that of want of memory has its cause, and its text is written; status 0 has what its command promises; a
-- good call is served; and whenever a crash comes, the store is whole
pub record IsExplained (asked : Option Command) (old new : Outside) (status : ℕ) (history : List Entry) (marks : List ℕ) : Type 0 where
  pub ends : Ends asked old new status history marks
  pub serves : status ≡ 0 → Serves asked old new history
  pub good : IsGood asked old new → IsServedBy status
  pub safe : IsSafe asked old.disk new.disk (status ≡ 7) history marks
