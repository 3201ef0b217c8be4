-- What a command line comes to: its first word is the path of the store's file, and the words after it are served.
use Rattle.std.specs.Prelude.{◌≡◌, ◌⊎◌, ℕ, true, Option, List, [], ◌∷◌}
use Rattle.std.specs.Io.KnownBytes.{Keeps}
use Rattle.std.specs.declared.io.ErrorKind.{ErrorKind}
use Rattle.std.specs.declared.io.ErrorKind.TheVariants as kinds
use Rattle.s38_code.specs.declared.entry.Entry.{Entry}
use Rattle.s38_disk.specs.Disk.{DiskView}
use Rattle.s38_top.specs.declared.outcome.Outcome.{Outcome}
use Rattle.s38_top.specs.declared.outcome.Outcome.TheVariants as outcomes
use Rattle.s38_command.specs.Commands.{asks_store, command_of}
use Rattle.s38_top.specs.Outcome.{IsExplained, IsWrittenOut}
use Rattle.s38_top.specs.Outside.{Outside, outside}
use Rattle.s38.specs.StoreFiles.{IsAttached, IsRefused}
use Rattle.s38.specs.declared.refusal.Refusal.{Refusal}
use Rattle.s38.specs.declared.refusal.Refusal.TheVariants.{BadWords, DiskFault, NoMemory}

-- why the words of a command line could not be taken
abbrev pub refusal_of : ErrorKind → Refusal
refusal_of kinds.OutOfMemory = NoMemory
refusal_of _ = BadWords

-- what a refusal comes to: its text and its status
abbrev pub outcome_of : Refusal → Outcome
outcome_of BadWords = outcomes.BadWords
outcome_of DiskFault = outcomes.DiskFault
outcome_of NoMemory = outcomes.NoMemory

-- the words come to some history, some marks and some disk: each status has its cause, status 0 what their command promises,
-- and a good call is served
pub record EndsSomehow (words : List (List ℕ)) (old : Outside) (left : Option (List ℕ)) (taken : ℕ) (written : Option (List ℕ)) (put status : ℕ) : Type 0 where
  pub history : List Entry
  pub marks : List ℕ
  pub disk : DiskView
  pub answered : IsExplained (command_of words) old (outside left taken written put disk) status history marks

-- the words after a path are served over a disk of its file, which is held if they look at the store
pub record IsServedOver {D : Type 0} (view : D → DiskView) (is_fresh : D → Type 0) (is_of : D → List ℕ → Type 0) (is_held : D → Type 0) (path : List ℕ) (words : List (List ℕ)) (left : Option (List ℕ)) (taken : ℕ) (written : Option (List ℕ)) (put : ℕ)
    (left' : Option (List ℕ)) (taken' : ℕ) (written' : Option (List ℕ)) (put' status : ℕ) : Type 0 where
  pub disk : D
  pub attached : IsAttached is_fresh is_of is_held (asks_store (command_of words)) path disk
  pub ends : EndsSomehow words (outside left taken written put (view disk)) left' taken' written' put' status

-- a command line is refused, and nothing is read
pub record IsTurnedAway (refusal : Refusal) (left left' written written' : Option (List ℕ)) (put put' status : ℕ) : Type 0 where
  pub unread : Keeps left left'
  pub told : IsWrittenOut written written' put put' status (outcome_of refusal)

-- Without a path the words are bad. Where memory is wanted, or the file can't be opened, or the words look at the store and
-- another has the file, no disk is there, and so no block is read or written.
abbrev pub IsServed : {D : Type 0} → (D → DiskView) → (D → Type 0) → (D → List ℕ → Type 0) → (D → Type 0) → (List ℕ → Type 0) → (List ℕ → Type 0) → List (List ℕ) → Option (List ℕ) → ℕ → Option (List ℕ) → ℕ
    → Option (List ℕ) → ℕ → Option (List ℕ) → ℕ → ℕ → Type 0
IsServed view is_fresh is_of is_held is_shut is_taken [] left taken written put left' taken' written' put' status = IsTurnedAway BadWords left left' written written' put put' status
IsServed view is_fresh is_of is_held is_shut is_taken (path ∷ words) left taken written put left' taken' written' put' status =
    IsTurnedAway NoMemory left left' written written' put put' status
    ⊎ ((IsTurnedAway DiskFault left left' written written' put put' status × IsRefused is_shut is_taken (asks_store (command_of words)) path)
    ⊎ IsServedOver view is_fresh is_of is_held path words left taken written put left' taken' written' put' status)
