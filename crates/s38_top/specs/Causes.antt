-- The cause of each outcome: what the program read, and what it made of that.
use Rattle.std.specs.Prelude.{◌≡◌, ◌⊎◌, ℕ, true, false, IsTrue, List, Option, Some, None, is_some, Err}
use Rattle.s38_base.specs.Faults.{Rose}
use Rattle.s38_redo_log.specs.Coding.{is_store_label}
use Rattle.s38_disk.specs.Blocks.{DiskState as Blocks}
use Rattle.s38_disk.specs.Disk.{DiskView, IsAt, moment_of}
use Rattle.s38_io.specs.Source.{ReadsAll}
use Rattle.s38_code.specs.declared.deck.Deck.{Deck}
use Rattle.s38_code.specs.declared.entry.Entry.{Entry}
use Rattle.s38_demo.specs.GeneratedDeck.{deck_of}
use Rattle.s38_rules.specs.state.Held.{Held}
use Rattle.s38_rules.specs.state.Opening.{held_installed}
use Rattle.s38_store_file.specs.Refusals.{IsBad, IsTaken}
use Rattle.s38_store_file.specs.Stores.{BlocksBeforeAndAfter, IsCleaned, Keeps, Restarts, installed_store}
use Rattle.s38_store_file.specs.declared.fault.BadStore.{BadStore}
use Rattle.s38_template.specs.Grammar.{Spells}
use Rattle.s38_template.specs.Reading.{read_of}
use Rattle.s38_template.specs.declared.fault.DeckFault.TheVariants as faults
use Rattle.s38_command.specs.declared.command.Command.{Command}
use Rattle.s38_command.specs.declared.command.Command.TheVariants.{Jobs, Check, Demo, Install, List as Listing}
use Rattle.s38_top.specs.declared.outcome.Outcome.{Outcome}
use Rattle.s38_top.specs.declared.outcome.RunEnd.{RunEnd}
use Rattle.s38_top.specs.declared.outcome.RunEnd.TheVariants.{Kept, Failed, Full, Stopped}
use Rattle.s38_top.specs.declared.outcome.Whole.{Whole}
use Rattle.s38_top.specs.declared.outcome.Outcome.TheVariants.{BadWords, BadDeck, DeckFault, NoMemory, Ran, Checked, Demonstrated, Installed, Listed, Refused, DiskFault}
use Rattle.s38_command.specs.declared.turns.Turns.{Turns}
use Rattle.s38_command.specs.declared.turns.Turns.TheVariants.{Serial}
use Rattle.s38_command.specs.Commands.{reads_deck}
use Rattle.s38_top.specs.Decks.{AreMarks, AreStoreMarks, IsRunOf, checked_of, made_in_order, opened_machine}
use Rattle.s38_top.specs.Lines.{line}
use Rattle.s38_top.specs.Outside.{Outside, Unread, Untouched}
use Rattle.s38_durable_state.specs.Durable.{durable}
use Rattle.s38_laws_flush.specs.durable.Beginning.{durable_in}
use Rattle.s38_top.specs.Runs.{EndsWith, RanOver, RanTo}
use Rattle.s38_top.specs.Answered.{most}

-- the words are a command
abbrev pub IsServed : Option Command → Type 0
IsServed asked = IsTrue (is_some asked)

-- the text that was taken spells the deck
pub record HasDeck (old new : Outside) (deck : Deck) : Type 0 where
  pub text : List ℕ
  pub read : ReadsAll most old.left new.left text
  pub is : Spells text deck

-- the generated deck was run from the objects of a store that was installed, in turns of the picker that begins at the
-- number of its postings
pub record RanGenerated (size : ℕ) (deck : Deck) (history : List Entry) : Type 0 where
  pub is : Spells (deck_of size) deck
  pub run : IsRunOf None held_installed (made_in_order (Serial size)) deck history

-- a whole run over the store of a disk, its marks, and what it left on the disk
pub record CameToEnd (turns : Turns) (old new : DiskView) (whole : Whole) (end : RunEnd) : Type 0 where
  pub ran : RanOver turns old whole.deck whole.history.items
  pub marks : AreStoreMarks (moment_of old.past) (moment_of new.past) whole.marks.items whole.history.items
  pub ends : EndsWith old new (λ m. durable (durable_in m) (opened_machine (Some ran.room) ran.held whole.deck) whole.history.items) ran.run.state end

-- a run over the store of a disk up to where the disk failed, and its marks
pub record CameToStop (turns : Turns) (old new : DiskView) (whole : Whole) : Type 0 where
  pub ran : RanTo turns old whole.deck whole.history.items
  pub marks : AreStoreMarks (moment_of old.past) (moment_of new.past) whole.marks.items whole.history.items
  pub failed : Rose old.faults new.faults

abbrev pub CameToRun : Turns → DiskView → DiskView → Whole → RunEnd → Type 0
CameToRun turns old new whole Kept = CameToEnd turns old new whole Kept
CameToRun turns old new whole Failed = CameToEnd turns old new whole Failed
CameToRun turns old new whole (Full needed free) = CameToEnd turns old new whole (Full needed free)
CameToRun turns old new whole Stopped = CameToStop turns old new whole

-- something is wrong with the store on a disk
abbrev pub HasBadStore : DiskView → BadStore → Type 0
HasBadStore disk bad = (s : Blocks) → IsAt disk.past s → IsBad disk.size s.now bad

-- the text that a command is about: a demonstration makes it, a run and `check` take it from the source, and the others
-- have none
abbrev pub IsInputOf : Command → Outside → Outside → List ℕ → Type 0
IsInputOf (Jobs turns) old new text = ReadsAll most old.left new.left text
IsInputOf Check old new text = ReadsAll most old.left new.left text
IsInputOf (Demo size) old new text = Unread old new × (text ≡ deck_of size)
IsInputOf Install old new text = ⊥
IsInputOf Listing old new text = ⊥

-- what a text comes to under a command, where the disk is this before and after; want of memory alone is free
abbrev pub OfText : Command → List ℕ → DiskView → DiskView → Outcome → Type 0
OfText command text old new BadWords = ⊥
OfText command text old new (BadDeck line code) = (read_of text ≡ Err (faults.Bad line code)) × (((deck : Deck) → Spells text deck → ⊥) × (new ≡ old))
OfText command text old new DeckFault = ⊥
OfText command text old new NoMemory = Unit {0}
OfText command text old new (Ran turns whole end) = (command ≡ Jobs turns) × (Spells text whole.deck × CameToRun turns old new whole end)
OfText command text old new (Refused bad) = (turns : Turns) × ((command ≡ Jobs turns) × HasBadStore old bad)
OfText command text old new DiskFault = (turns : Turns) × ((command ≡ Jobs turns) × Rose old.faults new.faults)
OfText command text old new (Checked checked) = (command ≡ Check) × (Spells text checked.deck × ((checked.templates ≡ checked_of checked.deck) × (new ≡ old)))
OfText command text old new (Demonstrated size whole) =
    (command ≡ Demo size) × (Spells text whole.deck × (IsRunOf None held_installed (made_in_order (Serial size)) whole.deck whole.history.items × (AreMarks whole.marks.items whole.history.items × (new ≡ old))))
OfText command text old new Installed = ⊥
OfText command text old new (Listed objects) = ⊥

-- a store was made where none was
pub record HasMadeStore (old new : DiskView) : Type 0 where
  pub fresh : (s : Blocks) → IsAt old.past s → is_store_label (s.now 0) ≡ false
  pub made : BlocksBeforeAndAfter old new (λ f g. Keeps new.size g installed_store)

-- the objects are those of the store, and its orphan pages were removed
pub record IsListing (old new : DiskView) (objects : Held) : Type 0 where
  pub objects_are : (s : Blocks) → IsAt old.past s → Restarts old.size s.now objects
  pub cleaned : BlocksBeforeAndAfter old new (IsCleaned old new)

-- what a command without a deck comes to
abbrev pub OfStore : Command → DiskView → DiskView → Outcome → Type 0
OfStore command old new BadWords = ⊥
OfStore command old new (BadDeck line code) = ⊥
OfStore command old new DeckFault = ⊥
OfStore command old new NoMemory = Unit {0}
OfStore command old new (Ran turns whole end) = ⊥
OfStore command old new (Refused bad) = ((command ≡ Install) × IsTaken old bad) ⊎ ((command ≡ Listing) × HasBadStore old bad)
OfStore command old new DiskFault = (reads_deck command ≡ false) × Rose old.faults new.faults
OfStore command old new (Checked checked) = ⊥
OfStore command old new (Demonstrated size whole) = ⊥
OfStore command old new Installed = (command ≡ Install) × HasMadeStore old new
OfStore command old new (Listed objects) = (command ≡ Listing) × IsListing old new objects

-- the words are a command, and the text that it is about comes to the outcome
pub record FromText (asked : Option Command) (old new : Outside) (o : Outcome) : Type 0 where
  pub command : Command
  pub is : asked ≡ Some command
  pub text : List ℕ
  pub takes : IsInputOf command old new text
  pub comes : OfText command text old.disk new.disk o

-- the words are a command that reads nothing, and it comes to the outcome
pub record FromStore (asked : Option Command) (old new : Outside) (o : Outcome) : Type 0 where
  pub command : Command
  pub is : asked ≡ Some command
  pub unread : Unread old new
  pub comes : OfStore command old.disk new.disk o

-- the words are a command that reads a deck
pub record ReadsDeck (asked : Option Command) : Type 0 where
  pub command : Command
  pub is : asked ≡ Some command
  pub reads : reads_deck command ≡ true

-- each outcome has its cause: words that are no command, a source that failed, want of memory, which is free, the text, or
-- the store
abbrev pub Holds : Option Command → Outside → Outside → Outcome → Type 0
Holds asked old new BadWords = (asked ≡ None) × (Unread old new × Untouched old new)
Holds asked old new (BadDeck line code) = ReadsDeck asked × FromText asked old new (BadDeck line code)
Holds asked old new DeckFault = ReadsDeck asked × (Rose old.taken new.taken × Untouched old new)
Holds asked old new NoMemory = Unit {0}
Holds asked old new (Ran turns whole end) = FromText asked old new (Ran turns whole end)
Holds asked old new (Refused bad) = FromText asked old new (Refused bad) ⊎ FromStore asked old new (Refused bad)
Holds asked old new DiskFault = FromText asked old new DiskFault ⊎ FromStore asked old new DiskFault
Holds asked old new (Checked checked) = FromText asked old new (Checked checked)
Holds asked old new (Demonstrated size whole) = FromText asked old new (Demonstrated size whole)
Holds asked old new Installed = FromStore asked old new Installed
Holds asked old new (Listed objects) = FromStore asked old new (Listed objects)
