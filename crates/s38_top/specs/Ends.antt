-- On the way to an outcome: what is read of a source, what is known before a run, and what a run over an opened store comes
-- to.
use Rattle.std.specs.Prelude.{◌≡◌, ◌≤◌, ℕ, List, Option, Some, None, Result, Ok, Err}
use Rattle.s38_base.specs.Faults.{Rose}
use Rattle.s38_redo_log.specs.Store.{RecoversTo}
use Rattle.s38_page_diff.specs.declared.fault.FlushFault.{FlushFault}
use Rattle.s38_page_diff.specs.declared.fault.FlushFault.TheVariants as closes
use Rattle.s38_code.specs.declared.deck.Deck.{Deck}
use Rattle.s38_code.specs.declared.entry.Entry.{Entry}
use Rattle.s38_code.specs.declared.made.CreateResult.{CreateResult}
use Rattle.s38_command.specs.declared.command.Command.{Command}
use Rattle.s38_command.specs.declared.turns.Turns.{Turns}
use Rattle.s38_disk.specs.Blocks.{DiskState as Blocks}
use Rattle.s38_disk.specs.Disk.{DiskView, IsAt, moment_of}
use Rattle.s38_durable_state.specs.Durable.{Durable, durable}
use Rattle.s38_io.specs.Source.{ReadsAll}
use Rattle.s38_laws_flush.specs.durable.Beginning.{cleaned, durable_in}
use Rattle.s38_pages.specs.Mounts.{fewest, layout_of}
use Rattle.s38_pages.specs.Vaults.{PageStore, page_holds, page_view}
use Rattle.s38_pages.specs.Watched.{WatchedStore}
use Rattle.s38_rules.specs.store.Room.{Room}
use Rattle.s38_rules.specs.state.State.{State}
use Rattle.s38_durable_machine.specs.Seen.{StoredView}
use Rattle.s38_durable_machine.specs.Sound.{IsOf}
use Rattle.s38_store_file.specs.Crashes.{GoesOn, KeepsRestarting}
use Rattle.s38_store_file.specs.Opened.{IsFaultless}
use Rattle.s38_template.specs.Grammar.{Spells}
use Rattle.s38_top.specs.declared.outcome.Outcome.{Outcome}
use Rattle.s38_top.specs.declared.outcome.Outcome.TheVariants.{DeckFault, NoMemory, Ran}
use Rattle.s38_top.specs.declared.outcome.RunEnd.{RunEnd}
use Rattle.s38_top.specs.declared.outcome.RunEnd.TheVariants as ends
use Rattle.s38_top.specs.declared.outcome.Whole.{Whole}
use Rattle.s38_top.specs.Crash.{Between, IsHistoryWithPendingCall, IsSafe, RecoversToCheckpointPrefix, RecoversToPrefix}
use Rattle.s38_top.specs.Decks.{AreStoreMarks, IsRunOf, IsRunTo, made_in_order}
use Rattle.s38_top.specs.Causes.{Holds, OfText}
use Rattle.s38_top.specs.Answered.{history_of, marks_of, most}
use Rattle.s38_top.specs.Outside.{outside}
use Rattle.s38_top.specs.Runs.{BeginsWith, LeavesAfter, LeavesBy}
use Rattle.s38_top.specs.Stored.{IsBegunOver, vault_of}
use Rattle.s38_vault.specs.Content.{Content}

-- how a run ended by what became of what it left; none for want of memory. A checkpoint never finds a bad header
abbrev pub end_of : Result (Unit {0}) FlushFault → Option RunEnd
end_of (Ok done) = Some ends.Kept
end_of (Err (closes.Full needed free)) = Some (ends.Full needed free)
end_of (Err closes.Failed) = Some ends.Failed
end_of (Err closes.NoMemory) = None
end_of (Err (closes.BadHeader object)) = None

-- what it left is now on the disk, or memory was wanted
abbrev pub IsEnd : Turns → Whole → PageStore → DiskView → Outcome → Type 0
IsEnd turns whole v new (Ran x ran end) = (x ≡ turns) × ((ran ≡ whole) × ((end ≡ ends.Stopped → ⊥) × LeavesBy v new whole.state end))
IsEnd turns whole v new NoMemory = Unit {0}
IsEnd turns whole v new _ = ⊥

-- ---- over a vault

-- a deck was run over a vault from a state, and what it left is now on the disk
pub record IsRunFinished (turns : Turns) (deck : Deck) (v : PageStore) (s : State) (new : DiskView) (whole : Whole) (end : RunEnd) : Type 0 where
  pub deck_is : whole.deck ≡ deck
  pub run : IsRunOf s.room s.held (made_in_order turns) deck whole.history.items
  pub marks : AreStoreMarks (page_view v).moment (moment_of new.past) whole.marks.items whole.history.items
  pub behind : LeavesAfter v s new whole.history.items run.state end

-- it was run up to where the disk failed
pub record IsRunStopped (turns : Turns) (deck : Deck) (v : PageStore) (s : State) (new : DiskView) (whole : Whole) : Type 0 where
  pub deck_is : whole.deck ≡ deck
  pub run : IsRunTo s.room s.held (made_in_order turns) deck whole.history.items
  pub marks : AreStoreMarks (page_view v).moment (moment_of new.past) whole.marks.items whole.history.items
  pub failed : Rose v.start new.faults

abbrev pub IsRunEnded : Turns → Deck → PageStore → State → DiskView → Whole → RunEnd → Type 0
IsRunEnded turns deck v s new whole ends.Kept = IsRunFinished turns deck v s new whole ends.Kept
IsRunEnded turns deck v s new whole ends.Failed = IsRunFinished turns deck v s new whole ends.Failed
IsRunEnded turns deck v s new whole (ends.Full needed free) = IsRunFinished turns deck v s new whole (ends.Full needed free)
IsRunEnded turns deck v s new whole ends.Stopped = IsRunStopped turns deck v s new whole

-- what a run over a vault comes to; or memory was wanted
abbrev pub CameFrom : Turns → Deck → PageStore → State → DiskView → Outcome → Type 0
CameFrom turns deck v s new (Ran x whole end) = (x ≡ turns) × IsRunEnded turns deck v s new whole end
CameFrom turns deck v s new NoMemory = Unit {0}
CameFrom turns deck v s new _ = ⊥

-- what a crash leaves of it at each moment
pub record LeftOver (turns : Turns) (deck : Deck) (v : PageStore) (s : State) (new : DiskView) (o : Outcome) : Type 0 where
  pub entries : List Entry
  pub marks : List ℕ
  pub planned : List Entry
  pub plans : IsHistoryWithPendingCall s entries planned
  pub run : IsRunTo s.room s.held (made_in_order turns) deck entries
  pub last : ℕ
  pub goes : GoesOn v.disk new
  pub marked : AreStoreMarks (page_view v).moment last marks entries
  pub ended : last ≤ moment_of new.past
  pub running : (m : Content) (d : Durable) → page_holds v m → IsOf m d s → fewest ≤ new.size → Between (page_view v).moment last new (λ t g. RecoversToPrefix new.size d s planned marks t g)
  pub closing : (m : Content) (d : Durable) → page_holds v m → IsOf m d s → fewest ≤ new.size → Between last (moment_of new.past) new (λ t g. RecoversToCheckpointPrefix new.size (durable d s entries) run.state g)
  pub reported : (o ≡ NoMemory → ⊥) → (history_of o ≡ entries) × (marks_of o ≡ marks)
  pub next : (o ≡ NoMemory → ⊥) → IsRunTo s.room s.held (made_in_order turns) deck planned

-- the text of a source comes to it, or the source failed
abbrev pub ReadsFrom : Command → Option (List ℕ) → Option (List ℕ) → ℕ → ℕ → DiskView → DiskView → Outcome → Type 0
ReadsFrom command left left' taken taken' old new NoMemory = Unit {0}
ReadsFrom command left left' taken taken' old new DeckFault = Rose taken taken' × (new ≡ old)
ReadsFrom command left left' taken taken' old new o = (text : List ℕ) × (ReadsAll most left left' text × OfText command text old new o)

-- ---- before the run

-- some text spells the deck
abbrev pub IsSpelled : Deck → Type 0
IsSpelled deck = (text : List ℕ) × Spells text deck

-- the text that was taken of a source spells the deck
abbrev pub IsReadFrom : Option (List ℕ) → Option (List ℕ) → Deck → Type 0
IsReadFrom left left' deck = (text : List ℕ) × (ReadsAll most left left' text × Spells text deck)

-- A machine has begun the jobs of a deck over the store of a disk: with the objects to which it is restarted, and its room.
pub record IsReady (old : DiskView) (deck : Deck) (made : List CreateResult) (x : StoredView WatchedStore) : Type 0 where
  pub begun : IsBegunOver deck made x
  pub room : Room
  pub has : x.machine.origin.room ≡ Some room
  pub begins : BeginsWith old x.machine.origin.held room
  -- what the vault held is what was on the disk, without the orphan pages
  pub holds : (s : Blocks) → IsAt old.past s → (m : Content) → RecoversTo (layout_of old.size) s.now m → page_holds (vault_of x) (cleaned m) × IsOf (cleaned m) (durable_in m) x.machine.origin
  pub content : (s : Blocks) → IsAt old.past s → (m : Content) × RecoversTo (layout_of old.size) s.now m
  pub faultless : IsFaultless old (vault_of x)
  pub goes : GoesOn old (vault_of x).disk
  -- while the store was opened a crash left it as it is
  pub during : KeepsRestarting old (vault_of x).disk

-- whenever a crash comes, the store is whole, where a call comes to an outcome
abbrev pub IsSafeOf : Option Command → DiskView → DiskView → Outcome → Type 0
IsSafeOf asked old new o = IsSafe asked old new (o ≡ NoMemory) (history_of o) (marks_of o)

-- the outcome has its cause, whatever is written
abbrev pub IsDecided : Option Command → Option (List ℕ) → Option (List ℕ) → ℕ → ℕ → DiskView → DiskView → Outcome → Type 0
IsDecided asked left left' taken taken' old new o =
    (written written' : Option (List ℕ)) (put put' : ℕ) → Holds asked (outside left taken written put old) (outside left' taken' written' put' new) o
