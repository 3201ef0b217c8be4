-- Runs over the store of a disk, and what they leave on it.
use Rattle.std.specs.Prelude.{◌≡◌, ℕ, ◌+◌, List, Option, Some}
use Rattle.s38_base.specs.Faults.{Rose}
use Rattle.s38_redo_log.specs.Store.{RecoversTo}
use Rattle.s38_checkpoint.specs.Closing.{closing}
use Rattle.s38_code.specs.declared.deck.Deck.{Deck}
use Rattle.s38_code.specs.declared.entry.Entry.{Entry}
use Rattle.s38_command.specs.declared.turns.Turns.{Turns}
use Rattle.s38_disk.specs.Blocks.{DiskState as Blocks}
use Rattle.s38_disk.specs.Disk.{DiskView, IsAt}
use Rattle.s38_disk.specs.declared.block.Block.{Block}
use Rattle.s38_durable_state.specs.Durable.{Durable, durable}
use Rattle.s38_durable_state.specs.Represents.{Represents as IsOfDurable}
use Rattle.s38_durable_state.specs.Following.{Counts}
use Rattle.s38_laws_flush.specs.durable.Beginning.{durable_in}
use Rattle.s38_laws_images.specs.openings.Opening.{IsOpening}
use Rattle.s38_pages.specs.Index.{home_count}
use Rattle.s38_pages.specs.Mounts.{layout_of}
use Rattle.s38_pages.specs.Vaults.{PageStore, page_holds}
use Rattle.s38_rules.specs.state.Held.{Held}
use Rattle.s38_rules.specs.store.Room.{Room}
use Rattle.s38_rules.specs.state.State.{State}
use Rattle.s38_durable_machine.specs.Sound.{IsOf}
use Rattle.s38_store_file.specs.Stores.{AllFit, BlocksBeforeAndAfter, IsFullOf, Keeps, Restarts}
use Rattle.s38_top.specs.Decks.{IsRunOf, IsRunTo, made_in_order}
use Rattle.s38_top.specs.declared.outcome.RunEnd.{RunEnd}
use Rattle.s38_top.specs.declared.outcome.RunEnd.TheVariants as ends
use Rattle.s38_vault.specs.Content.{Content}

-- what is kept of a machine in this state: each object, with every change that is not committed taken back, and the ceiling
abbrev pub all_durable_of : State → Durable
all_durable_of e = closing e.units e.held

-- ---- with what a run begins

-- of a store it is the room: as many parts as it has beside that of the ceiling, and the extent of each object that it keeps
pub record HasRoom (size : ℕ) (f : ℕ → Block) (room : Room) : Type 0 where
  pub content : Content
  pub stands : RecoversTo (layout_of size) f content
  pub parts : room.parts + 1 ≡ home_count (layout_of size)
  pub counts : Counts (Some room) (durable_in content)

-- with these objects and this room a run over the store of a disk begins
pub record BeginsWith (disk : DiskView) (held : Held) (room : Room) : Type 0 where
  pub opening : IsOpening held
  pub restarts : (s : Blocks) → IsAt disk.past s → Restarts disk.size s.now held
  pub has : (s : Blocks) → IsAt disk.past s → HasRoom disk.size s.now room

-- ---- runs

-- the history is that of the whole runs of the jobs of a deck, in these turns, over the store of the disk
pub record RanOver (turns : Turns) (disk : DiskView) (deck : Deck) (history : List Entry) : Type 0 where
  pub held : Held
  pub room : Room
  pub begins : BeginsWith disk held room
  pub run : IsRunOf (Some room) held (made_in_order turns) deck history

-- the same of a run that was not made to its end
pub record RanTo (turns : Turns) (disk : DiskView) (deck : Deck) (history : List Entry) : Type 0 where
  pub held : Held
  pub room : Room
  pub begins : BeginsWith disk held room
  pub run : IsRunTo (Some room) held (made_in_order turns) deck history

-- ---- what is left

-- given what was durable after the run, each object that it left fitted in its turn, and the blocks are a store of all
-- of it
pub record AllKeptAfter (size : ℕ) (d : Durable) (e : State) (g : ℕ → Block) : Type 0 where
  pub begun : Content
  pub stands : IsOfDurable begun d
  pub fits : AllFit size begun (all_durable_of e) e.held
  pub keeps : Keeps size g (all_durable_of e)

-- the same given what was on a disk before, by what is durable after the run
pub record AllKeptFrom (old : DiskView) (behind : Content → Durable) (size : ℕ) (e : State) (f g : ℕ → Block) : Type 0 where
  pub content : Content
  pub stands : RecoversTo (layout_of old.size) f content
  pub kept : AllKeptAfter size (behind content) e g

-- given what was durable after the run, the blocks are a store of what a checkpoint reaches after the first objects
-- that the run left, ensured one after another, each of which fitted in its turn, and the next one needs more new parts
-- than are free
pub record IsFullAfter (size : ℕ) (d : Durable) (e : State) (g : ℕ → Block) (needed free : ℕ) : Type 0 where
  pub begun : Content
  pub stands : IsOfDurable begun d
  pub full : IsFullOf size begun (all_durable_of e) e.held g needed free

-- the same given what was on a disk before, by what is durable after the run
pub record IsFullFrom (old : DiskView) (behind : Content → Durable) (size : ℕ) (e : State) (f g : ℕ → Block) (needed free : ℕ) : Type 0 where
  pub content : Content
  pub stands : RecoversTo (layout_of old.size) f content
  pub full : IsFullAfter size (behind content) e g needed free

-- what a machine in this state leaves on the disk, where this is durable after the run: all of it, since each object
-- fits; or the disk failed; or the first objects alone, since the next one does not fit
abbrev pub EndsWith : DiskView → DiskView → (Content → Durable) → State → RunEnd → Type 0
EndsWith old new behind e ends.Kept = BlocksBeforeAndAfter old new (λ f g. AllKeptFrom old behind new.size e f g)
EndsWith old new behind e ends.Failed = Rose old.faults new.faults
EndsWith old new behind e (ends.Full needed free) = BlocksBeforeAndAfter old new (λ f g. IsFullFrom old behind new.size e f g needed free)
EndsWith old new behind e ends.Stopped = Rose old.faults new.faults

-- the same by what a vault held
abbrev pub LeavesBy : PageStore → DiskView → State → RunEnd → Type 0
LeavesBy v new e ends.Kept =
    (m : Content) → page_holds v m → (t : Blocks) → IsAt new.past t → AllFit new.size m (all_durable_of e) e.held × Keeps new.size t.now (all_durable_of e)
LeavesBy v new e ends.Failed = Rose v.start new.faults
LeavesBy v new e (ends.Full needed free) =
    (m : Content) → page_holds v m → (t : Blocks) → IsAt new.past t → IsFullOf new.size m (all_durable_of e) e.held t.now needed free
LeavesBy v new e ends.Stopped = Rose v.start new.faults

-- the same where the run began over a vault in a state, and has these entries
abbrev pub LeavesAfter : PageStore → State → DiskView → List Entry → State → RunEnd → Type 0
LeavesAfter v s new es e ends.Kept =
    (m : Content) (d : Durable) → page_holds v m → IsOf m d s → (t : Blocks) → IsAt new.past t → AllKeptAfter new.size (durable d s es) e t.now
LeavesAfter v s new es e ends.Failed = Rose v.start new.faults
LeavesAfter v s new es e (ends.Full needed free) =
    (m : Content) (d : Durable) → page_holds v m → IsOf m d s → (t : Blocks) → IsAt new.past t → IsFullAfter new.size (durable d s es) e t.now needed free
LeavesAfter v s new es e ends.Stopped = Rose v.start new.faults
