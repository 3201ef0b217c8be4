-- What a crash leaves at each moment of a call.
use Rattle.std.specs.Prelude.{◌≡◌, ◌⊎◌, ◌+◌, ◌<◌, ◌≤◌, ℕ, List, [], length, take, Option, Some, None}
use Rattle.s38_base.specs.Limits.{body_limit}
use Rattle.s38_redo_log.specs.Store.{RecoversTo}
use Rattle.s38_laws_checkpoint.specs.puts.Ending.{IsClosedTo}
use Rattle.s38_laws_checkpoint.specs.prefix.Bytes.{AreOfBytes}
use Rattle.s38_code.specs.declared.deck.Deck.{Deck}
use Rattle.s38_code.specs.declared.entry.Entry.{Entry}
use Rattle.s38_command.specs.declared.command.Command.{Command}
use Rattle.s38_command.specs.declared.command.Command.TheVariants.{Jobs, Check, Demo, Install, List as Listing}
use Rattle.s38_command.specs.declared.turns.Turns.{Turns}
use Rattle.s38_disk.specs.Disk.{DiskView, IsCrashImageAt, moment_of}
use Rattle.s38_disk.specs.declared.block.Block.{Block}
use Rattle.s38_durable_state.specs.Durable.{Durable, closed as closed_with, durable}
use Rattle.s38_laws_flush.specs.durable.Beginning.{durable_in}
use Rattle.s38_laws_flush.specs.durable.Crashes.{IsKeptPrefix, answered}
use Rattle.s38_pages.specs.Mounts.{layout_of}
use Rattle.s38_restart.specs.Parts.{all_parts}
use Rattle.s38_restart.specs.Restarted.{restarted}
use Rattle.s38_laws_recovery.specs.Restarts.{IsRestartedPrefix, RestartsTo, next_number_after, next_restarted}
use Rattle.s38_rules.specs.step.Legal.{Leads}
use Rattle.s38_rules.specs.state.State.{State}
use Rattle.s38_store_file.specs.Crashes.{DuringCall, FromSynced, GoesOn, IsNoneOrInstalled, IsPartlyCleaned, KeepsRestarting}
use Rattle.s38_store_file.specs.Stores.{Restarts}
use Rattle.s38_top.specs.Decks.{AreStoreMarks, IsRunTo, made_in_order, opened_machine}
use Rattle.s38_top.specs.Runs.{RanTo}
use Rattle.s38_vault.specs.Content.{Content}
use Rattle.s38_rules.specs.step.Histories.{state_after}

-- ---- stores that restart

-- The store of these blocks restarts without refusal, over this content, to what is said; and the number that it gives next is
-- not below this one, so that no number below it is given again.
pub record RestartsAgain (size : ℕ) (g : ℕ → Block) (content : Content) (To : Type 0) (next : ℕ) : Type 0 where
  pub store : Restarts size g (restarted body_limit (all_parts content))
  pub to : To
  pub numbers : next ≤ next_restarted content

-- ---- while a run goes on

-- These are the entries of a run, followed at most by that of the call that failed: all are the one-thread machine's.
pub record IsHistoryWithPendingCall (s : State) (entries planned : List Entry) : Type 0 where
  pub begins : take (length entries) planned ≡ entries
  pub most : length planned ≤ length entries + 1
  pub legal : Leads s [] planned (state_after s planned)

-- The blocks are a store of what is durable after the entries that were answered by a moment, or after one entry more,
-- of which at least the ceiling may be there; and of nothing else but orphan pages, which a restart removes. It
-- restarts to that, and gives no number again that an entry gave that was answered by then. For this the blocks are to
-- be of bytes, as those of a disk are.
pub record RecoversToPrefix (size : ℕ) (d : Durable) (s : State) (entries : List Entry) (marks : List ℕ) (moment : ℕ) (g : ℕ → Block) : Type 0 where
  pub content : Content
  pub stands : RecoversTo (layout_of size) g content
  pub kept : IsKeptPrefix d s entries marks moment content
  pub restarts : AreOfBytes g → RestartsAgain size g content (IsRestartedPrefix d s entries marks moment content) (next_number_after s entries (answered moment marks))

-- Given what was durable after all entries of a run, the blocks are a store of what is durable once the machine has
-- ensured the first objects that the run left, one after another, or all of them. It restarts to that, and gives no
-- number again that the run gave.
pub record RecoversToCheckpointPrefix (size : ℕ) (d : Durable) (e : State) (g : ℕ → Block) : Type 0 where
  pub content : Content
  pub stands : RecoversTo (layout_of size) g content
  pub closed : IsClosedTo e d content
  pub restarts : AreOfBytes g → RestartsAgain size g content (RestartsTo content (closed_with d e closed.gone)) e.held.next

-- from one moment of the disk on, and up to another, each image is so
abbrev pub Between : ℕ → ℕ → DiskView → (ℕ → (ℕ → Block) → Type 0) → Type 0
Between low high new P = (t : ℕ) (g : ℕ → Block) → low < t → t ≤ high → IsCrashImageAt new.past t g → P t g

-- Over the store of the disk a run was made of these entries, with these marks.
pub record MadeRun (turns : Turns) (old new : DiskView) (entries : List Entry) (marks : List ℕ) : Type 0 where
  pub deck : Deck
  pub ran : RanTo turns old deck entries
  pub planned : List Entry
  pub plans : IsHistoryWithPendingCall (opened_machine (Some ran.room) ran.held deck) entries planned
  -- the moments at which the run began, and ended
  pub first : ℕ
  pub last : ℕ
  pub goes : GoesOn old new
  pub began : moment_of old.past ≤ first
  pub marked : AreStoreMarks first last marks entries
  pub ended : last ≤ moment_of new.past
  -- while the store was opened, orphan pages may have been removed, and it restarts to the objects with which the run
  -- began
  pub opening : FromSynced old (λ f. (m : Content) → RecoversTo (layout_of old.size) f m → Between (moment_of old.past) first new (λ t g. IsPartlyCleaned new.size m g))
  pub reopening : FromSynced old (λ f. Between (moment_of old.past) first new (λ t g. Restarts new.size g ran.held))
  -- while the run was made
  pub running : FromSynced old (λ f. (m : Content) → RecoversTo (layout_of old.size) f m
      → Between first last new (λ t g. RecoversToPrefix new.size (durable_in m) (opened_machine (Some ran.room) ran.held deck) planned marks t g))
  -- while what it left was kept
  pub closing : FromSynced old (λ f. (m : Content) → RecoversTo (layout_of old.size) f m
      → Between last (moment_of new.past) new (λ t g. RecoversToCheckpointPrefix new.size (durable (durable_in m) (opened_machine (Some ran.room) ran.held deck) entries) ran.run.state g))

-- A run was made. Unless memory was wanted it is the one that is reported, and with the entry of the call that failed it is
-- such a run as well: that entry is what a process asks next, on one thread the one that the next pick chooses.
pub record KeepsRun (turns : Turns) (old new : DiskView) (wanting : Type 0) (history : List Entry) (marks : List ℕ) : Type 0 where
  pub entries : List Entry
  pub marks_made : List ℕ
  pub made : MadeRun turns old new entries marks_made
  pub reported : (wanting → ⊥) → (history ≡ entries) × (marks ≡ marks_made)
  pub next : (wanting → ⊥) → IsRunTo (Some made.ran.room) made.ran.held (made_in_order turns) made.deck made.planned

-- ---- of a whole call

-- A store keeps what it has, and restarts to the same objects, unless a run is made over it; where a store is made, there is
-- none or the whole.
abbrev pub IsSafe : Option Command → DiskView → DiskView → Type 0 → List Entry → List ℕ → Type 0
IsSafe None old new wanting history marks = KeepsRestarting old new
IsSafe (Some (Jobs turns)) old new wanting history marks = KeepsRestarting old new ⊎ KeepsRun turns old new wanting history marks
IsSafe (Some Check) old new wanting history marks = KeepsRestarting old new
IsSafe (Some (Demo size)) old new wanting history marks = KeepsRestarting old new
IsSafe (Some Install) old new wanting history marks = FromSynced old (λ f. DuringCall old new (IsNoneOrInstalled new.size))
IsSafe (Some Listing) old new wanting history marks = KeepsRestarting old new
