-- Machines over the store of a disk that have begun the jobs of a deck, and what they came to.
use Rattle.std.specs.Prelude.{◌≡◌, ◌≤◌, ℕ, ◌+◌, IsTrue, List, Some, length, slice_get}
use Rattle.s38_code.specs.declared.deck.Deck.{Deck}
use Rattle.s38_code.specs.declared.deck.Job.{Job}
use Rattle.s38_code.specs.declared.entry.Entry.{Entry}
use Rattle.s38_code.specs.declared.made.CreateResult.{CreateResult}
use Rattle.s38_code.specs.History.{entries_of}
use Rattle.s38_command.specs.declared.turns.Turns.{Turns}
use Rattle.s38_pages.specs.Vaults.{PageStore, page_holds, page_leaves, page_view}
use Rattle.s38_pages.specs.Watched.{WatchedStore, watched_view}
use Rattle.s38_process.specs.AfterReply.{ends_by_finish}
use Rattle.s38_laws_images.specs.openings.Opening.{IsOpening}
use Rattle.s38_rules.specs.step.Legal.{begun}
use Rattle.s38_run.specs.declared.run_end.RunEnd.{RunEnd}
use Rattle.s38_run.specs.declared.run_end.RunEnd.TheVariants.{Complete, NoMemory, Stopped as Halted}
use Rattle.s38_durable_machine.specs.Seen.{StoredView, run_of}
use Rattle.s38_durable_machine.specs.Sound.{IsSoundOver}
use Rattle.s38_durable_machine.specs.declared.ending.Ending.{Ending}
use Rattle.s38_durable_machine.specs.declared.ending.Ending.TheVariants.{Going, Stopped, Wanting}
use Rattle.s38_top.specs.Decks.{IsFrontOfJob, made_for, made_in_order, opened_machine}
use Rattle.s38_vault.specs.Content.{Content}

-- ---- a page vault that is watched, as a vault

abbrev pub watched_holds : WatchedStore → Content → Type 0
watched_holds w m = page_holds w.now m

abbrev pub watched_leaves : WatchedStore → ℕ → Content → Type 0
watched_leaves w t m = page_leaves w.now t m

-- a page vault as it is when its watch begins
abbrev pub watch_of : PageStore → WatchedStore
watch_of v = record { first = v; now = v }

abbrev pub IsSoundOn : StoredView WatchedStore → Type 0
IsSoundOn x = IsSoundOver watched_view watched_holds watched_leaves x

-- ---- the beginning

-- the vault as it was when the machine began
abbrev pub vault_of : StoredView WatchedStore → PageStore
vault_of x = x.first.now

-- the machine has begun the jobs of the deck over a vault that did not fail yet, with objects with which a run may begin,
-- and with what creation makes of the template of each job
pub record IsBegunOver (deck : Deck) (made : List CreateResult) (x : StoredView WatchedStore) : Type 0 where
  pub machine : x.machine ≡ begun (page_view (vault_of x)).moment (opened_machine x.machine.origin.room x.machine.origin.held deck)
  pub vault : x.vault ≡ x.first
  pub watch : x.first ≡ watch_of (vault_of x)
  pub going : x.ending ≡ Going
  pub sound : IsSoundOn x
  pub opening : IsOpening x.machine.origin.held
  pub faultless : (page_view (vault_of x)).faults ≡ (vault_of x).start
  pub few : length deck.jobs ≤ 256
  pub count : length made ≡ length deck.jobs
  pub each : (k : ℕ) (job : Job) (one : CreateResult) → slice_get deck.jobs k ≡ Some job → slice_get made k ≡ Some one → made_for deck job ≡ Some one

-- ---- what came of it

-- how a run on threads ended: while its machine goes on, and not each job came to its end, memory was wanted
abbrev pub end_over : Ending → RunEnd → RunEnd
end_over Going Complete = Complete
end_over Going Halted = NoMemory
end_over Going NoMemory = NoMemory
end_over Stopped end = Halted
end_over Wanting end = NoMemory

-- the entries of each job are by its program, and whole where the run is complete
pub record WentOver (turns : Turns) (deck : Deck) (x : StoredView WatchedStore) (end : RunEnd) : Type 0 where
  pub sound : IsSoundOn x
  pub watch : x.first ≡ watch_of (vault_of x)
  pub origin : x.machine.origin ≡ opened_machine x.machine.origin.room x.machine.origin.held deck
  pub opening : IsOpening x.machine.origin.held
  pub faultless : (page_view (vault_of x)).faults ≡ (vault_of x).start
  pub order : made_in_order turns x.machine.origin (run_of x).history
  pub each : (k : ℕ) (job : Job) → slice_get deck.jobs k ≡ Some job → IsFrontOfJob deck job (entries_of (k + 1) (run_of x).history)
  pub going : end ≡ Complete → x.ending ≡ Going
  pub whole : end ≡ Complete → (k : ℕ) (job : Job) → slice_get deck.jobs k ≡ Some job → IsTrue (ends_by_finish (entries_of (k + 1) (run_of x).history))
  pub stopped : end ≡ Halted → x.ending ≡ Stopped
  -- where it has stopped, the entries with that of the call that failed are of such a run as well
  pub order_on : end ≡ Halted → made_in_order turns x.machine.origin x.machine.history
  pub each_on : end ≡ Halted → (k : ℕ) (job : Job) → slice_get deck.jobs k ≡ Some job → IsFrontOfJob deck job (entries_of (k + 1) x.machine.history)
