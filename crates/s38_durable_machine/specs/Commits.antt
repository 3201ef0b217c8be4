-- How much the COMMIT of a unit has a vault put.
use Rattle.std.specs.Prelude.{◌≡◌, ◌+◌, ◌/◌, ◌≤◌, ℕ, List, Some, length}
use Rattle.s38_base.specs.Limits.{page_bytes}
use Rattle.s38_base.specs.declared.page.Change.{Change}
use Rattle.s38_code.specs.History.{entry_after}
use Rattle.s38_code.specs.declared.entry.Entry.{Entry}
use Rattle.s38_code.specs.declared.event.Event.{Event}
use Rattle.s38_commits.specs.Unit.{CommitUnit}
use Rattle.s38_laws_commits.specs.Found.{Commits}
use Rattle.s38_durable_state.specs.Durable.{Durable}
use Rattle.s38_rules.specs.step.Effect.{effect_of}
use Rattle.s38_rules.specs.state.Journaling.{journal_for_block}
use Rattle.s38_rules.specs.step.Legal.{Run}
use Rattle.s38_rules.specs.state.PartsAt.{journal_at}
use Rattle.s38_rules.specs.state.State.{State}
use Rattle.s38_rules.specs.step.Step.{step}
use Rattle.s38_vault.specs.Content.{Content, changed}
use Rattle.s38_durable_machine.specs.Seen.{StoredView, run_of}
use Rattle.s38_durable_machine.specs.Sound.{IsOf}

-- a vault holds what was held before, with at most so many parts put into it
pub record PutsAtMost {V : Type 0} (holds : V → Content → Type 0) (most : ℕ) (before : Content) (v : V) : Type 0 where
  pub changes : List Change
  pub few : length changes ≤ most
  pub held : holds v (changed before changes)

-- the entry that a run makes of an event
abbrev pub next_entry : Run → ℕ → Event → Entry
next_entry m p e = entry_after m.history p e (step m.state p e).reply

-- as many parts as the pages that the unforced bytes of a journal space fill, with the entry of the event, and three
abbrev pub commit_parts : State → ℕ → Event → ℕ → ℕ
commit_parts s p e journal = (journal_at (effect_of s p e).state.held journal).unforced / page_bytes + 3

-- where the vault held what was durable as the run began, a COMMIT that takes effect, of a unit, puts no more than that; the
-- journal space is that of the unit's commit block
pub record CommitsFew {V : Type 0} (holds : V → Content → Type 0) (old new : StoredView V) (p : ℕ) (e : Event) : Type 0 where
  pub few : (c m : Content) (d : Durable) (unit : CommitUnit) (journal : ℕ) → holds old.first c → IsOf c d old.machine.origin → holds old.vault m
      → (commits : Commits (run_of old).state (next_entry (run_of old) p e) unit) → journal_for_block (run_of old).state.held commits.block ≡ Some journal
      → PutsAtMost holds (commit_parts (run_of old).state p e journal) m new.vault
