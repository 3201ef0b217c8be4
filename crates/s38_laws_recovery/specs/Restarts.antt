-- What a restart makes of a content that was left.
use Rattle.std.specs.Prelude.{◌≡◌, ◌⊎◌, ◌+◌, ℕ, List, None, take}
use Rattle.s38_base.specs.Limits.{body_limit}
use Rattle.s38_code.specs.declared.entry.Entry.{Entry}
use Rattle.s38_laws_commits.specs.Found.{restart_of}
use Rattle.s38_durable_state.specs.Durable.{Durable, durable}
use Rattle.s38_restart.specs.catalog.Stores.{ceiling_of, first_fault, objects_stored_in}
use Rattle.s38_laws_flush.specs.durable.Crashes.{answered}
use Rattle.s38_restart.specs.Parts.{all_parts}
use Rattle.s38_restart.specs.Restarted.{restarted}
use Rattle.s38_rules.specs.state.State.{State}
use Rattle.s38_flush.specs.Leftovers.{RepresentsUpToOrphans}
use Rattle.s38_flush.specs.Stepping.{raised}
use Rattle.s38_vault.specs.Content.{Content}
use Rattle.s38_rules.specs.step.Histories.{state_after}

-- A content has no fault, and a restart makes of it what is durable: it reads its ceiling and the image of each object, and
-- has the objects that follow.
pub record RestartsTo (m : Content) (d : Durable) : Type 0 where
  pub stands : RepresentsUpToOrphans m d
  pub faultless : first_fault body_limit (all_parts m) ≡ None
  pub objects : objects_stored_in body_limit (all_parts m) ≡ d.objects
  pub ceiling : ceiling_of (all_parts m) ≡ d.ceiling
  pub restarted : restarted body_limit (all_parts m) ≡ restart_of d

-- it restarts to what was durable, to that with the ceiling of the state to which a step leads, or to what is durable
-- after the step
abbrev pub RestartsBetween : Content → Durable → State → Durable → Type 0
RestartsBetween m old s new = RestartsTo m old ⊎ (RestartsTo m (raised old s) ⊎ RestartsTo m new)

-- of a run from this state, with these entries: to what is durable after the first so many, to that with the ceiling
-- after one entry more, or to what is durable after one entry more
abbrev pub IsRestartedAfter : Durable → State → List Entry → ℕ → Content → Type 0
IsRestartedAfter d s entries count m =
    RestartsBetween m (durable d s (take count entries)) (state_after s (take (count + 1) entries)) (durable d s (take (count + 1) entries))

-- at a moment these are the entries that were answered
abbrev pub IsRestartedPrefix : Durable → State → List Entry → List ℕ → ℕ → Content → Type 0
IsRestartedPrefix d s entries marks moment m = IsRestartedAfter d s entries (answered moment marks) m

-- the number that a run gives next, after the first so many entries
abbrev pub next_number_after : State → List Entry → ℕ → ℕ
next_number_after s entries count = (state_after s (take count entries)).held.next

-- the number that a machine gives next that restarts over a content
abbrev pub next_restarted : Content → ℕ
next_restarted m = (restarted body_limit (all_parts m)).next
