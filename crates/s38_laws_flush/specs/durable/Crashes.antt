-- What a crash leaves of a run.
use Rattle.std.specs.Prelude.{◌⊎◌, ◌+◌, ℕ, List, [], ◌∷◌, ◌++◌, Option, None, Some, filter, length, nat_le, take}
use Rattle.s38_code.specs.History.{entry_after}
use Rattle.s38_code.specs.declared.entry.Entry.{Entry}
use Rattle.s38_code.specs.declared.event.Event.{Event}
use Rattle.s38_durable_state.specs.Durable.{Durable, durable}
use Rattle.s38_rules.specs.state.State.{State}
use Rattle.s38_rules.specs.step.Step.{step}
use Rattle.s38_flush.specs.Leftovers.{RepresentsUpToOrphans}
use Rattle.s38_flush.specs.Stepping.{raised}
use Rattle.s38_vault.specs.Content.{Content}
use Rattle.s38_rules.specs.step.Histories.{state_after}

-- ---- the entries of a run

-- how many entries were answered at a moment: those whose marks are no later
abbrev pub answered : ℕ → List ℕ → ℕ
answered moment marks = length (filter (λ mark. nat_le mark moment) marks)

-- ---- what is left

-- up to orphan pages, a content represents what was durable, that with the ceiling of the state to which a step leads,
-- or what is durable after the step
abbrev pub RepresentsBetween : Content → Durable → State → Durable → Type 0
RepresentsBetween m old s new = RepresentsUpToOrphans m old ⊎ (RepresentsUpToOrphans m (raised old s) ⊎ RepresentsUpToOrphans m new)

-- a content that a run from this state leaves, with these entries; up to orphan pages it represents what is durable
-- after the first so many entries, that with the ceiling after one entry more, or what is durable after one entry more
abbrev pub RepresentsPrefix : Durable → State → List Entry → ℕ → Content → Type 0
RepresentsPrefix d s entries count m =
    RepresentsBetween m (durable d s (take count entries)) (state_after s (take (count + 1) entries)) (durable d s (take (count + 1) entries))

-- at a moment these are the entries that were answered
abbrev pub IsKeptPrefix : Durable → State → List Entry → List ℕ → ℕ → Content → Type 0
IsKeptPrefix d s entries marks moment m = RepresentsPrefix d s entries (answered moment marks) m
