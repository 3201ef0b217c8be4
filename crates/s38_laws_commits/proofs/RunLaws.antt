-- A history is one and then another from where it led.
use Rattle.std.proofs.Common.{◌≡◌, ◌∙◌, ◌++◌, ◌∷◌, List, [], ap, refl, subst, true, ℕ}
use Rattle.s38_code.specs.declared.entry.Entry.{Entry}
use Rattle.s38_commits.specs.Changes.{has_change}
use Rattle.s38_commits.specs.Unit.{CommitUnit}
use Rattle.s38_durable_state.specs.Durable.{Durable, after_reply, durable}
use Rattle.s38_rules.specs.step.Legal.{Leads}
use Rattle.s38_rules.specs.state.State.{State}
use Rattle.s38_rules.specs.step.Step.{step}
use Rattle.s38_laws_commits.proofs.CommittedLaws.{committed_stays, history_sound}
use Rattle.s38_laws_commits.specs.Found.{AreSound, Commits, entry_now, found_entry}
use Rattle.s38_laws_commits.specs.Touched.{LeavesAlone}
use Rattle.s38_rules.specs.step.Histories.{state_after}

first_leads : (s : State) (before es more : List Entry) (end : State) → Leads s before (es ++ more) end → Leads s before es (state_after s es)
first_leads s before [] more end leads = refl
first_leads s before (e ∷ es) more end leads = (leads.0, first_leads (step s e.process e.event).state (before ++ e ∷ []) es more end leads.1)

then_leads : (s : State) (before es more : List Entry) (end : State) → Leads s before (es ++ more) end → Leads (state_after s es) (before ++ es) more end
then_leads s before [] more end leads = subst (λ (b : List Entry). Leads s b more end) (append_none before) leads
  where
    append_none : (xs : List Entry) → xs ≡ xs ++ []
    append_none [] = refl
    append_none (x ∷ xs) = ap (λ (l : List Entry). x ∷ l) (append_none xs)
then_leads s before (e ∷ es) more end leads =
    subst (λ (b : List Entry). Leads (state_after (step s e.process e.event).state es) b more end) (assoc before es)
    (then_leads (step s e.process e.event).state (before ++ e ∷ []) es more end leads.1)
  where
    assoc : (xs ys : List Entry) → (xs ++ e ∷ []) ++ ys ≡ xs ++ e ∷ ys
    assoc [] ys = refl
    assoc (x ∷ xs) ys = ap (λ (l : List Entry). x ∷ l) (assoc xs ys)

durable_then : (d : Durable) (s : State) (es more : List Entry) → durable d s (es ++ more) ≡ durable (durable d s es) (state_after s es) more
durable_then d s [] more = refl
durable_then d s (e ∷ es) more = durable_then (after_reply d s e e.reply) (step s e.process e.event).state es more

pub committed_in_run : (s : State) (d : Durable) (before : List Entry) (e : Entry) (more : List Entry) (end : State) (unit : CommitUnit) (n at : ℕ) → AreSound s d → Leads s [] (before ++ e ∷ more) end
    → Commits (state_after s before) e unit → has_change n at unit.changes ≡ true → LeavesAlone n at (step (state_after s before) e.process e.event).state more
    → found_entry (durable d s (before ++ e ∷ more)) n at ≡ entry_now (state_after s before) n at
committed_in_run s d before e more end unit n at sound leads commits has alone =
    ap (λ (x : Durable). found_entry x n at) (durable_then d s before (e ∷ more))
    ∙ committed_stays (state_after s before) (durable d s before) before e more end unit n at
    (history_sound s d [] before (state_after s before) sound (first_leads s [] before (e ∷ more) end leads)) (then_leads s [] before (e ∷ more) end leads) commits has alone
