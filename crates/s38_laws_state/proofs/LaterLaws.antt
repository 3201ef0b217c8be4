-- Confinement holds from any moment on, since the private rows of each object are in order in every state.
use Rattle.std.proofs.Common.{◌++◌, ◌∙◌, ◌∷◌, ◌≡◌, ◌≢◌, List, [], append_assoc, length, refl, subst, sym, ℕ}
use Rattle.std.proofs.lemmas.Bool.{cond_both}
use Rattle.std.proofs.lemmas.List.{append-nil}
use Rattle.std.proofs.lemmas.List.Elements.{All-head, All-tail}
use Rattle.std.specs.Prelude.{All, Some}
use Rattle.s38_code.specs.declared.entry.Entry.{Entry}
use Rattle.s38_laws_confinement.proofs.StepLaws.{closed_later}
use Rattle.s38_laws_confinement.specs.Confined.{AllWithin, AreRun, IsClosedAfter, NeverUsed, StaysClosed}
use Rattle.s38_laws_objects.proofs.EventLaws.{history_well}
use Rattle.s38_laws_objects.specs.Well.{AreWell, IsWell}
use Rattle.s38_process.specs.Process.{ProcessState}
use Rattle.s38_rules.proofs.Laws.{step_keeps}
use Rattle.s38_rules.specs.state.Headers.{rows_in}
use Rattle.s38_rules.specs.state.Held.{has_number, object_in}
use Rattle.s38_rules.specs.step.Legal.{Leads}
use Rattle.s38_rules.specs.state.PrivateRows.{AreRows}
use Rattle.s38_rules.specs.state.State.{State}
use Rattle.s38_rules.specs.step.Step.{step}
use Rattle.s38_rules.specs.declared.object.Object.{Object}
use Rattle.s38_laws_state.specs.Later.{HaveNoWay, IsConfinedFromAny}
use Rattle.s38_rules.specs.step.Histories.{state_after}

-- a history that is parted: up to there, and from there on
front_leads : (s : State) (done before after : List Entry) (end : State) → Leads s done (before ++ after) end → Leads s done before (state_after s before)
front_leads s done [] after end leads = refl
front_leads s done (e ∷ es) after end leads = (leads.0, front_leads (step s e.process e.event).state (done ++ e ∷ []) es after end leads.1)

rest_leads : (s : State) (done before after : List Entry) (end : State) → Leads s done (before ++ after) end → Leads (state_after s before) (done ++ before) after end
rest_leads s done [] after end leads = subst (λ (l : List Entry). Leads s l after end) (sym (append-nil done)) leads
rest_leads s done (e ∷ es) after end leads =
    subst (λ (l : List Entry). Leads (state_after (step s e.process e.event).state es) l after end) (append_assoc done (e ∷ []) es)
    (rest_leads (step s e.process e.event).state (done ++ e ∷ []) es after end leads.1)

count_behind : (s : State) (before : List Entry) → length (state_after s before).processes ≡ length s.processes
count_behind s [] = refl
count_behind s (e ∷ es) = count_behind (step s e.process e.event).state es ∙ step_keeps s e.process e.event

rows_there : (os : List Object) (n : ℕ) → All IsWell os → AreRows (rows_in (object_in os n))
rows_there [] n all = tt
rows_there (x ∷ os) n all = cond_both (has_number n x) (Some x) (object_in os n) (λ y. AreRows (rows_in y))
    (λ own. (All-head IsWell x os all).rows) (λ other. rows_there os n (All-tail IsWell x os all))

parted : (processes : List ProcessState) (first : State) (before after : List Entry) (end : State) (users : List ℕ) (o r : ℕ) → AreWell first → length processes ≡ length first.processes
    → Leads first [] (before ++ after) end → AreRun processes (before ++ after) → o ≢ 0 → HaveNoWay processes first before users o r → AllWithin users (state_after first before) after
    → NeverUsed (state_after first before) after o r × StaysClosed processes (before ++ after) end users o r
parted processes first before after end users o r well count leads run some none within =
    let there = (history_well first [] before (state_after first before) well (front_leads first [] before after end leads)).1 in
    let closed : IsClosedAfter processes before (state_after first before) users o r = record {
      count = count ∙ sym (count_behind first before);
      number = some;
      objects = none.objects;
      rows = rows_there (state_after first before).held.objects o there.objects;
      variables = none.variables;
    } in
    closed_later processes before (state_after first before) after end users o r closed (rest_leads first [] before after end leads) within run

pub confined_later : (processes : List ProcessState) (first : State) (history : List Entry) (end : State) → AreWell first → length processes ≡ length first.processes → Leads first [] history end → AreRun processes history
    → IsConfinedFromAny processes first history end
confined_later processes first history end well count leads run before after users o r is some none within =
    let whole = parted processes first before after end users o r well count (subst (λ (l : List Entry). Leads first [] l end) is leads) (subst (AreRun processes) is run) some none within in
    (whole.0, subst (λ (l : List Entry). StaysClosed processes l end users o r) (sym is) whole.1)
