-- In every state of a run programs and profiles have their form.
use Rattle.std.proofs.Common.{Bool, List, [], false, refl, subst, sym, true, ℕ, ◌++◌, ◌∙◌, ◌∷◌, ◌≡◌}
use Rattle.s38_code.specs.declared.entry.Entry.{Entry}
use Rattle.s38_code.specs.declared.event.Event.{Event}
use Rattle.s38_laws_images.proofs.form.RowLaws.{step_hold}
use Rattle.s38_laws_images.specs.form.Forms.{AllHaveForms, HasForms}
use Rattle.s38_laws_processes.proofs.owners.StateLaws.{effect_templates}
use Rattle.s38_laws_images.specs.readable.Templates.{AreMade}
use Rattle.s38_rules.proofs.StoreLaws.{stored_beside}
use Rattle.s38_rules.specs.step.Effect.{effect_of}
use Rattle.s38_rules.specs.step.Legal.{Leads}
use Rattle.s38_rules.specs.state.State.{State, waits}
use Rattle.s38_rules.specs.step.Step.{awake_verdict, by_verdict, by_waiting, step}
use Rattle.s38_rules.specs.declared.verdict.Verdict.TheVariants.{Permit, Refuse, Wait}
use Rattle.s38_rules.specs.declared.verdict.Verdict.{Verdict}

verdict_templates : (s : State) (p : ℕ) (e : Event) (v : Verdict) → (by_verdict s p e v).state.templates ≡ s.templates
verdict_templates s p e Permit = (stored_beside s p e (effect_of s p e).state).templates ∙ effect_templates s p e
verdict_templates s p e Wait = refl
verdict_templates s p e (Refuse x) = refl

step_templates : (s : State) (p : ℕ) (e : Event) → (step s p e).state.templates ≡ s.templates
unfolding step
step_templates s p e = by (waits s p)
  where
    by : (b : Bool) → (by_waiting b s p e).state.templates ≡ s.templates
    by true = refl
    by false = verdict_templates s p e (awake_verdict s p e)

pub step_forms : (s : State) (p : ℕ) (e : Event) → HasForms s → HasForms (step s p e).state
step_forms s p e has = record { objects = step_hold s p e has.templates has.objects; templates = subst AreMade (sym (step_templates s p e)) has.templates }

pub history_forms : (s : State) (before history : List Entry) (end : State) → HasForms s → Leads s before history end → AllHaveForms s history × HasForms end
history_forms s before [] end has leads = (has, subst HasForms leads has)
history_forms s before (e ∷ es) end has leads =
    let rest = history_forms (step s e.process e.event).state (before ++ e ∷ []) es end (step_forms s e.process e.event has) leads.1 in
    ((has, rest.0), rest.1)
