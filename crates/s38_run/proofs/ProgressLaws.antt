-- No process is left alone with those that wait, and who waits is silent.
use Rattle.std.proofs.Common.{◌≡◌, ℕ, ◌+◌, ◌==◌, ◌&&◌, not, Bool, true, false, List, [], ◌∷◌, ◌++◌, length, refl, sym, ◌∙◌, ap, subst, arith}
use Rattle.std.proofs.lemmas.Bool.Decides.{nat_tests}
use Rattle.std.proofs.lemmas.List.Elements.{filter_agree}
use Rattle.std.specs.List.{range_with_len}
use Rattle.std.specs.Prelude.{Option}
use Rattle.s38_code.specs.declared.deck.Job.{Job}
use Rattle.s38_code.specs.declared.entry.Entry.{Entry}
use Rattle.s38_code.specs.declared.event.Event.{Event}
use Rattle.s38_code.specs.declared.made.CheckedTemplate.{CheckedTemplate}
use Rattle.s38_code.specs.declared.reply.Reply.{Reply}
use Rattle.s38_machine.specs.Stored.{stored_state_of}
use Rattle.s38_rules.specs.store.Room.{Room}
use Rattle.s38_rules.specs.declared.verdict.Verdict.{Verdict}
use Rattle.s38_rules.specs.declared.verdict.Verdict.TheVariants.{Permit, Refuse, Wait}
use Rattle.s38_rules.specs.state.Held.{Held}
use Rattle.s38_rules.specs.step.Legal.{Leads}
use Rattle.s38_rules.specs.state.State.{State, ready, ready_list, waits}
use Rattle.s38_rules.specs.step.Step.{awake_verdict, by_verdict, by_waiting, step}
use Rattle.s38_run.specs.Progress.{AreAwake, IsGoing, waiting_after}
use Rattle.s38_run.proofs.JobLaws.{all_ended}
use Rattle.s38_run.proofs.ReadyLaws.{OtherReady, none_listed, waiting_ready, with_waiting}
use Rattle.s38_run.proofs.WaitLaws.{waits_beside}
use Rattle.s38_rules.specs.step.Histories.{Throughout}

-- ---- one is ready

-- where nobody waits, one of the least stage is ready
going_awake : (s : State) → s.waiting ≡ [] → IsGoing s
going_awake s awake none = all_ended s awake (λ k lt. none_listed s (k + 1) none (record { first = omega arith; last = omega (arith, lt) }))

two : true ≡ false → ⊥
two h = cc

-- another that was ready is ready still
other_stays : (s : State) (p : ℕ) → OtherReady s p → ready_list (with_waiting s p) ≡ [] → ⊥
other_stays s p other none =
    let away : (p == other.number) ≡ false = grind (arith, nat_tests, other.other) in
    let still : ready (with_waiting s p) other.number ≡ true = waiting_ready s p other.number ∙ ap (λ b. b && not (p == other.number)) other.ready ∙ ap not away in
    two (sym still ∙ none_listed (with_waiting s p) other.number none (record { first = other.is.first; last = other.is.last }))

passes : (here same : Bool) → (same ≡ true → here ≡ false) → (here && not same) ≡ here
passes true true h = absurd (two (h refl))
passes true false h = refl
passes false same h = refl

-- where one that was not ready waits, the others are ready as before
others_stay : (s : State) (p q : ℕ) → ready s p ≡ false → ready (with_waiting s p) q ≡ ready s q
others_stay s p q away = waiting_ready s p q ∙ passes (ready s q) (p == q) (λ same. let is : p ≡ q = grind (arith, nat_tests, same) in subst (λ (r : ℕ). ready s r ≡ false) is away)

wait_going : (s : State) (p : ℕ) (e : Event) (b : Bool) → ready s p ≡ b → IsGoing s → awake_verdict s p e ≡ Wait → IsGoing (with_waiting s p)
wait_going s p e true here going is none = absurd (other_stays s p (waits_beside s p e is here) none)
wait_going s p e false here going is none =
    let same : ready_list (with_waiting s p) ≡ ready_list s =
    filter_agree (ready (with_waiting s p)) (ready s) (λ q. others_stay s p q here) (range_with_len 1 (length s.processes)) in
    going (sym same ∙ none)

verdict_going : (s : State) (p : ℕ) (e : Event) (v : Verdict) → IsGoing s → awake_verdict s p e ≡ v → IsGoing (by_verdict s p e v).state
verdict_going s p e Permit going is = going_awake (by_verdict s p e Permit).state refl
verdict_going s p e Wait going is = wait_going s p e (ready s p) refl going is
verdict_going s p e (Refuse x) going is = going

pub step_going : (s : State) (p : ℕ) (e : Event) → IsGoing s → IsGoing (step s p e).state
unfolding step
step_going s p e going = by (waits s p)
  where
    by : (b : Bool) → IsGoing (by_waiting b s p e).state
    by true = going
    by false = verdict_going s p e (awake_verdict s p e) going refl

pub history_going : (s : State) (history : List Entry) → IsGoing s → Throughout IsGoing s history
history_going s [] going = going
history_going s (e ∷ es) going = (going, history_going (step s e.process e.event).state es (step_going s e.process e.event going))

pub begins_going : (room : Option Room) (held : Held) (templates : List CheckedTemplate) (jobs : List Job) → IsGoing (stored_state_of room held templates jobs)
begins_going room held templates jobs = going_awake (stored_state_of room held templates jobs) refl

-- ---- who waits is silent

entered_awake : (b : Bool) (s : State) (p : ℕ) (e : Event) → (by_waiting b s p e).enters ≡ true → b ≡ false
entered_awake true s p e h = cc
entered_awake false s p e h = refl

verdict_waiting : (s : State) (p : ℕ) (e : Event) (v : Verdict) → (by_verdict s p e v).state.waiting ≡ waiting_after (by_verdict s p e v).reply p s.waiting
verdict_waiting s p e Permit = refl
verdict_waiting s p e Wait = refl
verdict_waiting s p e (Refuse x) = refl

by_waiting_behind : (b : Bool) (s : State) (p : ℕ) (e : Event) → b ≡ false → (by_waiting b s p e).state.waiting ≡ waiting_after (by_waiting b s p e).reply p s.waiting
by_waiting_behind true s p e h = cc
by_waiting_behind false s p e h = verdict_waiting s p e (awake_verdict s p e)

step_awake : (s : State) (p : ℕ) (e : Event) → (step s p e).enters ≡ true → waits s p ≡ false
unfolding step
step_awake s p e h = entered_awake (waits s p) s p e h

step_waiting : (s : State) (p : ℕ) (e : Event) → (step s p e).enters ≡ true → (step s p e).state.waiting ≡ waiting_after (step s p e).reply p s.waiting
unfolding step
step_waiting s p e h = by_waiting_behind (waits s p) s p e (entered_awake (waits s p) s p e h)

pub history_awake : (s : State) (before history : List Entry) (end : State) → Leads s before history end → AreAwake s.waiting history
history_awake s before [] end leads = tt
history_awake s before (e ∷ es) end leads =
    let now = step_waiting s e.process e.event leads.0.entered ∙ ap (λ (r : Reply). waiting_after r e.process s.waiting) leads.0.reply in (
      step_awake s e.process e.event leads.0.entered,
      subst (λ (ws : List ℕ). AreAwake ws es) now (history_awake (step s e.process e.event).state (before ++ e ∷ []) es end leads.1),
    )
