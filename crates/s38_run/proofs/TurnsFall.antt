-- Each turn leaves fewer turns.
use Rattle.std.proofs.Common.{◌≡◌, ◌≢◌, ℕ, ◌<◌, ◌≤◌, ◌==◌, ◌⊎◌, Bool, true, false, not, List, length, inl, inr, refl, sym, ap, subst, arith}
use Rattle.std.proofs.lemmas.Bool.Decides.{nat_tests}
use Rattle.std.specs.Prelude.{Some, slice_get, slice_set}
use Rattle.s38_code.specs.declared.deck.Job.{Job}
use Rattle.s38_code.specs.declared.event.Event.{Event}
use Rattle.s38_code.specs.declared.event.Event.TheVariants.{Start, Act, Finish}
use Rattle.s38_code.specs.declared.made.CreateResult.{CreateResult}
use Rattle.s38_code.specs.declared.reply.Reply.{Reply}
use Rattle.s38_code.specs.declared.reply.Reply.TheVariants.{Done, Signal, MustWait}
use Rattle.s38_rules.specs.state.State.{State}
use Rattle.s38_process.specs.Process.{event_of}
use Rattle.s38_process.specs.AfterReply.{absorbed, is_finish}
use Rattle.s38_run.specs.declared.job_state.JobState.{JobState}
use Rattle.s38_run.specs.declared.outcome.Outcome.{Outcome}
use Rattle.s38_run.specs.declared.outcome.Outcome.TheVariants.{Finished, Waits, Refused, Changed}
use Rattle.s38_run.specs.Running.{left_in_all, left_of, turns_left}
use Rattle.s38_run.specs.Turns.{doing, job_after, outcome_of, ready_after}
use Rattle.s38_run.proofs.ReadyLaws.{filter_fewer}
use Rattle.s38_run.proofs.Running.{fewer_events, fewer_ready, left_set, turn_falls, turn_waits}

waits_or_not : (r : Reply) → (r ≡ MustWait) ⊎ (r ≢ MustWait)
waits_or_not (Done vs) = inr (λ h. cc)
waits_or_not (Signal x) = inr (λ h. cc)
waits_or_not MustWait = inl refl

waits_finish : (e : Event) (r : Reply) → r ≡ MustWait → (is_finish e ≡ true → r ≢ MustWait) → outcome_of e r ≡ Waits
waits_finish Start r w f = ap (outcome_of Start) w
waits_finish (Act depth request) r w f = ap (outcome_of (Act depth request)) w
waits_finish (Finish cause) r w f = absurd (f refl w)

-- who waits is missing among those that are ready
waits_fewer : (t : State) (p : ℕ) (b : Bool) (o : Outcome) (was : List ℕ) (place : ℕ) → o ≡ Waits → slice_get was place ≡ Some p → length (ready_after t p b o was) < length was
waits_fewer t p b Waits was place is at = filter_fewer (λ q. not (p == q)) was place p at (same_not p)
  where
    same_not : (p : ℕ) → not (p == p) ≡ false
    same_not p = let e : (p == p) ≡ true = grind (arith, nat_tests) in rw e refl
waits_fewer t p b Finished was place is at = cc
waits_fewer t p b Refused was place is at = cc
waits_fewer t p b Changed was place is at = cc

pub turns_fall : (one : CreateResult) (jobs : List Job) (all : List JobState) (k : ℕ) (job : Job) (state : JobState) (t : State) (p : ℕ) (b : Bool) (e : Event) (r : Reply) (was : List ℕ) (place : ℕ)
    → slice_get jobs k ≡ Some job → slice_get all k ≡ Some state → event_of (doing one job.budget state) ≡ Some e → (is_finish e ≡ true → r ≢ MustWait) → slice_get was place ≡ Some p
    → length (ready_after t p b (outcome_of e r) was) ≤ length jobs
    → turns_left jobs (slice_set all k (job_after (outcome_of e r) (absorbed (doing one job.budget state) r))) (ready_after t p b (outcome_of e r) was) < turns_left jobs all was
turns_fall one jobs all k job state t p b e r was place job_at state_at asks f at few =
    let new : JobState = job_after (outcome_of e r) (absorbed (doing one job.budget state) r) in
    let set = left_set jobs all k job state new job_at state_at in
    elim (waits_or_not r) as (λ _. turns_left jobs (slice_set all k new) (ready_after t p b (outcome_of e r) was) < turns_left jobs all was) [
      | inl w ↦ fewer_ready (length jobs) (left_in_all jobs (slice_set all k new)) (left_in_all jobs all) (length (ready_after t p b (outcome_of e r) was)) (length was)
          (omega (arith, set, waits_less w))
          (waits_fewer t p b (outcome_of e r) was place (waits_finish e r w f) at)
      | inr n ↦ fewer_events (length jobs) (left_in_all jobs (slice_set all k new)) (left_in_all jobs all) (length (ready_after t p b (outcome_of e r) was)) (length was)
          (omega (arith, set, turn_falls one job state e r asks n))
          few
    ]
  where
    waits_less : r ≡ MustWait → left_of job (job_after (outcome_of e r) (absorbed (doing one job.budget state) r)) ≤ left_of job state
    waits_less w = subst (λ (x : Reply). left_of job (job_after (outcome_of e x) (absorbed (doing one job.budget state) x)) ≤ left_of job state) (sym w) (turn_waits one job state e asks)
