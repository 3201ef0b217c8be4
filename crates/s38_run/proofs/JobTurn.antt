-- The entries of a job whose turn it was are still by its program.
use Rattle.std.proofs.Common.{◌≡◌, ◌≢◌, ℕ, ◌+◌, Bool, true, false, List, [], ◌∷◌, ◌++◌, inl, inr, refl, sym, ◌∙◌, ap}
use Rattle.std.specs.Prelude.{MatchBool, Some}
use Rattle.s38_code.specs.declared.entry.Entry.{Entry}
use Rattle.s38_code.specs.declared.event.Event.{Event}
use Rattle.s38_code.specs.declared.event.Event.TheVariants.{Start, Act, Finish}
use Rattle.s38_code.specs.declared.made.CreateResult.{CreateResult}
use Rattle.s38_code.specs.declared.reply.Reply.{Reply}
use Rattle.s38_code.specs.declared.reply.Reply.TheVariants.{Done, Signal, MustWait}
use Rattle.s38_process.specs.declared.status.Status.TheVariants.{Ended}
use Rattle.s38_process.specs.Process.{ProcessState, event_of, fresh}
use Rattle.s38_process.specs.AfterReply.{absorbed, ends_by_finish, is_finish, process_after}
use Rattle.s38_run.specs.declared.job_state.JobState.{JobState}
use Rattle.s38_run.specs.Running.{AskedSoFar}
use Rattle.s38_run.specs.Turns.{doing, job_after, outcome_of}
use Rattle.s38_run.proofs.Asking.{ends_asking, ends_more, more_after, ran_more}
use Rattle.s38_run.proofs.ReadyAfterTurn.{true_or_false}

is_true : (b : Bool) (A B : Type 0) → b ≡ true → A → MatchBool b A B
is_true true A B e h = h
is_true false A B e h = cc

is_false : (b : Bool) (A B : Type 0) → b ≡ false → B → MatchBool b A B
is_false true A B e h = cc
is_false false A B e h = h

pub when_true : (b : Bool) (A B : Type 0) → b ≡ true → MatchBool b A B → A
when_true true A B e h = h
when_true false A B e h = cc

pub when_false : (b : Bool) (A B : Type 0) → b ≡ false → MatchBool b A B → B
when_false true A B e h = cc
when_false false A B e h = h

-- a process that goes on is kept
kept_process : (one : CreateResult) (budget : ℕ) (e : Event) (r : Reply) (d : ProcessState) → is_finish e ≡ false → doing one budget (job_after (outcome_of e r) d) ≡ d
kept_process one budget Start (Done vs) d f = refl
kept_process one budget Start (Signal x) d f = refl
kept_process one budget Start MustWait d f = refl
kept_process one budget (Act depth request) (Done vs) d f = refl
kept_process one budget (Act depth request) (Signal x) d f = refl
kept_process one budget (Act depth request) MustWait d f = refl
kept_process one budget (Finish cause) r d f = cc

-- its entries go on with this one
pub stands_on : (one : CreateResult) (budget : ℕ) (state : JobState) (was is : Bool) (es : List Entry) (entry : Entry) → AskedSoFar one budget was es state → was ≡ false
    → event_of (doing one budget state) ≡ Some entry.event → (is_finish entry.event ≡ true → is ≡ true) → (is_finish entry.event ≡ false → is ≡ false)
    → AskedSoFar one budget is (es ++ entry ∷ []) (job_after (outcome_of entry.event entry.reply) (absorbed (doing one budget state) entry.reply))
stands_on one budget state was is es entry stands still asks over going = record {
  by_program = ran_more (fresh one budget) es entry stands.by_program (ap event_of here ∙ asks);
  is = elim (true_or_false (is_finish entry.event)) as (λ _. MatchBool is (ends_by_finish (es ++ entry ∷ []) ≡ true)
      ((process_after (fresh one budget) (es ++ entry ∷ []) ≡ doing one budget next) × ((doing one budget next).status ≢ Ended))) [
        | inl f ↦ is_true is _ _ (over f) (ends_more es entry ∙ f)
        | inr f ↦ is_false is _ _ (going f) (
          more_after (fresh one budget) es entry ∙ ap (λ x. absorbed x entry.reply) here ∙ sym (kept f),
          λ g. no_both (sym f ∙ ends_asking (doing one budget state) entry.event entry.reply asks (sym (ap (λ (x : ProcessState). x.status) (kept f)) ∙ g)),
        )
      ];
}
  where
    here : process_after (fresh one budget) es ≡ doing one budget state
    here = (when_false was _ _ still stands.is).0

    next : JobState
    next = job_after (outcome_of entry.event entry.reply) (absorbed (doing one budget state) entry.reply)

    kept : is_finish entry.event ≡ false → doing one budget (job_after (outcome_of entry.event entry.reply) (absorbed (doing one budget state) entry.reply)) ≡ absorbed (doing one budget state) entry.reply
    kept f = kept_process one budget entry.event entry.reply (absorbed (doing one budget state) entry.reply) f

    no_both : false ≡ true → ⊥
    no_both h = cc
