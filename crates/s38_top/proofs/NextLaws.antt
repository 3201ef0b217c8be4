-- Where a machine has stopped, the entry of the call that failed is the next one of the run.
use Rattle.std.proofs.Common.{◌≡◌, ◌∙◌, inl, inr, ℕ, ◌+◌, ◌-◌, ◌≤◌, List, [], ◌∷◌, ◌++◌, length, sym, ap, subst, arith}
use Rattle.std.proofs.lemmas.Option.{same_Some}
use Rattle.std.specs.Option.{option_map}
use Rattle.std.specs.Prelude.{IfSome, Option, Some, slice_get}
use Rattle.s38_code.specs.History.{entries_of}
use Rattle.s38_code.specs.declared.deck.Job.{Job}
use Rattle.s38_code.specs.declared.entry.Entry.{Entry}
use Rattle.s38_code.specs.declared.event.Event.{Event}
use Rattle.s38_code.specs.declared.made.CreateResult.{CreateResult}
use Rattle.s38_process.specs.Process.{event_of, fresh}
use Rattle.s38_process.specs.AfterReply.{RanFrom, process_after}
use Rattle.s38_rules.specs.step.Legal.{Run}
use Rattle.s38_run.proofs.Asking.{ran_more}
use Rattle.s38_run.proofs.JobLaws.{picked_more}
use Rattle.s38_run.proofs.Running.{entries_other, entries_own}
use Rattle.s38_run.specs.Picked.{Picked}
use Rattle.s38_run.specs.Pickers.{after_picks, number_after, number_answer, picks_of}
use Rattle.s38_run.proofs.ListedJobs.{same_or_not}
use Rattle.s38_run.specs.Whole.{AllByProgram, AsksNext, WasHalted}
use Rattle.s38_durable_machine.proofs.SoundLaws.{last_call}
use Rattle.s38_durable_machine.proofs.WantLaws.{split_last}
use Rattle.s38_durable_machine.specs.Seen.{answered_by, call_of, stopped_by, without_last}
use Rattle.s38_durable_machine.specs.declared.ending.Ending.{Ending}
use Rattle.s38_durable_machine.specs.declared.ending.Ending.TheVariants.{Going, Stopped, Wanting}
use Rattle.s38_workers.specs.Runs.{IsNextOf}

-- ---- the call that was answered Stopped

-- a history ends with the entry of a call
pub record EndsWithCall (history : List Entry) (call : ℕ × Event) : Type 0 where
  pub last : Entry
  pub is : history ≡ without_last history ++ last ∷ []
  pub of_call : call ≡ call_of last

call_there : (x : Entry) (xs : List Entry) (e : Entry) → x ∷ xs ≡ without_last (x ∷ xs) ++ e ∷ [] → option_map call_of (slice_get (x ∷ xs) (length (x ∷ xs) - 1)) ≡ Some (call_of e)
call_there x xs e is = ap (λ (es : List Entry). option_map call_of (slice_get es (length es - 1))) is ∙ last_call (without_last (x ∷ xs)) e

ends_with : (history : List Entry) (call : ℕ × Event) → option_map call_of (slice_get history (length history - 1)) ≡ Some call → EndsWithCall history call
ends_with [] call is = cc
ends_with (x ∷ xs) call is =
    let one = split_last x xs in
    record { last = one.0; is = one.1; of_call = same_Some call (call_of one.0) (sym is ∙ call_there x xs one.0 one.1) }

-- the last entry is that of the call of which something is said
said_of_last : (history : List Entry) (P : ℕ × Event → Type 0) → 1 ≤ length history → IfSome (option_map call_of (slice_get history (length history - 1))) P
    → (e : Entry) × ((history ≡ without_last history ++ e ∷ []) × P (call_of e))
said_of_last [] P some said = absurd (omega (arith, some))
said_of_last (x ∷ xs) P some said =
    let one = split_last x xs in
    (one.0, (one.1, subst (λ (o : Option (ℕ × Event)). IfSome o P) (call_there x xs one.0 one.1) said))

-- ---- one entry more

module _ (made : List CreateResult) (jobs : List Job) (front : List Entry) (e : Entry) (asks : AsksNext made jobs front (call_of e).0 (call_of e).1) (all : AllByProgram made jobs front) where
  own_asks : (k : ℕ) (job : Job) (one : CreateResult) → slice_get jobs k ≡ Some job → slice_get made k ≡ Some one → k + 1 ≡ e.process → event_of (process_after (fresh one job.budget) (entries_of (k + 1) front)) ≡ Some e.event
  own_asks k job one job_at one_at own =
      let index : k ≡ e.process - 1 = omega (arith, own) in
      subst (λ (p : ℕ). event_of (process_after (fresh one job.budget) (entries_of p front)) ≡ Some e.event) (sym own)
      (asks job one (subst (λ (i : ℕ). slice_get jobs i ≡ Some job) index job_at) (subst (λ (i : ℕ). slice_get made i ≡ Some one) index one_at))

  ran_on : (k : ℕ) (job : Job) (one : CreateResult) → slice_get jobs k ≡ Some job → slice_get made k ≡ Some one → RanFrom (fresh one job.budget) (entries_of (k + 1) (front ++ e ∷ []))
  ran_on k job one job_at one_at = elim (same_or_not (k + 1) e.process) as (λ _. RanFrom (fresh one job.budget) (entries_of (k + 1) (front ++ e ∷ []))) [
    | inl own ↦ subst (λ (es : List Entry). RanFrom (fresh one job.budget) es) (sym (entries_own (k + 1) front e (sym own)))
        (ran_more (fresh one job.budget) (entries_of (k + 1) front) e (all.each k job one job_at one_at) (own_asks k job one job_at one_at own))
    | inr other ↦ subst (λ (es : List Entry). RanFrom (fresh one job.budget) es) (sym (entries_other (k + 1) front e other)) (all.each k job one job_at one_at)
  ]

  pub by_program_on : AllByProgram made jobs (front ++ e ∷ [])
  by_program_on = record { each = ran_on }

-- ---- with the entry of the call that failed

-- on one thread
pub halted_on : (made : List CreateResult) (jobs : List Job) (pick : ℕ) (k : Ending) (m : Run) → Picked (picks_of number_answer number_after (length (answered_by k m).history) pick) (answered_by k m).origin (answered_by k m).history
    → AllByProgram made jobs (answered_by k m).history
    → WasHalted made jobs (number_answer (after_picks number_after (length (answered_by k m).history) pick)) (answered_by k m) (stopped_by k m.history)
    → Picked (picks_of number_answer number_after (length m.history) pick) m.origin m.history × AllByProgram made jobs m.history
halted_on made jobs pick Going m picked all halted = let is = halted.is in cc
halted_on made jobs pick Wanting m picked all halted = let is = halted.is in cc
halted_on made jobs pick Stopped m picked all halted =
    let end = ends_with m.history (halted.process, halted.event) halted.is in
    let by : halted.process ≡ end.last.process = ap (λ (c : ℕ × Event). c.0) end.of_call in
    subst (λ (es : List Entry). Picked (picks_of number_answer number_after (length es) pick) m.origin es × AllByProgram made jobs es) (sym end.is) (
      picked_more number_answer number_after pick m.origin [] (without_last m.history) halted.state end.last halted.led picked (halted.picked ∙ ap Some by),
      by_program_on made jobs (without_last m.history) end.last (subst (λ (c : ℕ × Event). AsksNext made jobs (without_last m.history) c.0 c.1) end.of_call halted.asks) all,
    )

-- on threads
pub shared_on : (made : List CreateResult) (jobs : List Job) (k : Ending) (m : Run) → k ≡ Stopped → 1 ≤ length m.history → AllByProgram made jobs (answered_by k m).history
    → IfSome (stopped_by k m.history) (λ call. IsNextOf made jobs (answered_by k m).history call) → AllByProgram made jobs m.history
shared_on made jobs Going m is some all next = cc
shared_on made jobs Wanting m is some all next = cc
shared_on made jobs Stopped m is some all next =
    let end = said_of_last m.history (λ call. IsNextOf made jobs (without_last m.history) call) some next in
    subst (λ (es : List Entry). AllByProgram made jobs es) (sym end.1.0) (by_program_on made jobs (without_last m.history) end.0 end.1.1.asks all)
