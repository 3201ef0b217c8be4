-- Whole runs: what the items of each job are, by how far the jobs have come.
use Rattle.std.proofs.Common.{◌≡◌, ◌≢◌, ℕ, ◌+◌, ◌-◌, ◌<◌, ◌≤◌, true, List, [], ◌∷◌, All, length, slice_index_or, ap, ◌∙◌, subst, arith}
use Rattle.std.proofs.lemmas.List.Elements.{All-get_or}
use Rattle.std.proofs.lemmas.Option.{slice_get_within}
use Rattle.std.specs.Prelude.{Option, Some, slice_get}
use Rattle.s38_code.specs.declared.deck.Job.{Job}
use Rattle.s38_code.specs.declared.entry.Entry.{Entry}
use Rattle.s38_code.specs.declared.event.Event.{Event}
use Rattle.s38_code.specs.declared.made.CreateResult.{CreateResult}
use Rattle.s38_code.specs.declared.step.StepFault.TheVariants.{Stopped}
use Rattle.s38_code.specs.History.{entries_of}
use Rattle.s38_process.specs.declared.status.Status.TheVariants.{Fresh, Ended}
use Rattle.s38_process.specs.Process.{ProcessState, fresh}
use Rattle.s38_process.specs.AfterReply.{RanFrom, absorbed, ends_by_finish, process_after}
use Rattle.s38_run.specs.Whole.{AllByProgram, AllRan}
use Rattle.s38_turn.specs.Items.{entries_in, items, items_by}
use Rattle.s38_turn.proofs.HistoryLaws.{entries_are, own_entries}
use Rattle.s38_run.proofs.Asking.{asks_open, ends_asking}
use Rattle.s38_run.proofs.ListedJobs.{there_is}
use Rattle.s38_workers.specs.declared.runner.Runner.{Runner}
use Rattle.s38_workers.specs.Asking.{NotedFrom}
use Rattle.s38_workers.specs.Going.{IsByProgramSoFar, IsSoFar}
use Rattle.s38_workers.specs.Runs.{HasFailed, IsNextOf, IsOver}
use Rattle.s38_workers.proofs.NoteLaws.{stop_asked}

-- a process that has ended ended by asking for its end
ends : (d : ProcessState) (es : List Entry) → d.status ≢ Ended → RanFrom d es → (process_after d es).status ≡ Ended → ends_by_finish es ≡ true
ends d [] going ran over = absurd (going over)
ends d (e ∷ []) going ran over = ends_asking d e.event e.reply ran.0 over
ends d (e ∷ f ∷ es) going ran over = ends (absorbed d e.reply) (f ∷ es) (asks_open (absorbed d e.reply) f.event ran.1.0) ran.1 over

fresh_goes : (one : CreateResult) (budget : ℕ) → (fresh one budget).status ≢ Ended
fresh_goes one budget = λ h. apart h
  where
    apart : Fresh ≡ Ended → ⊥
    apart g = cc

module _ {M : Type 0} (Halted : Type 0) (made : List CreateResult) (jobs : List Job) (runners : List (Runner M)) (history : List Entry) (stopped : Option (ℕ × Event)) (count : length runners ≡ length jobs)
    (stands : (k : ℕ) (d : Runner M) (job : Job) (one : CreateResult) → k < length runners → slice_get jobs k ≡ Some job → slice_get made k ≡ Some one → IsByProgramSoFar Halted one job.budget (items_by (k + 1) (items history stopped)) (slice_index_or runners k d).progress) where
  at : (k : ℕ) → k < length runners → Runner M
  at k lt = head runners (omega (arith, lt))
    where
      head : (xs : List (Runner M)) → 0 < length xs → Runner M
      head [] none = absurd (omega (arith, none))
      head (x ∷ xs) some = x

  within : (k : ℕ) (job : Job) → slice_get jobs k ≡ Some job → k < length runners
  within k job job_at = let lt = slice_get_within jobs k job job_at in omega (arith, lt, count)

  -- the entries among the items of a job's process
  own : (k : ℕ) → entries_in (items_by (k + 1) (items history stopped)) ≡ entries_of (k + 1) history
  own k = own_entries (k + 1) (items history stopped) ∙ ap (entries_of (k + 1)) (entries_are history stopped)

  ran : (k : ℕ) (job : Job) (one : CreateResult) → slice_get jobs k ≡ Some job → slice_get made k ≡ Some one → RanFrom (fresh one job.budget) (entries_of (k + 1) history)
  ran k job one job_at one_at = let lt = within k job job_at in subst (RanFrom (fresh one job.budget)) (own k) (stands k (at k lt) job one lt job_at one_at).by_program

  far : (k : ℕ) (d : Runner M) (job : Job) (one : CreateResult) → k < length runners → slice_get jobs k ≡ Some job → slice_get made k ≡ Some one
      → IsSoFar Halted (process_after (fresh one job.budget) (entries_of (k + 1) history)) (slice_index_or runners k d).progress (fresh one job.budget)
  far k d job one lt job_at one_at =
      subst (λ es. IsSoFar Halted (process_after (fresh one job.budget) es) (slice_index_or runners k d).progress (fresh one job.budget)) (own k) (stands k d job one lt job_at one_at).so_far

  pub all_by_program : AllByProgram made jobs history
  all_by_program = record { each = ran }

  pub all_ran : All IsOver runners → AllRan made jobs history
  all_ran over = record {
    each = λ k job one job_at one_at.
        let lt : k < length runners = within k job job_at in
        let d = at k lt in
        let by_program = ran k job one job_at one_at in
        let is = (All-get_or IsOver runners k d lt over).is in record {
          by_program = by_program;
          whole = ends (fresh one job.budget) (entries_of (k + 1) history) (fresh_goes one job.budget) by_program
              (subst (λ progress. IsSoFar Halted (process_after (fresh one job.budget) (entries_of (k + 1) history)) progress (fresh one job.budget)) is (far k d job one lt job_at one_at));
        };
  }

  pub halted : length made ≡ length jobs → HasFailed Stopped runners → Halted
  halted same f =
      let lt = f.within in
      let job = there_is jobs f.place (omega (arith, lt, count)) in
      let one = there_is made f.place (omega (arith, lt, count, same)) in
      let d = at f.place lt in
      subst (λ progress. IsSoFar Halted (process_after (fresh one.0 job.0.budget) (entries_of (f.place + 1) history)) progress (fresh one.0 job.0.budget)) (f.is d) (far f.place d job.0 one.0 lt job.1 one.1)

  -- the call that is noted is what its process asks next
  pub next_of : (call : ℕ × Event) → stopped ≡ Some call → 0 < call.0 → call.0 ≤ length jobs → IsNextOf made jobs history call
  next_of call is first last = record {
    first = first;
    last = last;
    asks = λ job one job_at one_at.
        let lt = within (call.0 - 1) job job_at in
        let noted = (stands (call.0 - 1) (at (call.0 - 1) lt) job one lt job_at one_at).noted in
        let place : call.0 - 1 + 1 ≡ call.0 = omega (arith, first) in
        stop_asked (fresh one job.budget) history call
        (subst (λ s. NotedFrom (fresh one job.budget) (items_by call.0 (items history s))) is (subst (λ p. NotedFrom (fresh one job.budget) (items_by p (items history stopped))) place noted));
  }
