-- The jobs of those that are listed as ready, and their places.
use Rattle.std.proofs.Common.{◌≡◌, ◌≢◌, ℕ, zero, suc, ◌-◌, ◌<◌, ◌==◌, ◌⊎◌, Bool, true, false, not, ◌&&◌, List, [], ◌∷◌, length, get_or, inl, inr, refl, sym, ◌∙◌, ap, subst, arith, length-set, get_or-set_other, get_or-set_same}
use Rattle.std.proofs.lemmas.List.{length-map}
use Rattle.std.proofs.lemmas.Bool.Decides.{nat_tests}
use Rattle.std.proofs.lemmas.Option.{get_or_from_slice_get, same_Some, slice_get_read, slice_get_within, slice_get-get_or}
use Rattle.std.specs.Prelude.{Option, Some, slice_get, slice_set}
use Rattle.s38_code.specs.declared.deck.Job.{Job}
use Rattle.s38_code.specs.declared.entry.Entry.{Entry}
use Rattle.s38_code.specs.declared.event.Event.{Event}
use Rattle.s38_code.specs.declared.made.CreateResult.{CreateResult}
use Rattle.s38_code.specs.History.{entry_after}
use Rattle.s38_rules.specs.declared.process.ProcessEntry.{ProcessEntry}
use Rattle.s38_rules.specs.step.Legal.{IsProcess, Run}
use Rattle.s38_rules.specs.state.State.{State, is_early, process_entry, ready, ready_in, waits}
use Rattle.s38_rules.specs.step.Step.{step}
use Rattle.s38_process.specs.Process.{event_of}
use Rattle.s38_process.specs.AfterReply.{absorbed}
use Rattle.s38_run.specs.declared.job_state.JobState.{JobState}
use Rattle.s38_run.specs.Running.{IsBetween, OthersStay}
use Rattle.s38_run.specs.Turns.{doing, job_after, outcome_of}
use Rattle.s38_run.specs.Whole.{AllByProgram}
use Rattle.s38_run.proofs.ReadyLaws.{listed_ready}

pub at_get : (xs : List ProcessEntry) (k : ℕ) (x : ProcessEntry) → slice_get xs k ≡ Some x → get_or xs k x ≡ x
at_get xs k x h = get_or_from_slice_get xs k x x h

pub same_place : (xs ys : List ProcessEntry) (at k : ℕ) (x : ProcessEntry) → OthersStay xs ys at → k ≢ at → slice_get ys k ≡ Some x → slice_get xs k ≡ Some x
same_place xs ys at k x stay ne h =
    slice_get-get_or xs k x (omega (arith, slice_get_within ys k x h, stay.count)) ∙ ap Some (sym (stay.same k x ne) ∙ at_get ys k x h)

pub set_there : {A : Type 0} (xs : List A) (at : ℕ) (x y : A) → slice_get xs at ≡ Some x → slice_get (slice_set xs at y) at ≡ Some y
set_there xs at x y h =
    let within : at < length (slice_set xs at y) = simp length-set (slice_get_within xs at x h) in
    slice_get-get_or (slice_set xs at y) at y within ∙ ap Some (get_or-set_same xs at y y (slice_get_within xs at x h))

pub set_elsewhere : {A : Type 0} (xs : List A) (at k : ℕ) (x y : A) → k ≢ at → slice_get (slice_set xs at y) k ≡ Some x → slice_get xs k ≡ Some x
set_elsewhere xs at k x y ne h =
    let inside : k < length (slice_set xs at y) = slice_get_within (slice_set xs at y) k x h in
    let within : k < length xs = simp length-set at inside in
    slice_get-get_or xs k x within ∙ ap Some (sym (get_or-set_other xs at k y x ne) ∙ get_or_from_slice_get (slice_set xs at y) k x x h)

pub some_same : {A : Type 0} (o : Option A) (a b : A) → o ≡ Some a → o ≡ Some b → a ≡ b
some_same o a b p q = same_Some a b (sym p ∙ q)

pub same_or_not : (a b : ℕ) → (a ≡ b) ⊎ (a ≢ b)
same_or_not a b = by_test (a == b) refl
  where
    by_test : (t : Bool) → (a == b) ≡ t → (a ≡ b) ⊎ (a ≢ b)
    by_test true e = inl (grind (arith, nat_tests))
    by_test false e = inr (λ g. absurd (grind (arith, nat_tests)))

pub there_is : {A : Type 0} (xs : List A) (k : ℕ) → k < length xs → (x : A) × (slice_get xs k ≡ Some x)
there_is [] k h = absurd (omega arith)
there_is (x ∷ xs) zero h = (x, refl)
there_is (x ∷ xs) (suc k) h = there_is xs k (omega arith)

pub ready_open : (s : State) (p : ℕ) (x : ProcessEntry) → process_entry s p ≡ Some x → ready s p ≡ true → x.ended ≡ false
ready_open s p x at r = first_false x.ended (is_early s.processes x.job.stage) (waits s p) (sym (ap (ready_in s p) at) ∙ r)
  where
    first_false : (ended early waiting : Bool) → (not ended && (not early && not waiting)) ≡ true → ended ≡ false
    first_false true early waiting h = cc
    first_false false early waiting h = refl

-- the turn of a job: its process is at a place of those that are ready
pub record AtJob (made : List CreateResult) (jobs : List Job) (m : Run) (all : List JobState) (was : List ℕ) (place p : ℕ) (job : Job) (one : CreateResult) (state : JobState) : Type 0 where
  pub between : IsBetween made jobs m all was
  pub listed : slice_get was place ≡ Some p
  pub job_at : slice_get jobs (p - 1) ≡ Some job
  pub one_at : slice_get made (p - 1) ≡ Some one
  pub state_at : slice_get all (p - 1) ≡ Some state

-- and it asks this
pub record AtTurn (made : List CreateResult) (jobs : List Job) (m : Run) (all : List JobState) (was : List ℕ) (place p : ℕ) (job : Job) (one : CreateResult) (state : JobState) (e : Event) : Type 0 where
  pub at : AtJob made jobs m all was place p job one state
  pub asks : event_of (doing one job.budget state) ≡ Some e

-- the state of the job after it
abbrev pub state_then : Run → ℕ → Job → CreateResult → JobState → Event → JobState
state_then m p job one state e = job_after (outcome_of e (step m.state p e).reply) (absorbed (doing one job.budget state) (step m.state p e).reply)

abbrev pub entry_then : Run → ℕ → Event → Entry
entry_then m p e = entry_after m.history p e (step m.state p e).reply

-- who is a process of the machine, and ready
pub is_listed : (made : List CreateResult) (jobs : List Job) (m : Run) (all : List JobState) (was : List ℕ) (place p : ℕ) → IsBetween made jobs m all was → slice_get was place ≡ Some p → (ready m.state p ≡ true) × IsProcess m.state p
is_listed made jobs m all was place p between listed = listed_ready m.state place p (subst (λ (qs : List ℕ). slice_get qs place ≡ Some p) between.ready listed)

pub processes_count : (made : List CreateResult) (jobs : List Job) (m : Run) (all : List JobState) (was : List ℕ) → IsBetween made jobs m all was → length m.state.processes ≡ length jobs
processes_count made jobs m all was between =
    between.sound.kept ∙ ap (λ (s : State). length s.processes) between.opened ∙ length-map jobs _

-- who is listed is the process of a job
pub within_jobs : (made : List CreateResult) (jobs : List Job) (m : Run) (all : List JobState) (was : List ℕ) (place p : ℕ) → IsBetween made jobs m all was → slice_get was place ≡ Some p → (0 < p) × (p - 1 < length jobs)
within_jobs made jobs m all was place p between listed =
    let is = is_listed made jobs m all was place p between listed in
    (is.1.first, omega (arith, is.1.first, is.1.last, processes_count made jobs m all was between))

-- who is read there is listed
pub read_listed : (was : List ℕ) (place p : ℕ) → place < length was → p ≡ get_or was place p → slice_get was place ≡ Some p
read_listed was place p within read = slice_get_read was (length was) place p refl within read

pub at_job : (made : List CreateResult) (jobs : List Job) (m : Run) (all : List JobState) (was : List ℕ) (place p : ℕ) (job : Job) (one : CreateResult) (state : JobState) → IsBetween made jobs m all was → place < length was
    → p ≡ get_or was place p → job ≡ get_or jobs (p - 1) job → one ≡ get_or made (p - 1) one → state ≡ get_or all (p - 1) state → AtJob made jobs m all was place p job one state
at_job made jobs m all was place p job one state between within p_read job_read one_read state_read =
    let listed = read_listed was place p within p_read in
    let inside = (within_jobs made jobs m all was place p between listed).1 in
    record {
      between = between;
      listed = listed;
      job_at = slice_get_read jobs (length jobs) (p - 1) job refl inside job_read;
      one_at = slice_get_read made (length made) (p - 1) one refl (omega (arith, inside, between.count_made)) one_read;
      state_at = slice_get_read all (length all) (p - 1) state refl (omega (arith, inside, between.count_states)) state_read;
    }

-- the entries of each job are by its program
pub all_by_program : (made : List CreateResult) (jobs : List Job) (m : Run) (all : List JobState) (was : List ℕ) → IsBetween made jobs m all was → AllByProgram made jobs m.history
all_by_program made jobs m all was between = record {
  each = λ k job one job_at one_at.
      let within = slice_get_within jobs k job job_at in
      let x = there_is m.state.processes k (omega (arith, processes_count made jobs m all was between, within)) in
      let state = there_is all k (omega (arith, between.count_states, within)) in
      (between.each.each k x.0 job one state.0 x.1 job_at one_at state.1).by_program;
}
