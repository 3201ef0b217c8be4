-- One turn: what it adds to the history, and how it brings the jobs nearer to their ends.
use Rattle.std.proofs.Common.{◌≡◌, ◌≢◌, ℕ, zero, suc, ◌+◌, ◌*◌, ◌<◌, ◌≤◌, ◌==◌, true, false, List, [], ◌∷◌, ◌++◌, refl, ◌∙◌, ap, arith}
use Rattle.std.proofs.lemmas.List.{append-nil}
use Rattle.std.proofs.lemmas.List.Elements.{filter-append}
use Rattle.std.proofs.lemmas.Bool.Decides.{nat_tests}
use Rattle.std.proofs.lemmas.Option.{same_Some}
use Rattle.std.proofs.Math.Nat.{mul-le-mul_right, suc-mul}
use Rattle.std.specs.Prelude.{Some, slice_get, slice_set}
use Rattle.s38_code.specs.declared.deck.Job.{Job}
use Rattle.s38_code.specs.declared.entry.Entry.{Entry}
use Rattle.s38_code.specs.declared.event.Event.{Event}
use Rattle.s38_code.specs.declared.made.CreateResult.{CreateResult}
use Rattle.s38_code.specs.declared.reply.Reply.{Reply}
use Rattle.s38_code.specs.declared.reply.Reply.TheVariants.{MustWait}
use Rattle.s38_code.specs.History.{entries_of, entry_after, is_of_process}
use Rattle.s38_rules.specs.step.Step.{step}
use Rattle.s38_rules.specs.step.Legal.{Run, after}
use Rattle.s38_process.specs.Process.{ProcessState, event_of}
use Rattle.s38_process.specs.AfterReply.{absorbed}
use Rattle.s38_run.specs.declared.job_state.JobState.{JobState}
use Rattle.s38_run.specs.declared.job_state.JobState.TheVariants.{Unbegun, Running, Over}
use Rattle.s38_run.specs.declared.outcome.Outcome.{Outcome}
use Rattle.s38_run.specs.declared.outcome.Outcome.TheVariants.{Finished, Waits, Refused, Changed}
use Rattle.s38_run.specs.Running.{left, left_in_all, left_of}
use Rattle.s38_run.specs.Turns.{doing, job_after, outcome_of}
use Rattle.s38_run.proofs.Asking.{falls, waits_left}

-- ---- the history

other_entry : (q : ℕ) (e : Entry) → q ≢ e.process → entries_of q (e ∷ []) ≡ []
other_entry q e h = let f : (e.process == q) ≡ false = grind (arith, nat_tests) in rw f refl

own_entry : (q : ℕ) (e : Entry) → e.process ≡ q → entries_of q (e ∷ []) ≡ e ∷ []
own_entry q e h = let f : (e.process == q) ≡ true = grind (arith, nat_tests) in rw f refl

pub entries_other : (q : ℕ) (h : List Entry) (e : Entry) → q ≢ e.process → entries_of q (h ++ e ∷ []) ≡ entries_of q h
entries_other q h e n = filter-append (is_of_process q) h (e ∷ []) ∙ ap (λ es. entries_of q h ++ es) (other_entry q e n) ∙ append-nil (entries_of q h)

pub entries_own : (q : ℕ) (h : List Entry) (e : Entry) → e.process ≡ q → entries_of q (h ++ e ∷ []) ≡ entries_of q h ++ e ∷ []
entries_own q h e n = filter-append (is_of_process q) h (e ∷ []) ∙ ap (λ es. entries_of q h ++ es) (own_entry q e n)

-- where the answer is entered, the history has one entry more
pub history_more : (m : Run) (mark p : ℕ) (e : Event) → (step m.state p e).enters ≡ true → (after m mark p e).history ≡ m.history ++ entry_after m.history p e (step m.state p e).reply ∷ []
unfolding after
history_more m mark p e h = rw h refl

pub origin_after : (m : Run) (mark p : ℕ) (e : Event) → (after m mark p e).origin ≡ m.origin
unfolding after
origin_after m mark p e = refl

-- ---- how many events are left

pub left_of_doing : (one : CreateResult) (job : Job) (state : JobState) → left_of job state ≡ left (doing one job.budget state)
left_of_doing one job Unbegun = refl
left_of_doing one job (Running d) = refl
left_of_doing one job Over = refl

-- a state after a turn has no more than its process
behind_left : (job : Job) (o : Outcome) (d : ProcessState) → left_of job (job_after o d) ≤ left d
behind_left job Finished d = omega arith
behind_left job Waits d = omega arith
behind_left job Refused d = omega arith
behind_left job Changed d = omega arith

-- each reply but MustWait brings a job nearer to its end
pub turn_falls : (one : CreateResult) (job : Job) (state : JobState) (e : Event) (r : Reply) → event_of (doing one job.budget state) ≡ Some e → r ≢ MustWait
    → left_of job (job_after (outcome_of e r) (absorbed (doing one job.budget state) r)) < left_of job state
turn_falls one job state e r asks answered =
    omega (arith, behind_left job (outcome_of e r) (absorbed (doing one job.budget state) r), falls (doing one job.budget state) e r asks answered, left_of_doing one job state)

-- and MustWait brings none further from it
pub turn_waits : (one : CreateResult) (job : Job) (state : JobState) (e : Event) → event_of (doing one job.budget state) ≡ Some e
    → left_of job (job_after (outcome_of e MustWait) (absorbed (doing one job.budget state) MustWait)) ≤ left_of job state
turn_waits one job state e asks =
    omega (arith, behind_left job (outcome_of e MustWait) (absorbed (doing one job.budget state) MustWait), waits_left (doing one job.budget state) e asks, left_of_doing one job state)

-- of all jobs one changes
pub left_set : (jobs : List Job) (all : List JobState) (k : ℕ) (job : Job) (old new : JobState) → slice_get jobs k ≡ Some job → slice_get all k ≡ Some old
    → left_in_all jobs (slice_set all k new) + left_of job old ≡ left_in_all jobs all + left_of job new
left_set [] all k job old new job_at old_at = cc
left_set (j ∷ jobs) [] k job old new job_at old_at = cc
left_set (j ∷ jobs) (x ∷ all) zero job old new job_at old_at =
    let same_job : j ≡ job = same_Some j job job_at in
    let same_old : x ≡ old = same_Some x old old_at in
    rw (same_job, same_old) (omega arith)
left_set (j ∷ jobs) (x ∷ all) (suc k) job old new job_at old_at =
    omega (arith, left_set jobs all k job old new job_at old_at)

-- ---- turns

-- one event less outweighs all that are ready
pub fewer_events : (n a b x y : ℕ) → a < b → x ≤ n → a * (n + 1) + x < b * (n + 1) + y
fewer_events n a b x y lt le =
    let next : suc a ≤ b = omega (arith, lt) in
    let times : suc a * (n + 1) ≤ b * (n + 1) = mul-le-mul_right (n + 1) next in
    omega (arith, times, suc-mul a (n + 1), le)

-- and so does one that is ready less
pub fewer_ready : (n a b x y : ℕ) → a ≤ b → x < y → a * (n + 1) + x < b * (n + 1) + y
fewer_ready n a b x y le lt =
    let times : a * (n + 1) ≤ b * (n + 1) = mul-le-mul_right (n + 1) le in
    omega (arith, times, lt)
