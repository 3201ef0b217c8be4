-- A history is that of its picks.
use Rattle.std.proofs.Common.{◌≡◌, ◌≢◌, ℕ, ◌+◌, ◌-◌, ◌<◌, ◌≤◌, ◌==◌, Bool, true, false, cond, List, [], ◌∷◌, ◌++◌, length, refl, sym, ◌∙◌, ap, subst, arith}
use Rattle.std.proofs.lemmas.Bool.Decides.{nat_tests}
use Rattle.std.proofs.lemmas.Option.{same_Some}
use Rattle.std.specs.Prelude.{Option, Some, None, slice_get}
use Rattle.s38_code.specs.declared.deck.Job.{Job}
use Rattle.s38_code.specs.declared.entry.Entry.{Entry}
use Rattle.s38_code.specs.declared.event.Event.{Event}
use Rattle.s38_code.specs.declared.made.CreateResult.{CreateResult}
use Rattle.s38_code.specs.declared.made.CreateResult.TheVariants.{Refused}
use Rattle.s38_code.specs.declared.reply.Reply.{Reply}
use Rattle.s38_code.specs.declared.reply.Reply.TheVariants.{MustWait}
use Rattle.s38_code.specs.History.{entries_of, entry_count}
use Rattle.s38_rules.specs.state.State.{State, ready_list}
use Rattle.s38_rules.specs.step.Step.{step}
use Rattle.s38_rules.specs.step.Legal.{IsProcess, Leads, Run}
use Rattle.s38_process.specs.declared.status.Status.TheVariants.{Ended}
use Rattle.s38_process.specs.Process.{ProcessState, asks, event_of, fresh}
use Rattle.s38_process.specs.AfterReply.{RanFrom, absorbed, ends_by_finish, is_finish, process_after}
use Rattle.s38_run.specs.Picked.{Picked}
use Rattle.s38_run.specs.Pickers.{picks_of}
use Rattle.s38_run.specs.Whole.{WasRun}
use Rattle.s38_run.proofs.Asking.{finish_ends}
use Rattle.s38_run.proofs.ReadyLaws.{listed_ready}
use Rattle.s38_run.proofs.Stepping.{GoesTo, goes}
use Rattle.s38_run.proofs.ListedJobs.{there_is}

same_self : (p : ℕ) → (p == p) ≡ true
same_self p = grind (arith, nat_tests)

-- ---- who is picked is ready

picked_ready : (s : State) (q : ℕ) (e : Entry) → slice_get (ready_list s) q ≡ Some e.process → GoesTo s e.process e.event (step s e.process e.event) × IsProcess s e.process
picked_ready s q e h =
    let listed = listed_ready s q e.process h in
    (goes s e.process e.event (omega (arith, listed.1.first, listed.1.last)) listed.0, listed.1)

-- so its end is answered
AnswersEnds : List Entry → Type 0
AnswersEnds [] = Unit {0}
AnswersEnds (e ∷ es) = (is_finish e.event ≡ true → e.reply ≢ MustWait) × AnswersEnds es

answers_ends : {S : Type 0} (answer : S → ℕ) (after : S → S) (x : S) (s : State) (past es : List Entry) (t : State) → Picked (picks_of answer after (length es) x) s es → Leads s past es t → AnswersEnds es
unfolding AnswersEnds
answers_ends answer after x s past [] t picked leads = tt
answers_ends answer after x s past (e ∷ es) t picked leads = (
  λ f w. ((picked_ready s _ e picked.0).0.ended f).1 (leads.0.reply ∙ w),
  answers_ends answer after (after x) (step s e.process e.event).state (past ++ e ∷ []) es t picked.1 leads.1,
)

own_ends : (p : ℕ) (es : List Entry) → AnswersEnds es → AnswersEnds (entries_of p es)
unfolding AnswersEnds
own_ends p [] h = tt
own_ends p (e ∷ es) h = by_test (e.process == p) h.0 (own_ends p es h.1)
  where
    by_test : (b : Bool) → (is_finish e.event ≡ true → e.reply ≢ MustWait) → AnswersEnds (entries_of p es) → AnswersEnds (cond b (e ∷ entries_of p es) (entries_of p es))
    by_test true h g = (h, g)
    by_test false h g = g

ended_asks : (d : ProcessState) → d.status ≡ Ended → event_of d ≡ None
unfolding event_of
ended_asks d h = ap (asks d) h

-- a whole run asks nothing more
whole_rests : (d : ProcessState) (es : List Entry) → RanFrom d es → ends_by_finish es ≡ true → AnswersEnds es → event_of (process_after d es) ≡ None
unfolding AnswersEnds
whole_rests d [] ran whole answered = cc
whole_rests d (e ∷ []) ran whole answered = ended_asks (absorbed d e.reply) (finish_ends d e.event e.reply ran.0 (answered.0 whole) whole)
whole_rests d (e ∷ f ∷ es) ran whole answered = whole_rests (absorbed d e.reply) (f ∷ es) ran.1 whole answered.1

-- ---- two runs

-- processes in these states made these entries by their picks, up to their ends
record Goes {S : Type 0} (answer : S → ℕ) (after : S → S) (x : S) (count : ℕ) (s : State) (past : List Entry) (d : ℕ → ProcessState) (es : List Entry) (t : State) : Type 0 where
  counted : length s.processes ≡ count
  picked : Picked (picks_of answer after (length es) x) s es
  leads : Leads s past es t
  ran : (p : ℕ) → 0 < p → p ≤ count → RanFrom (d p) (entries_of p es)
  rests : (p : ℕ) → 0 < p → p ≤ count → event_of (process_after (d p) (entries_of p es)) ≡ None

moved : (ℕ → ProcessState) → Entry → ℕ → ProcessState
moved d e p = cond (e.process == p) (absorbed (d p) e.reply) (d p)

goes_tail : {S : Type 0} (answer : S → ℕ) (after : S → S) (x : S) (count : ℕ) (s : State) (past : List Entry) (d : ℕ → ProcessState) (e : Entry) (es : List Entry) (t : State)
    → Goes answer after x count s past d (e ∷ es) t → Goes answer after (after x) count (step s e.process e.event).state (past ++ e ∷ []) (moved d e) es t
unfolding moved
goes_tail answer after x count s past d e es t go = record {
  counted = (picked_ready s _ e go.picked.0).0.stay.count ∙ go.counted;
  picked = go.picked.1;
  leads = go.leads.1;
  ran = λ p first last. ran_tail (e.process == p) (d p) (entries_of p es) (go.ran p first last);
  rests = λ p first last. rests_tail (e.process == p) (d p) (entries_of p es) (go.rests p first last);
}
  where
    ran_tail : (b : Bool) (y : ProcessState) (xs : List Entry) → RanFrom y (cond b (e ∷ xs) xs) → RanFrom (cond b (absorbed y e.reply) y) xs
    ran_tail true y xs h = h.1
    ran_tail false y xs h = h

    rests_tail : (b : Bool) (y : ProcessState) (xs : List Entry) → event_of (process_after y (cond b (e ∷ xs) xs)) ≡ None → event_of (process_after (cond b (absorbed y e.reply) y) xs) ≡ None
    rests_tail true y xs h = h
    rests_tail false y xs h = h

-- the first entry is of a process, and what it asks
goes_head : {S : Type 0} (answer : S → ℕ) (after : S → S) (x : S) (count : ℕ) (s : State) (past : List Entry) (d : ℕ → ProcessState) (e : Entry) (es : List Entry) (t : State)
    → Goes answer after x count s past d (e ∷ es) t → (0 < e.process) × ((e.process ≤ count) × (event_of (d e.process) ≡ Some e.event))
goes_head answer after x count s past d e es t go =
    let is = (picked_ready s _ e go.picked.0).1 in
    let last : e.process ≤ count = omega (arith, is.last, go.counted) in
    (is.first, (last, asked (e.process == e.process) (entries_of e.process es) (same_self e.process) (go.ran e.process is.first last)))
  where
    asked : (b : Bool) (xs : List Entry) → b ≡ true → RanFrom (d e.process) (cond b (e ∷ xs) xs) → event_of (d e.process) ≡ Some e.event
    asked true xs h g = g.0
    asked false xs h g = cc

none_some : {A : Type 0} (o : Option A) (y : A) → o ≡ None → o ≡ Some y → ⊥
none_some o y h g = apart y (sym h ∙ g)
  where
    apart : {A : Type 0} (y : A) → None ≡ Some y → ⊥
    apart y k = cc

abbrev entry_of : ℕ → ℕ → Event → Reply → Entry
entry_of p n v r = record { process = p; seq = n; event = v; reply = r }

entry_same : (e f : Entry) → e.process ≡ f.process → e.seq ≡ f.seq → e.event ≡ f.event → e.reply ≡ f.reply → e ≡ f
entry_same e f process seq event reply =
    ap (λ p. entry_of p e.seq e.event e.reply) process
    ∙ ap (λ n. entry_of f.process n e.event e.reply) seq
    ∙ ap (λ v. entry_of f.process f.seq v e.reply) event
    ∙ ap (λ r. entry_of f.process f.seq f.event r) reply

event_same : (d : ℕ → ProcessState) (e f : Entry) → e.process ≡ f.process → event_of (d e.process) ≡ Some e.event → event_of (d f.process) ≡ Some f.event → e.event ≡ f.event
event_same d e f same asks_e asks_f = same_Some e.event f.event (sym asks_e ∙ ap (λ p. event_of (d p)) same ∙ asks_f)

same_entries : {S : Type 0} (answer : S → ℕ) (after : S → S) (x : S) (count : ℕ) (s : State) (past : List Entry) (d : ℕ → ProcessState) (es fs : List Entry) (t u : State)
    → Goes answer after x count s past d es t → Goes answer after x count s past d fs u → es ≡ fs
same_entries answer after x count s past d [] [] t u go too = refl
same_entries answer after x count s past d [] (f ∷ fs) t u go too =
    let head = goes_head answer after x count s past d f fs u too in
    absurd (none_some (event_of (d f.process)) f.event (go.rests f.process head.0 head.1.0) head.1.1)
same_entries answer after x count s past d (e ∷ es) [] t u go too =
    let head = goes_head answer after x count s past d e es t go in
    absurd (none_some (event_of (d e.process)) e.event (too.rests e.process head.0 head.1.0) head.1.1)
same_entries answer after x count s past d (e ∷ es) (f ∷ fs) t u go too =
    let process : e.process ≡ f.process = same_Some e.process f.process (sym go.picked.0 ∙ too.picked.0) in
    let event = event_same d e f process (goes_head answer after x count s past d e es t go).1.1 (goes_head answer after x count s past d f fs u too).1.1 in
    let seq : e.seq ≡ f.seq = go.leads.0.seq ∙ ap (λ p. entry_count p past) process ∙ sym too.leads.0.seq in
    let reply : e.reply ≡ f.reply =
    sym go.leads.0.reply ∙ ap (λ p. (step s p e.event).reply) process ∙ ap (λ (v : Event). (step s f.process v).reply) event ∙ too.leads.0.reply in
    let same = entry_same e f process seq event reply in
    let other = subst (λ (g : Entry). Goes answer after x count s past d (g ∷ fs) u) (sym same) too in
    let rest = same_entries answer after (after x) count (step s e.process e.event).state (past ++ e ∷ []) (moved d e) es fs t u
    (goes_tail answer after x count s past d e es t go) (goes_tail answer after x count s past d e fs u other) in
    ap (λ xs. e ∷ xs) rest ∙ ap (λ g. g ∷ fs) same

-- ---- whole runs of the same jobs

starts_as : Option CreateResult → Option Job → ProcessState
starts_as None o = fresh (Refused 0 0) 0
starts_as (Some one) None = fresh (Refused 0 0) 0
starts_as (Some one) (Some job) = fresh one job.budget

starts : List CreateResult → List Job → ℕ → ProcessState
starts made jobs p = starts_as (slice_get made (p - 1)) (slice_get jobs (p - 1))

whole_goes : {S : Type 0} (answer : S → ℕ) (after : S → S) (x : S) (made : List CreateResult) (jobs : List Job) (m : Run) → length made ≡ length jobs → length m.origin.processes ≡ length jobs
    → WasRun made jobs (λ n. picks_of answer after n x) m → Goes answer after x (length jobs) m.origin [] (starts made jobs) m.history m.state
unfolding starts starts_as
whole_goes answer after x made jobs m made_count count was = record {
  counted = count;
  picked = was.picked;
  leads = was.sound.legal;
  ran = λ p first last. (own p first last).0;
  rests = λ p first last. (own p first last).1;
}
  where
    own : (p : ℕ) → 0 < p → p ≤ length jobs → RanFrom (starts made jobs p) (entries_of p m.history) × (event_of (process_after (starts made jobs p) (entries_of p m.history)) ≡ None)
    own p first last =
        let job = there_is jobs (p - 1) (omega (arith, first, last)) in
        let one = there_is made (p - 1) (omega (arith, first, last, made_count)) in
        let index : p - 1 + 1 ≡ p = omega (arith, first) in
        let start : starts_as (slice_get made (p - 1)) (slice_get jobs (p - 1)) ≡ fresh one.0 job.0.budget =
        ap (λ o. starts_as o (slice_get jobs (p - 1))) one.1 ∙ ap (λ o. starts_as (Some one.0) o) job.1 in
        let ran = was.ran.each (p - 1) job.0 one.0 job.1 one.1 in
        let by_program : RanFrom (fresh one.0 job.0.budget) (entries_of p m.history) = subst (λ i. RanFrom (fresh one.0 job.0.budget) (entries_of i m.history)) index ran.by_program in
        let whole : ends_by_finish (entries_of p m.history) ≡ true = subst (λ i. ends_by_finish (entries_of i m.history) ≡ true) index ran.whole in
        let answered = own_ends p m.history (answers_ends answer after x m.origin [] m.history m.state was.picked was.sound.legal) in
        subst (λ (d : ProcessState). RanFrom d (entries_of p m.history) × (event_of (process_after d (entries_of p m.history)) ≡ None)) (sym start)
        (by_program, whole_rests (fresh one.0 job.0.budget) (entries_of p m.history) by_program whole answered)

-- machine, jobs and picks decide the history
pub one_history : {S : Type 0} (answer : S → ℕ) (after : S → S) (x : S) (made : List CreateResult) (jobs : List Job) (m n : Run) → length made ≡ length jobs → length m.origin.processes ≡ length jobs → n.origin ≡ m.origin
    → WasRun made jobs (λ k. picks_of answer after k x) m → WasRun made jobs (λ k. picks_of answer after k x) n → m.history ≡ n.history
one_history answer after x made jobs m n made_count count same was too =
    let go = whole_goes answer after x made jobs m made_count count was in
    let other = whole_goes answer after x made jobs n made_count (ap (λ (s : State). length s.processes) same ∙ count) too in
    same_entries answer after x (length jobs) m.origin [] (starts made jobs) m.history n.history m.state n.state go
    (subst (λ (s : State). Goes answer after x (length jobs) s [] (starts made jobs) n.history n.state) same other)
