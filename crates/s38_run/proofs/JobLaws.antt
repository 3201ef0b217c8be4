-- The beginning of a run and its end.
use Rattle.std.proofs.Common.{◌≡◌, ◌≢◌, ℕ, zero, suc, ◌+◌, ◌-◌, ◌%◌, ◌<◌, ◌≤◌, ◌==◌, ◌&&◌, not, Bool, true, false, List, [], ◌∷◌, ◌++◌, length, inl, inr, refl, sym, ◌∙◌, ap, subst, arith}
use Rattle.std.proofs.lemmas.List.{length-map}
use Rattle.std.proofs.lemmas.Bool.Decides.{nat_tests}
use Rattle.std.proofs.lemmas.Option.{same_Some, slice_get_within}
use Rattle.std.specs.Prelude.{Option, Some, nat_lt, slice_get}
use Rattle.std.specs.List.{list_any}
use Rattle.s38_code.specs.declared.deck.Job.{Job}
use Rattle.s38_code.specs.declared.entry.Entry.{Entry}
use Rattle.s38_code.specs.declared.event.Event.{Event}
use Rattle.s38_code.specs.declared.made.CheckedTemplate.{CheckedTemplate}
use Rattle.s38_code.specs.declared.made.CreateResult.{CreateResult}
use Rattle.s38_code.specs.History.{entries_of}
use Rattle.s38_machine.specs.Stored.{stored_state_of}
use Rattle.s38_rules.specs.declared.process.ProcessEntry.{ProcessEntry}
use Rattle.s38_rules.specs.state.Held.{Held}
use Rattle.s38_rules.specs.state.State.{State, is_early, process_entry, ready, ready_in, ready_list, runs_before, waits}
use Rattle.s38_rules.specs.step.Legal.{IsProcess, IsSound, Leads, Run, begun}
use Rattle.s38_rules.specs.store.Room.{Room}
use Rattle.s38_rules.specs.state.Opening as opening
use Rattle.s38_rules.specs.step.Step.{step}
use Rattle.s38_process.specs.declared.status.Status.TheVariants.{Fresh, Ended}
use Rattle.s38_process.specs.Process.{event_of, fresh}
use Rattle.s38_process.specs.AfterReply.{process_after}
use Rattle.s38_rules.proofs.Laws.{sound_begun}
use Rattle.s38_run.specs.declared.job_state.JobState.{JobState}
use Rattle.s38_run.specs.declared.job_state.JobState.TheVariants.{Unbegun}
use Rattle.s38_run.specs.Picked.{Picked, chosen}
use Rattle.s38_run.specs.Pickers.{after_picks, picks_of}
use Rattle.s38_run.specs.Running.{AskedSoFar, CameOff, CameToHalt, HasHalted, IsBetween, IsOver, RanSoFar, WentOn, unbegun}
use Rattle.s38_run.specs.Whole.{AllByProgram, AllRan, IsBegun, opened_for}
use Rattle.s38_run.proofs.ReadyLaws.{any_some, none_listed}
use Rattle.s38_run.proofs.ListedJobs.{all_by_program, processes_count, there_is}
use Rattle.s38_run.proofs.JobTurn.{when_true}

-- ---- where none is ready, all have ended

-- a process that has not ended and does not wait is ready unless an earlier stage runs
not_ready : (ended early waiting : Bool) → ended ≡ false → waiting ≡ false → (not ended && (not early && not waiting)) ≡ false → early ≡ true
not_ready ended true waiting e w h = refl
not_ready true false waiting e w h = cc
not_ready false false true e w h = cc
not_ready false false false e w h = cc

runs_is : (ended low : Bool) → (not ended && low) ≡ true → (ended ≡ false) × (low ≡ true)
runs_is true low h = cc
runs_is false low h = (refl, h)

abbrev pub NoneReady : State → Type 0
NoneReady s = (k : ℕ) → k < length s.processes → ready s (k + 1) ≡ false

none_waiting : (s : State) (p : ℕ) → s.waiting ≡ [] → waits s p ≡ false
none_waiting s p h = ap (λ ws. list_any (λ w. w == p) ws) h

early_at : (s : State) (k : ℕ) (x : ProcessEntry) → s.waiting ≡ [] → NoneReady s → slice_get s.processes k ≡ Some x → x.ended ≡ false → is_early s.processes x.job.stage ≡ true
early_at s k x w none at e =
    let here : k + 1 - 1 ≡ k = omega arith in
    let there : process_entry s (k + 1) ≡ Some x = ap (λ i. slice_get s.processes i) here ∙ at in
    let r : ready_in s (k + 1) (Some x) ≡ false = sym (ap (ready_in s (k + 1)) there) ∙ none k (slice_get_within s.processes k x at) in
    not_ready x.ended (is_early s.processes x.job.stage) (waits s (k + 1)) e (none_waiting s (k + 1) w) r

-- by the stages downwards
none_open : (n : ℕ) (s : State) (k : ℕ) (x : ProcessEntry) → s.waiting ≡ [] → NoneReady s → slice_get s.processes k ≡ Some x → x.ended ≡ false → x.job.stage < n → ⊥
none_open zero s k x w none at e lt = omega arith
none_open (suc n) s k x w none at e lt =
    let found = any_some (runs_before x.job.stage) s.processes (early_at s k x w none at e) in
    let before = runs_is found.1.0.ended (nat_lt found.1.0.job.stage x.job.stage) found.1.1.1 in
    let low : found.1.0.job.stage < x.job.stage = grind (arith, nat_tests, before.1) in
    none_open n s found.0 found.1.0 w none found.1.1.0 before.0 (omega (arith, low))

ended_or : (b : Bool) → (b ≡ false → ⊥) → b ≡ true
ended_or true h = refl
ended_or false h = absurd (h refl)

pub all_ended : (s : State) → s.waiting ≡ [] → NoneReady s → (k : ℕ) (x : ProcessEntry) → slice_get s.processes k ≡ Some x → x.ended ≡ true
all_ended s w none k x at = ended_or x.ended (λ e. none_open (x.job.stage + 1) s k x w none at e (omega arith))

-- ---- the beginning

fresh_open : (jobs : List Job) (k : ℕ) (x : ProcessEntry) → slice_get (opening.process_entries jobs) k ≡ Some x → x.ended ≡ false
fresh_open [] k x h = cc
fresh_open (job ∷ jobs) zero x h = ap (λ (y : ProcessEntry). y.ended) (sym (same_Some _ _ h))
fresh_open (job ∷ jobs) (suc k) x h = fresh_open jobs k x h

unbegun_at : (jobs : List Job) (k : ℕ) (state : JobState) → slice_get (unbegun jobs) k ≡ Some state → state ≡ Unbegun
unbegun_at [] k state h = cc
unbegun_at (job ∷ jobs) zero state h = sym (same_Some _ _ h)
unbegun_at (job ∷ jobs) (suc k) state h = unbegun_at jobs k state h

fresh_stands : (one : CreateResult) (budget : ℕ) (ended : Bool) (state : JobState) → ended ≡ false → state ≡ Unbegun → AskedSoFar one budget ended [] state
fresh_stands one budget ended state still is =
    subst (λ (b : Bool). AskedSoFar one budget b [] state) (sym still)
    (subst (λ (s : JobState). AskedSoFar one budget false [] s) (sym is) (record { by_program = tt; is = (refl, going) }))
  where
    going : Fresh ≢ Ended
    going g = cc

-- a run that has no entry is where it began
first_state : (jobs : List Job) (m : Run) → IsBegun jobs m → m.state ≡ opened_for m.origin jobs
first_state jobs m begun = sym (subst (λ (es : List Entry). Leads m.origin [] es m.state) begun.empty begun.sound.legal) ∙ begun.opened

pub between_begun : (made : List CreateResult) (jobs : List Job) (m : Run) (all : List JobState) (list : List ℕ) → length made ≡ length jobs → IsBegun jobs m → all ≡ unbegun jobs → list ≡ ready_list m.state → IsBetween made jobs m all list
between_begun made jobs m all list count begun unbegun_yet listed = record {
  sound = begun.sound;
  opened = begun.opened;
  count_made = count;
  count_states = ap (λ (xs : List JobState). length xs) unbegun_yet ∙ length-map jobs _;
  ready = listed;
  awake = λ h. ap (λ (s : State). s.waiting) (first_state jobs m begun);
  each = record {
    each = λ k x job one state x_at job_at one_at state_at.
        let there : slice_get (opening.process_entries jobs) k ≡ Some x = ap (λ (s : State). slice_get s.processes k) (sym (first_state jobs m begun)) ∙ x_at in
        let unbegun_there : slice_get (unbegun jobs) k ≡ Some state = ap (λ (xs : List JobState). slice_get xs k) (sym unbegun_yet) ∙ state_at in
        subst (λ (es : List Entry). AskedSoFar one job.budget x.ended (entries_of (k + 1) es) state) (sym begun.empty)
        (fresh_stands one job.budget x.ended state (fresh_open jobs k x there) (unbegun_at jobs k state unbegun_there));
  };
}

-- a machine that has just begun, with or without a store
pub is_begun : (room : Option Room) (held : Held) (templates : List CheckedTemplate) (jobs : List Job) (m : Run) → m ≡ begun m.first (stored_state_of room held templates jobs) → IsBegun jobs m
is_begun room held templates jobs m is =
    subst (IsBegun jobs) (sym is) (record { sound = sound_begun m.first (stored_state_of room held templates jobs); opened = refl; empty = refl })

-- the processes of a run are those of its jobs
pub process_begun : (jobs : List Job) (m : Run) → IsBegun jobs m → (p : ℕ) → 0 < p → p ≤ length jobs → IsProcess m.origin p
process_begun jobs m begun p pos le =
    let count : length m.origin.processes ≡ length jobs = ap (λ (s : State). length s.processes) begun.opened ∙ length-map jobs _ in
    record { first = pos; last = omega (arith, le, count) }

-- ---- the end

-- where no job is ready, each has run whole
pub between_none : (made : List CreateResult) (jobs : List Job) (m : Run) (all : List JobState) (was : List ℕ) → IsBetween made jobs m all was → was ≡ [] → AllRan made jobs m.history
between_none made jobs m all was between none =
    let listed : ready_list m.state ≡ [] = sym between.ready ∙ none in
    let count = processes_count made jobs m all was between in
    record {
      each = λ k job one job_at one_at.
          let within = slice_get_within jobs k job job_at in
          let x = there_is m.state.processes k (omega (arith, count, within)) in
          let state = there_is all k (omega (arith, between.count_states, within)) in
          let stands = between.each.each k x.0 job one state.0 x.1 job_at one_at state.1 in
          let ended = all_ended m.state (between.awake listed) (λ i lt. none_listed m.state (i + 1) listed (record { first = omega arith; last = omega (arith, lt) })) k x.0 x.1 in
          record { by_program = stands.by_program; whole = when_true x.0.ended _ _ ended stands.is };
    }

-- ---- the picks

pub picked_more : {S : Type 0} (answer : S → ℕ) (after : S → S) (x : S) (s : State) (past es : List Entry) (t : State) (e : Entry) → Leads s past es t → Picked (picks_of answer after (length es) x) s es
    → chosen t (answer (after_picks after (length es) x)) ≡ Some e.process → Picked (picks_of answer after (length (es ++ e ∷ [])) x) s (es ++ e ∷ [])
picked_more answer after x s past [] t e leads picked by = (subst (λ (u : State). chosen u (answer x) ≡ Some e.process) (sym leads) by, tt)
picked_more answer after x s past (y ∷ es) t e leads picked by = (picked.0, picked_more answer after (after x) (step s y.process y.event).state (past ++ y ∷ []) es t e leads.1 picked.1 by)

pub after_one_more : {S : Type 0} (after : S → S) (x : S) (es : List Entry) (e : Entry) → after_picks after (length (es ++ e ∷ [])) x ≡ after (after_picks after (length es) x)
after_one_more after x [] e = refl
after_one_more after x (y ∷ es) e = after_one_more after (after x) es e

-- ---- between two turns of a whole run

-- where nothing has come yet
nothing_by_program : (made : List CreateResult) (jobs : List Job) (history : List Entry) → history ≡ [] → AllByProgram made jobs history
nothing_by_program made jobs history none = subst (AllByProgram made jobs) (sym none) (record { each = λ k job one job_at one_at. tt })

nothing_picked : {S : Type 0} (answer : S → ℕ) (after : S → S) (x : S) (s : State) (history : List Entry) → history ≡ [] → Picked (picks_of answer after (length history) x) s history
nothing_picked answer after x s history none = subst (λ (es : List Entry). Picked (picks_of answer after (length es) x) s es) (sym none) tt

pub none_yet : {S : Type 0} (answer : S → ℕ) (after : S → S) (x : S) (made : List CreateResult) (jobs : List Job) (m : Run) → IsBegun jobs m → RanSoFar answer after x made jobs m m
none_yet answer after x made jobs m begun = record {
  origin = refl;
  picked = nothing_picked answer after x m.origin m.history begun.empty;
  by_program = nothing_by_program made jobs m.history begun.empty;
}

-- the jobs have come so far, by the picks from x up to y
pub record ComesOn {S : Type 0} (answer : S → ℕ) (after : S → S) (x : S) (first : Run) (made : List CreateResult) (jobs : List Job) (m : Run) (all : List JobState) (list : List ℕ) (y : S) : Type 0 where
  pub between : IsBetween made jobs m all list
  pub origin : m.origin ≡ first.origin
  pub picked : Picked (picks_of answer after (length m.history) x) m.origin m.history
  pub picker : y ≡ after_picks after (length m.history) x

pub comes_begun : {S : Type 0} (answer : S → ℕ) (after : S → S) (x : S) (made : List CreateResult) (jobs : List Job) (m : Run) (all : List JobState) (list : List ℕ) → IsBegun jobs m → IsBetween made jobs m all list
    → ComesOn answer after x m made jobs m all list x
comes_begun answer after x made jobs m all list begun between = record {
  between = between;
  origin = refl;
  picked = nothing_picked answer after x m.origin m.history begun.empty;
  picker = subst (λ (es : List Entry). x ≡ after_picks after (length es) x) (sym begun.empty) refl;
}

-- who is at the place of the next pick is the one that it chooses
next_chosen : {S : Type 0} (answer : S → ℕ) (after : S → S) (x : S) (m : Run) (list : List ℕ) (y : S) (place p : ℕ) → list ≡ ready_list m.state → y ≡ after_picks after (length m.history) x → place ≡ answer y % length list
    → slice_get list place ≡ Some p → chosen m.state (answer (after_picks after (length m.history) x)) ≡ Some p
next_chosen answer after x m list y place p listed picker at by =
    subst (λ n. chosen m.state n ≡ Some p) (ap answer picker)
    (subst (λ (qs : List ℕ). slice_get qs (answer y % length qs) ≡ Some p) listed
    (subst (λ i. slice_get list i ≡ Some p) at by))

-- one entry more
picked_added : {S : Type 0} (answer : S → ℕ) (after : S → S) (x : S) (m m' : Run) (e : Entry) → IsSound m → Picked (picks_of answer after (length m.history) x) m.origin m.history
    → chosen m.state (answer (after_picks after (length m.history) x)) ≡ Some e.process → m'.origin ≡ m.origin → m'.history ≡ m.history ++ e ∷ [] → Picked (picks_of answer after (length m'.history) x) m'.origin m'.history
picked_added answer after x m m' e sound picked by origin added =
    subst (λ (s : State). Picked (picks_of answer after (length m'.history) x) s m'.history) (sym origin)
    (subst (λ (es : List Entry). Picked (picks_of answer after (length es) x) m.origin es) (sym added) (picked_more answer after x m.origin [] m.history m.state e sound.legal picked by))

pub comes_on : {S : Type 0} (answer : S → ℕ) (after : S → S) (x : S) (first : Run) (made : List CreateResult) (jobs : List Job) (m : Run) (all : List JobState) (list : List ℕ) (y : S) (place : ℕ) (m' : Run)
    (all' : List JobState) (list' : List ℕ) → ComesOn answer after x first made jobs m all list y → place ≡ answer y % length list → WentOn made jobs m all list place m' all' list'
    → ComesOn answer after x first made jobs m' all' list' (after y)
comes_on answer after x first made jobs m all list y place m' all' list' comes at went =
    let by = next_chosen answer after x m list y place went.entry.process comes.between.ready comes.picker at went.by in
    record {
      between = went.between;
      origin = went.origin ∙ comes.origin;
      picked = picked_added answer after x m m' went.entry comes.between.sound comes.picked by went.origin went.added;
      picker = ap after comes.picker ∙ sym (after_one_more after x m.history went.entry) ∙ ap (λ (es : List Entry). after_picks after (length es) x) (sym went.added);
    }

pub ran_so_far : {S : Type 0} (answer : S → ℕ) (after : S → S) (x : S) (first : Run) (made : List CreateResult) (jobs : List Job) (m : Run) (all : List JobState) (list : List ℕ) (y : S) → ComesOn answer after x first made jobs m all list y
    → RanSoFar answer after x made jobs first m
ran_so_far answer after x first made jobs m all list y comes = record { origin = comes.origin; picked = comes.picked; by_program = all_by_program made jobs m all list comes.between }

-- the last turn was broken off
pub ran_off : {S : Type 0} (answer : S → ℕ) (after : S → S) (x : S) (first : Run) (made : List CreateResult) (jobs : List Job) (m : Run) (all : List JobState) (list : List ℕ) (y : S) (place : ℕ) (m' : Run)
    → ComesOn answer after x first made jobs m all list y → place ≡ answer y % length list → CameOff made jobs m list place m' → RanSoFar answer after x made jobs first m'
ran_off answer after x first made jobs m all list y place m' comes at off = record {
  origin = off.origin ∙ comes.origin;
  picked = elim off.history as (λ _. Picked (picks_of answer after (length m'.history) x) m'.origin m'.history) [
    | inl same ↦ subst (λ (s : State). Picked (picks_of answer after (length m'.history) x) s m'.history) (sym off.origin)
        (subst (λ (es : List Entry). Picked (picks_of answer after (length es) x) m.origin es) (sym same) comes.picked)
    | inr more ↦ picked_added answer after x m m' more.entry comes.between.sound comes.picked
        (next_chosen answer after x m list y place more.entry.process comes.between.ready comes.picker at more.by) off.origin more.added
  ];
  by_program = off.by_program;
}

-- each job is over
pub is_over : {S : Type 0} (answer : S → ℕ) (after : S → S) (x : S) (first : Run) (made : List CreateResult) (jobs : List Job) (m : Run) (all : List JobState) (list : List ℕ) (y : S) → ComesOn answer after x first made jobs m all list y
    → list ≡ [] → IsOver after x y made jobs m
is_over answer after x first made jobs m all list y comes none = record { sound = comes.between.sound; picker = comes.picker; ran = between_none made jobs m all list comes.between none }

-- the machine stopped at the last turn
pub has_halted : {S : Type 0} (answer : S → ℕ) (after : S → S) (x : S) (first : Run) (made : List CreateResult) (jobs : List Job) (m : Run) (all : List JobState) (list : List ℕ) (y : S) (place : ℕ) (m' : Run) (call : Option (ℕ × Event))
    → ComesOn answer after x first made jobs m all list y → place ≡ answer y % length list → CameToHalt made jobs m list place m' call → HasHalted answer after x made jobs m' call
has_halted answer after x first made jobs m all list y place m' call comes at halt = record {
  process = halt.process;
  event = halt.event;
  is = halt.is;
  state = m.state;
  led = subst (λ (s : State). Leads s [] m'.history m.state) (sym halt.same.origin) (subst (λ (es : List Entry). Leads m.origin [] es m.state) (sym halt.same.history) comes.between.sound.legal);
  picked = subst (λ (es : List Entry). chosen m.state (answer (after_picks after (length es) x)) ≡ Some halt.process) (sym halt.same.history)
      (next_chosen answer after x m list y place halt.process comes.between.ready comes.picker at halt.by);
  asks = λ job one job_at one_at.
      subst (λ (es : List Entry). event_of (process_after (fresh one job.budget) (entries_of halt.process es)) ≡ Some halt.event) (sym halt.same.history) (halt.asks job one job_at one_at);
}

-- a list is empty where its length is told to be none
pub told_empty : (xs : List ℕ) (n : ℕ) (b : Bool) → b ≡ (n == 0) → n ≡ length xs → b ≡ true → xs ≡ []
told_empty [] n b test count is = refl
told_empty (x ∷ xs) n b test count is = absurd (grind (arith, nat_tests))
