-- From one turn to the next.
use Rattle.std.proofs.Common.{◌≡◌, ◌≢◌, ℕ, ◌+◌, ◌-◌, ◌<◌, ◌≤◌, Bool, true, false, List, [], ◌∷◌, ◌++◌, length, inl, inr, refl, sym, ◌∙◌, ap, subst, arith, length-set}
use Rattle.std.specs.Prelude.{Option, Some, slice_get, slice_set}
use Rattle.s38_code.specs.declared.deck.Job.{Job}
use Rattle.s38_code.specs.declared.event.Event.{Event}
use Rattle.s38_code.specs.declared.made.CreateResult.{CreateResult}
use Rattle.s38_code.specs.History.{entries_of}
use Rattle.s38_rules.specs.declared.process.ProcessEntry.{ProcessEntry}
use Rattle.s38_rules.specs.step.Legal.{IsProcess, Run, after}
use Rattle.s38_rules.specs.state.State.{ready, ready_list, waits}
use Rattle.s38_rules.specs.step.Step.{step}
use Rattle.s38_rules.proofs.Laws.{sound_after}
use Rattle.s38_process.specs.declared.status.Status.TheVariants.{Ended}
use Rattle.s38_process.specs.Process.{event_of, fresh}
use Rattle.s38_process.specs.AfterReply.{process_after}
use Rattle.s38_run.specs.declared.job_state.JobState.{JobState}
use Rattle.s38_run.specs.declared.outcome.Outcome.{Outcome}
use Rattle.s38_run.specs.Running.{AskedSoFar, CameOff, CameToHalt, EachAskedSoFar, IsBetween, WentOn}
use Rattle.s38_run.specs.Turns.{BrokeOff, IsAsBefore, TookTurn, WasAnswered, WasStopped, doing, job_after, outcome_of, ready_after}
use Rattle.s38_run.specs.Whole.{AllByProgram}
use Rattle.s38_run.proofs.ReadyLaws.{ready_few, same_ended}
use Rattle.s38_run.proofs.Running.{entries_other, entries_own, history_more, origin_after}
use Rattle.s38_run.proofs.Stepping.{GoesTo, goes}
use Rattle.s38_run.proofs.ReadyAfterTurn.{anyone, ready_on, awake_on}
use Rattle.s38_run.proofs.TurnsFall.{turns_fall}
use Rattle.s38_run.proofs.JobTurn.{when_false, stands_on}
use Rattle.s38_run.proofs.ListedJobs.{at_get, same_place, set_there, set_elsewhere, some_same, same_or_not, there_is, ready_open, AtJob, AtTurn, state_then, entry_then, is_listed, processes_count, all_by_program}

-- ---- all jobs

module _ (made : List CreateResult) (jobs : List Job) (m : Run) (all : List JobState) (was : List ℕ) (place p : ℕ) (job : Job) (one : CreateResult) (state : JobState) (e : Event) (mark : ℕ) (later : m.moment ≤ mark)
    (turn : AtTurn made jobs m all was place p job one state e) where
  listed : (ready m.state p ≡ true) × IsProcess m.state p
  listed = is_listed made jobs m all was place p turn.at.between turn.at.listed

  within : p - 1 < length m.state.processes
  within = omega (arith, listed.1.first, listed.1.last)

  to : GoesTo m.state p e (step m.state p e)
  to = goes m.state p e within listed.0

  old : (x : ProcessEntry) × (slice_get m.state.processes (p - 1) ≡ Some x)
  old = there_is m.state.processes (p - 1) within

  opened_yet : old.0.ended ≡ false
  opened_yet = ready_open m.state p old.0 old.1 listed.0

  index : p - 1 + 1 ≡ p
  index = omega (arith, listed.1.first)

  own_stood : AskedSoFar one job.budget old.0.ended (entries_of p m.history) state
  own_stood =
      subst (λ i. AskedSoFar one job.budget old.0.ended (entries_of i m.history) state) index
      (turn.at.between.each.each (p - 1) old.0 job one state old.1 turn.at.job_at turn.at.one_at turn.at.state_at)

  own_stands : (x : ProcessEntry) → slice_get (step m.state p e).state.processes (p - 1) ≡ Some x → AskedSoFar one job.budget x.ended (entries_of p (m.history ++ entry_then m p e ∷ [])) (state_then m p job one state e)
  own_stands x x_at =
      subst (λ es. AskedSoFar one job.budget x.ended es (state_then m p job one state e)) (sym (entries_own p m.history (entry_then m p e) refl))
      (stands_on one job.budget state old.0.ended x.ended (entries_of p m.history) (entry_then m p e) own_stood opened_yet turn.asks
      (λ f. sym (ap (λ (y : ProcessEntry). y.ended) (at_get (step m.state p e).state.processes (p - 1) x x_at)) ∙ (to.ended f).0.is x)
      (λ f. same_ended m.state.processes (step m.state p e).state.processes (p - 1) old.0 x (to.same f) old.1 x_at ∙ opened_yet))

  stands_then : (k : ℕ) (x : ProcessEntry) (j : Job) (o : CreateResult) (s : JobState) → slice_get (step m.state p e).state.processes k ≡ Some x → slice_get jobs k ≡ Some j → slice_get made k ≡ Some o
      → slice_get (slice_set all (p - 1) (state_then m p job one state e)) k ≡ Some s → AskedSoFar o j.budget x.ended (entries_of (k + 1) (m.history ++ entry_then m p e ∷ [])) s
  stands_then k x j o s x_at j_at o_at s_at = elim (same_or_not k (p - 1)) as (λ _. AskedSoFar o j.budget x.ended (entries_of (k + 1) (m.history ++ entry_then m p e ∷ [])) s) [
    | inl is ↦
        let number : k + 1 ≡ p = omega (arith, is, index) in
        let same_job : job ≡ j = some_same (slice_get jobs k) job j (ap (slice_get jobs) is ∙ turn.at.job_at) j_at in
        let same_one : one ≡ o = some_same (slice_get made k) one o (ap (slice_get made) is ∙ turn.at.one_at) o_at in
        let same_state : state_then m p job one state e ≡ s =
        some_same (slice_get (slice_set all (p - 1) (state_then m p job one state e)) k) (state_then m p job one state e) s
        (ap (slice_get (slice_set all (p - 1) (state_then m p job one state e))) is ∙ set_there all (p - 1) state (state_then m p job one state e) turn.at.state_at) s_at in
        let here = own_stands x (ap (slice_get (step m.state p e).state.processes) (sym is) ∙ x_at) in
        subst (λ i. AskedSoFar o j.budget x.ended (entries_of i (m.history ++ entry_then m p e ∷ [])) s) (sym number)
        (subst (λ (y : JobState). AskedSoFar o j.budget x.ended (entries_of p (m.history ++ entry_then m p e ∷ [])) y) same_state
        (subst (λ (y : CreateResult). AskedSoFar y j.budget x.ended (entries_of p (m.history ++ entry_then m p e ∷ [])) (state_then m p job one state e)) same_one
        (subst (λ (y : Job). AskedSoFar one y.budget x.ended (entries_of p (m.history ++ entry_then m p e ∷ [])) (state_then m p job one state e)) same_job here)))
    | inr ne ↦
        subst (λ es. AskedSoFar o j.budget x.ended es s) (sym (entries_other (k + 1) m.history (entry_then m p e) (λ g. ne (omega (arith, g)))))
        (turn.at.between.each.each k x j o s (same_place m.state.processes (step m.state p e).state.processes (p - 1) k x to.stay ne x_at) j_at o_at
        (set_elsewhere all (p - 1) k s (state_then m p job one state e) ne s_at))
  ]

  each_then : EachAskedSoFar made jobs (after m mark p e) (slice_set all (p - 1) (state_then m p job one state e))
  unfolding after
  each_then = record {
    each = λ k x j o s x_at j_at o_at s_at.
        subst (λ es. AskedSoFar o j.budget x.ended (entries_of (k + 1) es) s) (sym (history_more m mark p e to.entered)) (stands_then k x j o s x_at j_at o_at s_at);
  }

  list_then : ready_after (step m.state p e).state p (anyone m.state.waiting) (outcome_of e (step m.state p e).reply) was ≡ ready_list (step m.state p e).state
  list_then = ready_on m.state p e was turn.at.between.ready to

  count_then : length (step m.state p e).state.processes ≡ length jobs
  count_then = to.stay.count ∙ processes_count made jobs m all was turn.at.between

  between_then : IsBetween made jobs (after m mark p e) (slice_set all (p - 1) (state_then m p job one state e))
      (ready_after (step m.state p e).state p (anyone m.state.waiting) (outcome_of e (step m.state p e).reply) was)
  unfolding after
  between_then = record {
    sound = sound_after m mark p e turn.at.between.sound (record { first = listed.1.first; last = omega (arith, listed.1.last, turn.at.between.sound.kept) }) later;
    opened = turn.at.between.opened;
    count_made = turn.at.between.count_made;
    count_states = simp length-set turn.at.between.count_states;
    ready = list_then;
    awake = awake_on m.state (step m.state p e).state p (step m.state p e).reply to.moves turn.at.between.awake;
    each = each_then;
  }

  went_then : WentOn made jobs m all was place (after m mark p e) (slice_set all (p - 1) (state_then m p job one state e))
      (ready_after (step m.state p e).state p (anyone m.state.waiting) (outcome_of e (step m.state p e).reply) was)
  went_then = record {
    between = between_then;
    origin = origin_after m mark p e;
    entry = entry_then m p e;
    added = history_more m mark p e to.entered;
    by = turn.at.listed;
    fewer = turns_fall one jobs all (p - 1) job state (step m.state p e).state p (anyone m.state.waiting) e (step m.state p e).reply was place turn.at.job_at turn.at.state_at turn.asks
        (λ f. (to.ended f).1) turn.at.listed (omega (arith, ap (λ (qs : List ℕ). length qs) list_then, ready_few (step m.state p e).state, count_then));
  }

module _ {made : List CreateResult} {jobs : List Job} {m : Run} {all : List JobState} {was : List ℕ} {place p : ℕ} {job : Job} {one : CreateResult} {state : JobState} (at : AtJob made jobs m all was place p job one state) where
  at_turn : (e : Event) → event_of (doing one job.budget state) ≡ Some e → AtTurn made jobs m all was place p job one state e
  at_turn e asks = record { at = at; asks = asks }

  -- a process that is listed has not ended, and is where its entries have brought it
  stands_open : (process_after (fresh one job.budget) (entries_of p m.history) ≡ doing one job.budget state) × ((doing one job.budget state).status ≢ Ended)
  stands_open =
      let is = is_listed made jobs m all was place p at.between at.listed in
      let old = there_is m.state.processes (p - 1) (omega (arith, is.1.first, is.1.last)) in
      let index : p - 1 + 1 ≡ p = omega (arith, is.1.first) in
      when_false old.0.ended _ _ (ready_open m.state p old.0 old.1 is.0)
      (subst (λ i. AskedSoFar one job.budget old.0.ended (entries_of i m.history) state) index (at.between.each.each (p - 1) old.0 job one state old.1 at.job_at at.one_at at.state_at)).is

  -- what a turn is allowed on
  pub going : (doing one job.budget state).status ≢ Ended
  going = stands_open.1

  pub may_ask : IsProcess m.origin p
  may_ask =
      let is = (is_listed made jobs m all was place p at.between at.listed).1 in
      record { first = is.first; last = omega (arith, is.last, at.between.sound.kept) }

  -- a job took its turn, so all went on
  went_on : (o : Outcome) (m' : Run) (state' : JobState) (now : List ℕ) → TookTurn p one job.budget m state o m' state' → now ≡ ready_after m'.state p (anyone m.state.waiting) o was
      → WentOn made jobs m all was place m' (slice_set all (p - 1) state') now
  unfolding after
  went_on o m' state' now took now_is =
      let e = took.turned.event in
      let went = went_then made jobs m all was place p job one state e m'.moment took.turned.later (at_turn e took.turned.asks) in
      let state_is : state' ≡ state_then m p job one state e =
      took.state ∙ ap (λ x. job_after x took.process) took.turned.outcome ∙ ap (job_after (outcome_of e (step m.state p e).reply)) took.turned.process in
      let list_is : now ≡ ready_after (step m.state p e).state p (anyone m.state.waiting) (outcome_of e (step m.state p e).reply) was =
      now_is ∙ ap (λ (n : Run). ready_after n.state p (anyone m.state.waiting) o was) took.turned.machine
      ∙ ap (λ x. ready_after (step m.state p e).state p (anyone m.state.waiting) x was) took.turned.outcome in
      subst (λ (n : Run). WentOn made jobs m all was place n (slice_set all (p - 1) state') now) (sym took.turned.machine)
      (subst (λ (xs : List JobState). WentOn made jobs m all was place (after m m'.moment p e) xs now) (sym (ap (slice_set all (p - 1)) state_is))
      (subst (λ (qs : List ℕ). WentOn made jobs m all was place (after m m'.moment p e) (slice_set all (p - 1) (state_then m p job one state e)) qs) (sym list_is) went))

  -- the machine has as many processes as before
  pub took_count : (o : Outcome) (m' : Run) (state' : JobState) → TookTurn p one job.budget m state o m' state' → length m'.state.processes ≡ length jobs
  unfolding after
  took_count o m' state' took =
      ap (λ (n : Run). length n.state.processes) took.turned.machine
      ∙ count_then made jobs m all was place p job one state took.turned.event m'.moment took.turned.later (at_turn took.turned.event took.turned.asks)

  -- where who is ready was listed anew
  pub went_listed : (o : Outcome) (m' : Run) (state' : JobState) (waited : Bool) (now : List ℕ) → TookTurn p one job.budget m state o m' state' → waited ≡ anyone m.state.waiting
      → now ≡ ready_after m'.state p waited o was → WentOn made jobs m all was place m' (slice_set all (p - 1) state') now
  went_listed o m' state' waited now took waits is = went_on o m' state' now took (is ∙ ap (λ b. ready_after m'.state p b o was) waits)

  -- ---- a turn that was broken off

  -- nothing was entered
  off_before : (m' : Run) → IsAsBefore m m' → CameOff made jobs m was place m'
  off_before m' same = record {
    origin = same.origin;
    by_program = subst (AllByProgram made jobs) (sym same.history) (all_by_program made jobs m all was at.between);
    history = inl same.history;
  }

  -- it went on, but for who is ready
  off_went : (m' : Run) (all' : List JobState) (now : List ℕ) → WentOn made jobs m all was place m' all' now → CameOff made jobs m was place m'
  off_went m' all' now went = record {
    origin = went.origin;
    by_program = all_by_program made jobs m' all' now went.between;
    history = inr (record { entry = went.entry; added = went.added; by = went.by });
  }

  -- what the process asks was answered
  off_answered : (m' : Run) → WasAnswered p m (doing one job.budget state) m' → CameOff made jobs m was place m'
  off_answered m' answered =
      subst (CameOff made jobs m was place) (sym answered.machine)
      (off_went _ _ _ (went_then made jobs m all was place p job one state answered.event m'.moment answered.later (at_turn answered.event answered.asks)))

  pub came_off : (m' : Run) → BrokeOff p m (doing one job.budget state) m' → CameOff made jobs m was place m'
  came_off m' broke = elim broke as (λ _. CameOff made jobs m was place m') [
    | inl same ↦ off_before m' same
    | inr answered ↦ off_answered m' answered
  ]

  -- who is ready then could not be listed
  pub came_off_after : (o : Outcome) (m' : Run) (state' : JobState) → TookTurn p one job.budget m state o m' state' → CameOff made jobs m was place m'
  came_off_after o m' state' took =
      off_went m' (slice_set all (p - 1) state') (ready_after m'.state p (anyone m.state.waiting) o was) (went_on o m' state' (ready_after m'.state p (anyone m.state.waiting) o was) took refl)

  -- the machine stopped
  pub came_to_halt : (m' : Run) (call : Option (ℕ × Event)) → WasStopped p m (doing one job.budget state) m' call → CameToHalt made jobs m was place m' call
  came_to_halt m' call stopped = record {
    same = stopped.same;
    process = p;
    event = stopped.event;
    is = stopped.is;
    by = at.listed;
    asks = λ j o j_at o_at.
        let same_job : job ≡ j = some_same (slice_get jobs (p - 1)) job j at.job_at j_at in
        let same_one : one ≡ o = some_same (slice_get made (p - 1)) one o at.one_at o_at in
        subst (λ (y : Job). event_of (process_after (fresh o y.budget) (entries_of p m.history)) ≡ Some stopped.event) same_job
        (subst (λ (y : CreateResult). event_of (process_after (fresh y job.budget) (entries_of p m.history)) ≡ Some stopped.event) same_one
        (ap event_of stands_open.0 ∙ stopped.asks));
  }
