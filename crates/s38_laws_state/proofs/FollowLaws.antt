-- A run by jobs: each process has come as far as its program asks next, so its events come from where they may.
use Rattle.std.proofs.Common.{◌+◌, ◌++◌, ◌-◌, ◌<◌, ◌≤◌, ◌==◌, ◌∙◌, ◌∷◌, ◌≡◌, ◌⊎◌, Bool, List, [], ap, arith, cond, false, inl, inr, not, refl, subst, suc, sym, true, zero, length, ℕ}
use Rattle.std.proofs.lemmas.Bool.Decides.{nat_tests}
use Rattle.std.proofs.lemmas.List.{length-map}
use Rattle.std.proofs.lemmas.List.Elements.{All-nil}
use Rattle.std.specs.Prelude.{None, Option, Some, nat_le, slice_get}
use Rattle.s38_code.specs.History.{entries_of}
use Rattle.s38_code.specs.declared.deck.Job.{Job}
use Rattle.s38_code.specs.declared.entry.Entry.{Entry}
use Rattle.s38_code.specs.declared.event.EndCause.{EndCause}
use Rattle.s38_code.specs.declared.event.Event.TheVariants.{Act, Finish, Start}
use Rattle.s38_code.specs.declared.event.Event.{Event}
use Rattle.s38_code.specs.declared.event.EndCause.TheVariants as causes
use Rattle.s38_code.specs.declared.event.Request.{Request}
use Rattle.s38_code.specs.declared.made.CheckedTemplate.{CheckedTemplate}
use Rattle.s38_code.specs.declared.made.CreateResult.TheVariants.{Created, Refused}
use Rattle.s38_code.specs.declared.made.CreateResult.{CreateResult}
use Rattle.s38_code.specs.declared.program.Instruction.{Instruction}
use Rattle.s38_code.specs.declared.reply.Reply.{Reply}
use Rattle.s38_laws_units.proofs.UnitLaws.{rising_none}
use Rattle.s38_process.proofs.Alone.{Moves, settled_later, settled_still}
use Rattle.s38_process.specs.Exceptions.{offered}
use Rattle.s38_process.specs.Invocations.{instruction_of}
use Rattle.s38_process.specs.Process.{ProcessState, act_of, acts, asks, event_of, fresh, is_return, returns, signal_status}
use Rattle.s38_process.specs.AfterReply.{RanFrom, absorbed, after_asked, after_end, after_event, begun_by, ends_by_finish, is_finish}
use Rattle.s38_process.specs.LocalRun.{after_local_run, alone_by}
use Rattle.s38_process.specs.declared.status.Status.TheVariants.{Ended, Ending, Fresh, Running}
use Rattle.s38_process.specs.declared.status.Status.{Status}
use Rattle.s38_rules.proofs.RoomLaws.{end_permitted}
use Rattle.s38_rules.proofs.Laws.{all_decommitted_keeps, step_keeps}
use Rattle.s38_rules.proofs.StoreLaws.{stored_beside}
use Rattle.s38_laws_processes.specs.owners.Beginnings.{state_over}
use Rattle.s38_rules.specs.store.Room.{Room}
use Rattle.s38_rules.specs.step.Effect.{effect_of, end_at, start_at}
use Rattle.s38_rules.specs.state.Held.{Held}
use Rattle.s38_rules.specs.step.Legal.{Leads}
use Rattle.s38_rules.specs.families.Locking.{is_going_in}
use Rattle.s38_rules.specs.state.Opening.{process_entries}
use Rattle.s38_rules.specs.state.State.{State, process_entry, waits}
use Rattle.s38_rules.specs.step.Step.{awake_verdict, by_verdict, by_waiting, step}
use Rattle.s38_rules.specs.families.Units.{all_decommitted}
use Rattle.s38_rules.specs.declared.process.ProcessEntry.{ProcessEntry}
use Rattle.s38_rules.specs.declared.verdict.Verdict.TheVariants.{Permit, Refuse, Wait}
use Rattle.s38_rules.specs.declared.verdict.Verdict.{Verdict}
use Rattle.s38_laws_state.proofs.LiveLaws.{Lives, is_live, lives_from, step_lives}
use Rattle.s38_laws_state.proofs.StatusLaws.{Spares, effect_agrees, set_here, status_agrees}
use Rattle.s38_laws_state.specs.Live.{AreHeld, AreRunByJobs, AreWholeRuns, ComesFrom, IsLive, IsOfLiving, MayWait, is_open_in}
use Rattle.s38_rules.specs.step.Histories.{Throughout}

-- ---- what a process asks

-- a fresh process asks to start, a running one for an instruction, and either or another for its end
abbrev Asks : ProcessState → Event → Type 0
Asks d e = ((d.status ≡ Fresh) × (e ≡ Start)) ⊎ (((c : EndCause) × (e ≡ Finish c)) ⊎ ((d.status ≡ Running) × ((n : ℕ) × ((q : Request) × (e ≡ Act n q)))))

of_act : (d : ProcessState) (b : Bool) (i : Instruction) (e : Event) → d.status ≡ Running → cond b (returns d) (act_of d.stack i) ≡ e → Asks d e
of_act d true i e running h = inr (inl (_, sym h))
of_act d false i e running h = inr (inr (running, (_, (_, sym h))))

of_next : (d : ProcessState) (i : Option Instruction) (e : Event) → d.status ≡ Running → acts d i ≡ e → Asks d e
of_next d None e running h = inr (inl (_, sym h))
of_next d (Some i) e running h = of_act d (is_return i.op) i e running h

of_runs : (d : ProcessState) (b : Bool) (e : Event) → d.status ≡ Running → cond b (Finish causes.Budget) (acts d (instruction_of d.stack.top)) ≡ e → Asks d e
of_runs d true e running h = inr (inl (_, sym h))
of_runs d false e running h = of_next d _ e running h

some_is : (a b : Event) → Some a ≡ Some b → a ≡ b
some_is a b h = cc

of_status : (d : ProcessState) (status : Status) (e : Event) → d.status ≡ status → asks d status ≡ Some e → Asks d e
of_status d Fresh e is h = inl (is, sym (some_is _ _ h))
of_status d Running e is h = of_runs d (nat_le d.budget d.done) e is (some_is _ _ h)
of_status d (Ending c) e is h = inr (inl (c, sym (some_is _ _ h)))
of_status d Ended e is h = cc

asking : (d : ProcessState) (e : Event) → event_of d ≡ Some e → Asks d e
unfolding event_of
asking d e h = of_status d d.status e refl h

-- how it goes on is by what it asked
absorbed_by : (d : ProcessState) (e : Event) (r : Reply) → event_of d ≡ Some e → absorbed d r ≡ after_local_run (after_event d e r)
unfolding absorbed
absorbed_by d e r h = ap (λ o. after_local_run (after_asked d o r)) h

-- ---- a step of a process that asks

-- what is entered is by the verdict
entered_is : (s : State) (p : ℕ) (e : Event) → (step s p e).enters ≡ true → step s p e ≡ by_verdict s p e (awake_verdict s p e)
unfolding step
entered_is s p e enters = by (waits s p) enters
  where
    by : (b : Bool) → (by_waiting b s p e).enters ≡ true → by_waiting b s p e ≡ by_verdict s p e (awake_verdict s p e)
    by true h = cc
    by false h = refl

-- local instructions ask for nothing that a process has not
moved_stands : (a b : Status) (x : Option ProcessEntry) → Moves a b → status_agrees a x ≡ true → status_agrees b x ≡ true
moved_stands a b x (inl same) stands = subst (λ (c : Status). status_agrees c x ≡ true) (sym same) stands
moved_stands a b x (inr ends) stands = subst (λ (c : Status). status_agrees c x ≡ true) (sym ends.1.1) refl

-- what is asked comes from where it may
comes_from : (d : ProcessState) (s : State) (p : ℕ) (e : Event) → 0 < p → event_of d ≡ Some e → status_agrees d.status (process_entry s p) ≡ true → ComesFrom s.processes p e
comes_from d s p e first asks stands = by (asking d e asks)
  where
    by : Asks d e → ComesFrom s.processes p e
    by (inl starts) = subst (ComesFrom s.processes p) (sym starts.1) (subst (λ (c : Status). status_agrees c (process_entry s p) ≡ true) starts.0 stands)
    by (inr (inl ends)) = subst (ComesFrom s.processes p) (sym ends.1) tt
    by (inr (inr acts)) = subst (ComesFrom s.processes p) (sym acts.1.1.1) (record { first = first; going = subst (λ (c : Status). status_agrees c (process_entry s p) ≡ true) acts.0 stands })

-- ---- after its event, by the verdict

module _ (s : State) (p : ℕ) where
  -- the state of the process after an outcome of its event
  abbrev AgreesAfter : ProcessState → Event → Verdict → Type 0
  AgreesAfter d e v = status_agrees (after_event d e (by_verdict s p e v).reply).status (process_entry (by_verdict s p e v).state p) ≡ true

  stored_stands : (e : Event) (status : Status) → status_agrees status (process_entry (effect_of s p e).state p) ≡ true → status_agrees status (process_entry (by_verdict s p e Permit).state p) ≡ true
  stored_stands e status stands =
      subst (λ (xs : List ProcessEntry). status_agrees status (slice_get xs (p - 1)) ≡ true) (sym (stored_beside s p e (effect_of s p e).state).processes) stands

  started_stands : (made : CreateResult) (x : Option ProcessEntry) → process_entry s p ≡ x → is_open_in x ≡ true → status_agrees (begun_by made) (process_entry (start_at s p x) p) ≡ true
  started_stands (Refused id number) x there going = refl
  started_stands (Created program) None there going = cc
  started_stands (Created program) (Some x) there going = subst (λ o. is_going_in o ≡ true) (sym (set_here s.processes (p - 1) x _ there)) going

  start_behind : (d : ProcessState) (v : Verdict) → d.status ≡ Fresh → is_open_in (process_entry s p) ≡ true → AgreesAfter d Start v
  unfolding effect_of
  start_behind d Permit fresh going = stored_stands Start (begun_by d.stack.top.made) (started_stands d.stack.top.made (process_entry s p) refl going)
  start_behind d Wait fresh going = subst (λ (c : Status). status_agrees c (process_entry s p) ≡ true) (sym fresh) going
  start_behind d (Refuse x) fresh going = refl

  act_behind : (d : ProcessState) (n : ℕ) (q : _) (v : Verdict) → d.status ≡ Running → is_going_in (process_entry s p) ≡ true → AgreesAfter d (Act n q) v
  act_behind d n q Permit running going = subst (λ (c : Status). status_agrees c (process_entry (by_verdict s p (Act n q) Permit).state p) ≡ true) (sym running)
      (stored_stands (Act n q) Running (effect_agrees s p (Act n q) (p - 1) Running tt going))
  act_behind d n q Wait running going = subst (λ (c : Status). status_agrees c (process_entry s p) ≡ true) (sym running) going
  act_behind d n q (Refuse x) running going = by (offered x.id d.stack).taken
    where
      by : (taken : Bool) → status_agrees (signal_status d x.id taken) (process_entry s p) ≡ true
      by true = subst (λ (c : Status). status_agrees c (process_entry s p) ≡ true) (sym running) going
      by false = refl

  ended_here : (x : Option ProcessEntry) → process_entry s p ≡ x → not (is_open_in (process_entry (end_at s p x) p)) ≡ true
  ended_here None there = ap (λ o. not (is_open_in o)) there
  ended_here (Some x) there =
      ap (λ o. not (is_open_in o)) (set_here (all_decommitted s p s.units).processes (p - 1) x (record x { ended = true }) (ap (λ (l : List ProcessEntry). slice_get l (p - 1)) (all_decommitted_keeps s.units s p) ∙ there))

  finish_behind : (d : ProcessState) (cause : EndCause) (v : Verdict) → v ≡ Permit → AgreesAfter d (Finish cause) v
  unfolding effect_of
  finish_behind d cause Permit is = stored_stands (Finish cause) Ended (ended_here (process_entry s p) refl)
  finish_behind d cause Wait is = cc
  finish_behind d cause (Refuse x) is = cc

  own_behind : (d : ProcessState) (e : Event) → event_of d ≡ Some e → status_agrees d.status (process_entry s p) ≡ true → AgreesAfter d e (awake_verdict s p e)
  own_behind d e asks stands = by (asking d e asks)
    where
      now : {status : Status} → d.status ≡ status → status_agrees status (process_entry s p) ≡ true
      now is = subst (λ (c : Status). status_agrees c (process_entry s p) ≡ true) is stands

      by : Asks d e → AgreesAfter d e (awake_verdict s p e)
      by (inl starts) = subst (λ (f : Event). AgreesAfter d f (awake_verdict s p f)) (sym starts.1) (start_behind d (awake_verdict s p Start) starts.0 (now starts.0))
      by (inr (inl ends)) =
          subst (λ (f : Event). AgreesAfter d f (awake_verdict s p f)) (sym ends.1) (finish_behind d ends.0 (awake_verdict s p (Finish ends.0)) (end_permitted s p ends.0))
      by (inr (inr acts)) =
          subst (λ (f : Event). AgreesAfter d f (awake_verdict s p f)) (sym acts.1.1.1) (act_behind d acts.1.0 acts.1.1.0 (awake_verdict s p (Act acts.1.0 acts.1.1.0)) acts.0 (now acts.0))

-- the process that asked goes on as it is then
own_next : (s : State) (p : ℕ) (e : Event) (d : ProcessState) (r : Reply) → (step s p e).enters ≡ true → (step s p e).reply ≡ r → event_of d ≡ Some e → status_agrees d.status (process_entry s p) ≡ true
    → status_agrees (absorbed d r).status (process_entry (step s p e).state p) ≡ true
own_next s p e d r enters reply asks stands =
    let is = entered_is s p e enters in
    let answered : (by_verdict s p e (awake_verdict s p e)).reply ≡ r = ap (λ x. x.reply) (sym is) ∙ reply in
    let behind = subst (λ (y : Reply). status_agrees (after_event d e y).status (process_entry (by_verdict s p e (awake_verdict s p e)).state p) ≡ true) answered (own_behind s p d e asks stands) in
    let there = subst (λ x. status_agrees (after_event d e r).status (process_entry x.state p) ≡ true) (sym is) behind in
    subst (λ (x : ProcessState). status_agrees x.status (process_entry (step s p e).state p) ≡ true) (sym (absorbed_by d e r asks))
    (moved_stands (after_event d e r).status (after_local_run (after_event d e r)).status (process_entry (step s p e).state p) (settled_later (after_event d e r)).status there)

-- the others are as they were
other_behind : (s : State) (p : ℕ) (e : Event) (v : Verdict) (j : ℕ) (status : Status) → Spares p j e → status_agrees status (slice_get s.processes j) ≡ true
    → status_agrees status (slice_get (by_verdict s p e v).state.processes j) ≡ true
other_behind s p e Permit j status spared stands =
    subst (λ (xs : List ProcessEntry). status_agrees status (slice_get xs j) ≡ true) (sym (stored_beside s p e (effect_of s p e).state).processes) (effect_agrees s p e j status spared stands)
other_behind s p e Wait j status spared stands = stands
other_behind s p e (Refuse x) j status spared stands = stands

other_next : (s : State) (p : ℕ) (e : Event) (j : ℕ) (status : Status) → Spares p j e → status_agrees status (slice_get s.processes j) ≡ true
    → status_agrees status (slice_get (step s p e).state.processes j) ≡ true
unfolding step
other_next s p e j status spared stands = by (waits s p)
  where
    by : (b : Bool) → status_agrees status (slice_get (by_waiting b s p e).state.processes j) ≡ true
    by true = stands
    by false = other_behind s p e (awake_verdict s p e) j status spared stands

-- ---- all processes

-- a process of the machine has come so far, and its entries are what it asks from there; where its run is whole, they end
-- with its end, or it has come to that
pub record Follows (whole : Bool) (s : State) (p : ℕ) (es : List Entry) : Type 0 where
  pub process : ProcessState
  pub stands : status_agrees process.status (process_entry s p) ≡ true
  pub runs : RanFrom process (entries_of p es)
  pub ends : whole ≡ true → (ends_by_finish (entries_of p es) ≡ true) ⊎ (process.status ≡ Ended)

abbrev pub AllFollow : Bool → State → List Entry → Type 0
AllFollow whole s es = (p : ℕ) → 0 < p → p ≤ length s.processes → Follows whole s p es

spares_other : (p q : ℕ) (e : Event) → 0 < p → 0 < q → (p == q) ≡ false → Spares p (q - 1) e
spares_other p q Start one two apart = tt
spares_other p q (Act depth request) one two apart = tt
spares_other p q (Finish cause) one two apart = λ same. absurd (grind (arith, nat_tests))

-- who asks for its end and is answered has come to it
ended_next : (s : State) (p : ℕ) (e : Event) (d : ProcessState) (r : Reply) → (step s p e).enters ≡ true → (step s p e).reply ≡ r → event_of d ≡ Some e → is_finish e ≡ true → (absorbed d r).status ≡ Ended
ended_next s p e d r enters reply asked finish =
    subst (λ (x : ProcessState). x.status ≡ Ended) (sym (absorbed_by d e r asked)) (rests (after_event d e r) (by e finish (ap (λ x. x.reply) (sym (entered_is s p e enters)) ∙ reply)))
  where
    rests : (x : ProcessState) → x.status ≡ Ended → (after_local_run x).status ≡ Ended
    rests x is = ap (λ (y : ProcessState). y.status) (settled_still x (ap (alone_by x) is)) ∙ is

    answered : (cause : EndCause) (v : Verdict) → v ≡ Permit → (by_verdict s p (Finish cause) v).reply ≡ r → (after_end d r).status ≡ Ended
    answered cause Permit is same = subst (λ (y : Reply). (after_end d y).status ≡ Ended) same refl
    answered cause Wait is same = cc
    answered cause (Refuse x) is same = cc

    by : (f : Event) → is_finish f ≡ true → (by_verdict s p f (awake_verdict s p f)).reply ≡ r → (after_event d f r).status ≡ Ended
    by Start h same = cc
    by (Act depth request) h same = cc
    by (Finish cause) h same = answered cause (awake_verdict s p (Finish cause)) (end_permitted s p cause) same

ended_asks : (d : ProcessState) (e : Event) → event_of d ≡ Some e → d.status ≡ Ended → ⊥
unfolding event_of
ended_asks d e asked is = none (sym (ap (asks d) is) ∙ asked)
  where
    none : None ≡ Some e → ⊥
    none g = cc

next_follows : (whole : Bool) (s : State) (e : Entry) (es : List Entry) → 0 < e.process → (step s e.process e.event).enters ≡ true → (step s e.process e.event).reply ≡ e.reply → AllFollow whole s (e ∷ es)
    → AllFollow whole (step s e.process e.event).state es
next_follows whole s e es first enters reply all q above within = by (e.process == q) refl was.runs was.ends
  where
    was : Follows whole s q (e ∷ es)
    was = all q above (subst (λ (n : ℕ). q ≤ n) (step_keeps s e.process e.event) within)

    nat_same : (a b : ℕ) → (a == b) ≡ true → a ≡ b
    nat_same a b h = grind (arith, nat_tests)

    -- after its own entry it is nearer to its end, or there
    nearer : (own : List Entry) → event_of was.process ≡ Some e.event → (ends_by_finish (e ∷ own) ≡ true) ⊎ (was.process.status ≡ Ended)
        → (ends_by_finish own ≡ true) ⊎ ((absorbed was.process e.reply).status ≡ Ended)
    nearer own asked (inr ended) = absurd (ended_asks was.process e.event asked ended)
    nearer [] asked (inl finish) = inr (ended_next s e.process e.event was.process e.reply enters reply asked finish)
    nearer (f ∷ own) asked (inl finish) = inl finish

    by : (b : Bool) → (e.process == q) ≡ b → RanFrom was.process (cond b (e ∷ entries_of q es) (entries_of q es))
        → (whole ≡ true → (ends_by_finish (cond b (e ∷ entries_of q es) (entries_of q es)) ≡ true) ⊎ (was.process.status ≡ Ended)) → Follows whole (step s e.process e.event).state q es
    by true own ran ends =
        let same = nat_same e.process q own in
        record {
          process = absorbed was.process e.reply;
          stands = subst (λ (n : ℕ). status_agrees (absorbed was.process e.reply).status (process_entry (step s e.process e.event).state n) ≡ true) same
              (own_next s e.process e.event was.process e.reply enters reply ran.0 (subst (λ (n : ℕ). status_agrees was.process.status (process_entry s n) ≡ true) (sym same) was.stands));
          runs = ran.1;
          ends = λ is. nearer (entries_of q es) ran.0 (ends is);
        }
    by false other ran ends = record {
      process = was.process;
      stands = other_next s e.process e.event (q - 1) was.process.status (spares_other e.process q e.event first above other) was.stands;
      runs = ran;
      ends = ends;
    }

-- ---- histories

asks_first : (whole : Bool) (s : State) (e : Entry) (es : List Entry) → 0 < e.process → e.process ≤ length s.processes → AllFollow whole s (e ∷ es) → ComesFrom s.processes e.process e.event
asks_first whole s e es first last all =
    let was = all e.process first last in
    comes_from was.process s e.process e.event first (asked was) was.stands
  where
    itself : (n : ℕ) → (n == n) ≡ true
    itself n = grind (arith, nat_tests)

    asked : (was : Follows whole s e.process (e ∷ es)) → event_of was.process ≡ Some e.event
    asked was = (subst (λ (b : Bool). RanFrom was.process (cond b (e ∷ entries_of e.process es) (entries_of e.process es))) (itself e.process) was.runs).0

pub history_live : (whole : Bool) (s : State) (before history : List Entry) (end : State) → Lives s → AllFollow whole s history → Leads s before history end → Throughout IsLive s history × IsLive end
history_live whole s before [] end lives all leads = (is_live s lives, subst IsLive leads (is_live s lives))
history_live whole s before (e ∷ es) end lives all leads =
    let one = leads.0 in
    let comes = asks_first whole s e es one.process.first one.process.last all in
    let rest = history_live whole (step s e.process e.event).state (before ++ e ∷ []) es end (step_lives s e.process e.event one.process.first comes lives)
    (next_follows whole s e es one.process.first one.entered one.reply all) leads.1 in
    ((is_live s lives, rest.0), rest.1)

history_follows : (whole : Bool) (s : State) (before history : List Entry) (end : State) → AllFollow whole s history → Leads s before history end → AllFollow whole end []
history_follows whole s before [] end all leads = subst (λ (t : State). AllFollow whole t []) leads all
history_follows whole s before (e ∷ es) end all leads =
    let one = leads.0 in
    history_follows whole (step s e.process e.event).state (before ++ e ∷ []) es end (next_follows whole s e es one.process.first one.entered one.reply all) leads.1

pub begins_live : (room : Option Room) (held : Held) (templates : List CheckedTemplate) (jobs : List Job) → IsLive (state_over room held templates jobs)
begins_live room held templates jobs = record { locks = All-nil (AreHeld _); units = All-nil (IsOfLiving _); waiting = All-nil (MayWait _) }

-- a job at each place, whose process has not ended
job_at : (jobs : List Job) (k : ℕ) → k < length jobs → (job : Job) × (slice_get jobs k ≡ Some job) × (is_open_in (slice_get (process_entries jobs) k) ≡ true)
job_at [] k h = absurd (omega (arith, h))
job_at (job ∷ jobs) zero h = (job, refl, refl)
job_at (job ∷ jobs) (suc k) h = job_at jobs k (omega (arith, h))

begins_following : (whole : Bool) (room : Option Room) (held : Held) (templates : List CheckedTemplate) (jobs : List Job) (history : List Entry) → AreRunByJobs jobs history
    → (whole ≡ true → (k : ℕ) (job : Job) → slice_get jobs k ≡ Some job → ends_by_finish (entries_of (k + 1) history) ≡ true) → AllFollow whole (state_over room held templates jobs) history
begins_following whole room held templates jobs history run ends p above within =
    let count : length (process_entries jobs) ≡ length jobs = length-map jobs _ in
    let at = job_at jobs (p - 1) (omega (arith, above, within, count)) in
    let ran = run.each (p - 1) at.0 at.1 in
    let index : p - 1 + 1 ≡ p = omega (arith, above) in
    record {
      process = fresh ran.made at.0.budget;
      stands = at.2;
      runs = subst (λ (n : ℕ). RanFrom (fresh ran.made at.0.budget) (entries_of n history)) index ran.ran;
      ends = λ is. inl (subst (λ (n : ℕ). ends_by_finish (entries_of n history) ≡ true) index (ends is (p - 1) at.0 at.1));
    }

pub run_live : (room : Option Room) (held : Held) (templates : List CheckedTemplate) (jobs : List Job) (history : List Entry) (end : State) → AreRunByJobs jobs history → Leads (state_over room held templates jobs) [] history end
    → Throughout IsLive (state_over room held templates jobs) history × IsLive end
run_live room held templates jobs history end run leads =
    history_live false (state_over room held templates jobs) [] history end (lives_from (state_over room held templates jobs) (begins_live room held templates jobs) rising_none)
    (begins_following false room held templates jobs history run (λ is. absurd (never is))) leads
  where
    never : false ≡ true → ⊥
    never g = cc

-- after whole runs each process has ended
pub all_ended : (room : Option Room) (held : Held) (templates : List CheckedTemplate) (jobs : List Job) (history : List Entry) (end : State) → AreWholeRuns jobs history → Leads (state_over room held templates jobs) [] history end
    → (p : ℕ) → 0 < p → p ≤ length end.processes → is_open_in (process_entry end p) ≡ false
all_ended room held templates jobs history end run leads p above within =
    let all = history_follows true (state_over room held templates jobs) [] history end (begins_following true room held templates jobs history run.runs (λ is. run.whole)) leads in
    let last = all p above within in
    by last.process.status (last.ends refl) last.stands
  where
    turned : (b : Bool) → not b ≡ true → b ≡ false
    turned true h = cc
    turned false h = refl

    by : (status : Status) → (ends_by_finish [] ≡ true) ⊎ (status ≡ Ended) → status_agrees status (process_entry end p) ≡ true → is_open_in (process_entry end p) ≡ false
    by status (inl h) stands = cc
    by status (inr is) stands = turned (is_open_in (process_entry end p)) (subst (λ (c : Status). status_agrees c (process_entry end p) ≡ true) is stands)
