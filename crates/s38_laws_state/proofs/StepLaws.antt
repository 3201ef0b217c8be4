-- Step by step objects, users and locks stay in order, and so they do over a history from an opening.
use Rattle.std.proofs.Common.{◌++◌, ◌-◌, ◌∙◌, ◌∷◌, ◌≡◌, Bool, List, [], arith, false, refl, subst, suc, sym, true, zero, ℕ}
use Rattle.std.proofs.lemmas.List.Elements.{All-cons, All-head, All-nil, All-tail}
use Rattle.std.specs.Prelude.{All, None, Option, Some, slice_get}
use Rattle.s38_base.specs.Limits.{body_limit}
use Rattle.s38_code.specs.Operations.{family_of}
use Rattle.s38_code.specs.declared.deck.Job.{Job}
use Rattle.s38_code.specs.declared.entry.Entry.{Entry}
use Rattle.s38_code.specs.declared.event.Event.TheVariants.{Act, Finish, Start}
use Rattle.s38_code.specs.declared.event.Event.{Event}
use Rattle.s38_code.specs.declared.made.CheckedTemplate.{CheckedTemplate}
use Rattle.s38_laws_objects.proofs.EventLaws.{effect_beside, step_well}
use Rattle.s38_laws_objects.specs.Well.{AreWell}
use Rattle.s38_laws_images.proofs.openings.BeginLaws.{opening_well}
use Rattle.s38_laws_images.specs.openings.Fitting.{IsUser}
use Rattle.s38_laws_images.specs.openings.Opening.{IsOpening}
use Rattle.s38_rules.proofs.Laws.{act_keeps as act_processes}
use Rattle.s38_rules.proofs.RoomLaws.{permitted_by_rules}
use Rattle.s38_rules.proofs.StoreLaws.{stored_beside}
use Rattle.s38_rules.proofs.VerdictLaws.{permitted_none}
use Rattle.s38_laws_processes.specs.owners.Beginnings.{state_over}
use Rattle.s38_rules.specs.store.Room.{Room}
use Rattle.s38_rules.specs.step.Effect.{effect_of, end_at, start_at, started_as}
use Rattle.s38_rules.specs.state.Held.{Held}
use Rattle.s38_rules.specs.step.Legal.{Leads}
use Rattle.s38_rules.specs.state.Opening.{process_entries}
use Rattle.s38_rules.specs.families.Rows.{row}
use Rattle.s38_rules.specs.state.State.{State, process_entry, waits}
use Rattle.s38_rules.specs.step.Step.{awake_verdict, by_verdict, by_waiting, step}
use Rattle.s38_rules.specs.store.Storing.{stored}
use Rattle.s38_rules.specs.step.Verdict.{refused_by, ruled_verdict, start_verdict}
use Rattle.s38_rules.specs.declared.process.ProcessEntry.{ProcessEntry}
use Rattle.s38_rules.specs.declared.process.Started.{Started}
use Rattle.s38_rules.specs.declared.verdict.Verdict.TheVariants.{Permit, Refuse, Wait}
use Rattle.s38_rules.specs.declared.verdict.Verdict.{Verdict}
use Rattle.s38_laws_state.proofs.BodyLaws.{Hold}
use Rattle.s38_laws_state.proofs.BodyRowLaws.{step_hold}
use Rattle.s38_laws_state.proofs.FitLaws.{head_fits}
use Rattle.s38_laws_state.proofs.FitTogetherLaws.{Fits, other_users}
use Rattle.s38_laws_state.proofs.OrderLaws.{LocksWell, act_locks, end_locks, locks_later, stored_later}
use Rattle.s38_laws_state.proofs.LockLaws.{locks_order}
use Rattle.s38_laws_state.proofs.PlaceLaws.{row_may as objects_may}
use Rattle.s38_laws_state.proofs.FitRowLaws.{FitsIn, IsUsed}
use Rattle.s38_laws_state.proofs.RowLaws.{in_family, row_may as locks_may}
use Rattle.s38_laws_state.proofs.SeenLaws.{seen, unseen}
use Rattle.s38_laws_state.proofs.TableLaws.{ordered_none}
use Rattle.s38_laws_state.proofs.WordLaws.{act_keeps, finish_keeps, stored_keeps}
use Rattle.s38_laws_state.specs.Order.{AreInOrder, AreLocks, HasUser}
use Rattle.s38_laws_state.proofs.UserLaws.{some_same, started_user, kept_used, start_used, end_used}
use Rattle.s38_rules.specs.step.Histories.{Throughout}

-- ---- an event

-- objects fit one another, and locks are in order
pub record Ordered (s : State) : Type 0 where
  pub fits : FitsIn s s.held
  pub locks : LocksWell s.held.next s.locks

-- after an effect, for the users of its own processes
record AfterEffect (s t : State) : Type 0 where
  pub fits : Fits (IsUsed t.processes) t.held
  pub locks : LocksWell s.held.next t.locks

start_behind : (s : State) (p : ℕ) (o : Option ProcessEntry) → process_entry s p ≡ o → AreWell s → Ordered s → start_verdict s p o ≡ Permit → AfterEffect s (start_at s p o)
start_behind s p None at well ordered may = record { fits = ordered.fits; locks = ordered.locks }
start_behind s p (Some x) at well ordered may = record {
  fits = other_users (IsUsed s.processes) (IsUsed (start_at s p (Some x)).processes) s.held
      (λ u used. start_used s p (Some x) u at (λ y is. subst (λ (z : ProcessEntry). IsUser s.held (started_as s.held z.job).user.0) (some_same x y is) (started_user s p x ordered.fits well may)) ordered.fits used) ordered.fits;
  locks = ordered.locks;
}

event_behind : (s : State) (p : ℕ) (e : Event) → AreWell s → Ordered s → awake_verdict s p e ≡ Permit → AfterEffect s (effect_of s p e).state
unfolding effect_of ruled_verdict
event_behind s p Start well ordered may = start_behind s p (process_entry s p) refl well ordered (permitted_by_rules s p Start may)
event_behind s p (Act d t) well ordered may =
    let none = permitted_none s p t (refused_by (row t.op) s p d t) (permitted_by_rules s p (Act d t) may) in
    let U = IsUsed s.processes in
    let fits = act_keeps (Fits U) (head_fits U) s p d t ordered.fits (objects_may (family_of t.op) t.op s p d t ordered.fits none) in
    record {
      fits = other_users U (IsUsed (effect_of s p (Act d t)).state.processes) (effect_of s p (Act d t)).state.held (λ u used. fits.users u (kept_used p s.processes _ u (act_processes (row t.op) s p d t) used)) fits;
      locks = act_locks s.held.next s p d t ordered.locks
          (locks_may _ (family_of t.op) t.op s p d t (λ is. locks_order t.op s p d t ordered.fits ordered.locks (in_family (family_of t.op) t.op s p d t is none)));
    }
event_behind s p (Finish cause) well ordered may =
    let U = IsUsed s.processes in
    let fits = finish_keeps (Fits U) (head_fits U) s p (process_entry s p) ordered.fits in
    record {
      fits = other_users U (IsUsed (end_at s p (process_entry s p)).processes) (end_at s p (process_entry s p)).held (λ u used. fits.users u (end_used s p (process_entry s p) u refl used)) fits;
      locks = end_locks s.held.next s p (process_entry s p) ordered.locks;
    }

-- ---- a step

permit_ordered : (s : State) (p : ℕ) (e : Event) → AfterEffect s (effect_of s p e).state → Ordered (by_verdict s p e Permit).state
permit_ordered s p e behind =
    let t = (effect_of s p e).state in
    let beside = stored_beside s p e t in
    let U = IsUsed t.processes in
    record {
      fits = subst (λ (xs : List ProcessEntry). Fits (IsUsed xs) (stored s p e t).held) (sym beside.processes) (stored_keeps (Fits U) (head_fits U) s p e t behind.fits);
      locks = subst (LocksWell (stored s p e t).held.next) (sym beside.locks) (locks_later s.held.next (stored s p e t).held.next t.locks (stored_later s.held.next s p e (omega arith)) behind.locks);
    }

verdict_ordered : (s : State) (p : ℕ) (e : Event) (v : Verdict) → AreWell s → Ordered s → awake_verdict s p e ≡ v → Ordered (by_verdict s p e v).state
verdict_ordered s p e Permit well ordered is = permit_ordered s p e (event_behind s p e well ordered is)
verdict_ordered s p e Wait well ordered is = record { fits = ordered.fits; locks = ordered.locks }
verdict_ordered s p e (Refuse x) well ordered is = ordered

step_ordered : (s : State) (p : ℕ) (e : Event) → AreWell s → Ordered s → Ordered (step s p e).state
unfolding step
step_ordered s p e well ordered = by (waits s p)
  where
    by : (b : Bool) → Ordered (by_waiting b s p e).state
    by true = ordered
    by false = verdict_ordered s p e (awake_verdict s p e) well ordered refl

-- ---- as it is said

at_place : {A : Type 0} (P : A → Type 0) (xs : List A) (k : ℕ) (x : A) → All P xs → slice_get xs k ≡ Some x → P x
at_place P [] k x all at = cc
at_place P (y ∷ ys) zero x all at = subst P (some_same y x at) (All-head P y ys all)
at_place P (y ∷ ys) (suc k) x all at = at_place P ys k x (All-tail P y ys all) at

by_places : {A : Type 0} (P : A → Type 0) (xs : List A) → ((k : ℕ) (x : A) → slice_get xs k ≡ Some x → P x) → All P xs
by_places P [] holds = All-nil P
by_places P (x ∷ xs) holds = All-cons P x xs (holds 0 x refl) (by_places P xs (λ k y at. holds (suc k) y at))

ordered_from : (s : State) → AreInOrder s → Ordered s
ordered_from s order = record {
  fits = seen (IsUsed s.processes) s.held order.lawful order.numbered order.fit
      (λ u used. subst (λ (n : ℕ). IsUser s.held n) used.is (at_place (HasUser s.held) s.processes used.at used.process order.users used.there used.started used.of used.going));
  locks = record { rising = order.rising; locks = order.locks };
}

-- the limit of a body stays
verdict_limit : (s : State) (p : ℕ) (e : Event) (v : Verdict) → (by_verdict s p e v).state.limit ≡ s.limit
verdict_limit s p e Permit = (stored_beside s p e (effect_of s p e).state).limit ∙ (effect_beside s p e).limit
verdict_limit s p e Wait = refl
verdict_limit s p e (Refuse x) = refl

step_limit : (s : State) (p : ℕ) (e : Event) → (step s p e).state.limit ≡ s.limit
unfolding step
step_limit s p e = by (waits s p)
  where
    by : (b : Bool) → (by_waiting b s p e).state.limit ≡ s.limit
    by true = refl
    by false = verdict_limit s p e (awake_verdict s p e)

is_in_order : (s : State) → s.limit ≡ body_limit → Ordered s → Hold s.limit s.held → AreInOrder s
is_in_order s limit ordered bodies =
    let all = unseen (IsUsed s.processes) s.held ordered.fits in
    record {
      lawful = all.0;
      numbered = all.1;
      fit = all.2;
      limit = limit;
      bodies = bodies;
      users = by_places (HasUser s.held) s.processes (λ k x at p of going. ordered.fits.users p.user.0 (record { at = k; process = x; started = p; there = at; of = of; going = going; is = refl }));
      rising = ordered.locks.rising;
      locks = ordered.locks.locks;
    }

pub step_in_order : (s : State) (p : ℕ) (e : Event) → AreWell s → AreInOrder s → AreInOrder (step s p e).state
step_in_order s p e well order =
    let t = (step s p e).state in
    let same = step_limit s p e in
    let bodies = step_hold s p e order.limit order.bodies in
    is_in_order t (same ∙ order.limit) (step_ordered s p e well (ordered_from s order)) (subst (λ (n : ℕ). Hold n t.held) (sym same) bodies)

history_in_order : (s : State) (before history : List Entry) (end : State) → AreWell s → AreInOrder s → Leads s before history end → Throughout AreInOrder s history × AreInOrder end
history_in_order s before [] end well order leads = (order, subst AreInOrder leads order)
history_in_order s before (e ∷ es) end well order leads =
    let rest = history_in_order (step s e.process e.event).state (before ++ e ∷ []) es end (step_well s e.process e.event well) (step_in_order s e.process e.event well order) leads.1 in
    ((order, rest.0), rest.1)

none_started : (held : Held) (jobs : List Job) → All (HasUser held) (process_entries jobs)
none_started held [] = All-nil (HasUser held)
none_started held (job ∷ jobs) = All-cons (HasUser held) _ (process_entries jobs) (λ p of going. absurd (none p of)) (none_started held jobs)
  where
    none : (p : Started) → None ≡ Some p → ⊥
    none p g = cc

pub opening_in_order : (room : Option Room) (held : Held) (templates : List CheckedTemplate) (jobs : List Job) → IsOpening held → AreInOrder (state_over room held templates jobs)
opening_in_order room held templates jobs is = record {
  lawful = is.lawful;
  numbered = is.numbered;
  fit = is.fit;
  limit = refl;
  bodies = is.bodies;
  users = none_started held jobs;
  rising = ordered_none;
  locks = All-nil (AreLocks held.next);
}

pub run_in_order : (room : Option Room) (held : Held) (templates : List CheckedTemplate) (jobs : List Job) (history : List Entry) (end : State) → IsOpening held → Leads (state_over room held templates jobs) [] history end
    → Throughout AreInOrder (state_over room held templates jobs) history × AreInOrder end
run_in_order room held templates jobs history end is leads =
    history_in_order (state_over room held templates jobs) [] history end (opening_well room held templates jobs is) (opening_in_order room held templates jobs is) leads
