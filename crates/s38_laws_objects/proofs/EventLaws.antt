-- Step by step objects stay well, and what is not kept anew stays.
use Rattle.std.proofs.Common.{◌==◌, ◌∙◌, ◌∷◌, ◌≡◌, ◌++◌, ◌≤◌, Bool, List, [], arith, false, refl, subst, sym, true, ℕ}
use Rattle.std.proofs.lemmas.Bool.{cond_both}
use Rattle.std.proofs.lemmas.List.Elements.{All-cons, All-nil}
use Rattle.std.specs.Prelude.{All, None, Option, Some}
use Rattle.s38_base.specs.Limits.{furthest}
use Rattle.s38_base.specs.Pointers.{target_of}
use Rattle.s38_base.specs.declared.id.Id.{Id}
use Rattle.s38_base.specs.declared.id.ObjNum.{ObjNum}
use Rattle.s38_code.specs.Operations.{family_of}
use Rattle.s38_code.specs.declared.deck.Job.{Job}
use Rattle.s38_code.specs.declared.entry.Entry.{Entry}
use Rattle.s38_code.specs.declared.event.Event.TheVariants.{Act, Finish, Start}
use Rattle.s38_code.specs.declared.event.Event.{Event}
use Rattle.s38_code.specs.declared.event.Request.{Request}
use Rattle.s38_code.specs.declared.made.CheckedTemplate.{CheckedTemplate}
use Rattle.s38_code.specs.declared.operand.Operand.TheVariants as operands
use Rattle.s38_code.specs.declared.operand.Operand.{Operand}
use Rattle.s38_code.specs.declared.reply.Val.TheVariants as vals
use Rattle.s38_code.specs.declared.reply.Val.{Val}
use Rattle.s38_commits.specs.Unit.{CommitUnit}
use Rattle.s38_commits.specs.Units.{UnitMap, unit_of}
use Rattle.s38_commits.specs.declared.change.UnitChange.{UnitChange}
use Rattle.s38_journals.specs.Journals as journals
use Rattle.s38_rules.proofs.RoomLaws.{permitted_by_rules}
use Rattle.s38_rules.proofs.StoreLaws.{stored_beside, stored_holds}
use Rattle.s38_rules.proofs.VerdictLaws.{permitted_none}
use Rattle.s38_rules.specs.state.Cells.{with_bytes, with_pointer}
use Rattle.s38_rules.specs.families.Changes.{Changes, Committed, Decommitted, Entered, Framed, Then, done}
use Rattle.s38_rules.specs.families.Changing.{logged, logged_in}
use Rattle.s38_rules.specs.families.Computing.{receiver_at, shift_at}
use Rattle.s38_rules.specs.step.Effect.{effect, effect_of, end_at, start_at}
use Rattle.s38_rules.specs.store.Forcing.{must_persist}
use Rattle.s38_rules.specs.state.Held.{Held, kind_of}
use Rattle.s38_rules.specs.state.Invocations.{restack_at}
use Rattle.s38_rules.specs.state.Journaling.{journal_for}
use Rattle.s38_rules.specs.step.Legal.{Leads}
use Rattle.s38_rules.specs.state.Opening.{general_context, held_first, held_installed, installed, locked_queue, machine_context_object, officer_object, officer_rows, opening, owned, plain_user, state_of}
use Rattle.s38_rules.specs.ask.Receivers.{delivered, put_value}
use Rattle.s38_rules.specs.state.PrivateRows.{AreRows}
use Rattle.s38_rules.specs.families.Rows.{row}
use Rattle.s38_rules.specs.state.State.{State, process_entry, waits}
use Rattle.s38_rules.specs.step.Step.{awake_verdict, by_verdict, by_waiting, step}
use Rattle.s38_rules.specs.store.Storable.{HasShortText}
use Rattle.s38_rules.specs.families.Units.{all_decommitted, committed, decommitted}
use Rattle.s38_rules.specs.step.Verdict.{refused_by, ruled_verdict}
use Rattle.s38_rules.specs.declared.object.Body.{Body}
use Rattle.s38_rules.specs.declared.object.Object.{Object}
use Rattle.s38_rules.specs.declared.process.ProcessEntry.{ProcessEntry}
use Rattle.s38_rules.specs.declared.verdict.Verdict.TheVariants.{Permit, Refuse, Wait}
use Rattle.s38_rules.specs.declared.verdict.Verdict.{Verdict}
use Rattle.s38_laws_objects.proofs.OutlineLaws.{all_decommitted_outline, done_outline, journal_outline, space_outline}
use Rattle.s38_laws_objects.proofs.RowLaws.{row_may}
use Rattle.s38_laws_objects.proofs.WordLaws.{HoldsWell, all_decommitted_well, done_well, journal_well, space_well}
use Rattle.s38_laws_objects.specs.Outline.{is_forced, outline_at}
use Rattle.s38_laws_objects.specs.Well.{AreWell, IsWell}
use Rattle.s38_rules.specs.step.Histories.{Throughout}

-- ---- the limit of a body and the room of the store stay

-- two states have one limit and one room
pub record IsBeside (s t : State) : Type 0 where
  pub limit : t.limit ≡ s.limit
  pub room : t.room ≡ s.room

joined : {s t u : State} → IsBeside t u → IsBeside s t → IsBeside s u
joined x y = record { limit = x.limit ∙ y.limit; room = x.room ∙ y.room }

logged_beside : (s : State) (p block : ℕ) (change : UnitChange) (journal : Option ℕ) → IsBeside s (logged_in s p block change journal)
logged_beside s p block change None = record { limit = refl; room = refl }
logged_beside s p block change (Some journal) = record { limit = refl; room = refl }

entered_beside : (s : State) (p block : ℕ) (change : UnitChange) → IsBeside s (logged s p block change)
unfolding logged
entered_beside s p block change = logged_beside s p block change (journal_for s.held change.space.0)

committed_beside : (s : State) (p block : ℕ) (unit : Option CommitUnit) → IsBeside s (committed s p block unit)
committed_beside s p block None = record { limit = refl; room = refl }
committed_beside s p block (Some unit) = record { limit = refl; room = refl }

decommitted_beside : (s : State) (p block : ℕ) (unit : Option CommitUnit) → IsBeside s (decommitted s p block unit)
decommitted_beside s p block None = record { limit = refl; room = refl }
decommitted_beside s p block (Some unit) = record { limit = refl; room = refl }

all_decommitted_beside : (units : UnitMap) (s : State) (p : ℕ) → IsBeside s (all_decommitted s p units)
unfolding all_decommitted
all_decommitted_beside [] s p = record { limit = refl; room = refl }
all_decommitted_beside (e ∷ units) s p =
    let taken = decommitted s p e.0 (Some e.1) in
    cond_both (e.1.process == p) taken s (λ (t : State). IsBeside s (all_decommitted t p units))
    (λ own. joined (all_decommitted_beside units taken p) (decommitted_beside s p e.0 (Some e.1)))
    (λ other. all_decommitted_beside units s p)

restacked_beside : (f : List ObjNum → List ObjNum) (s : State) (p : ℕ) (x : Option ProcessEntry) → IsBeside s (restack_at f s p x)
restacked_beside f s p None = record { limit = refl; room = refl }
restacked_beside f s p (Some x) = record { limit = refl; room = refl }

done_beside : (x : Changes) (s : State) (p : ℕ) → IsBeside s (done s p x)
done_beside (Entered block change f) s p = let logs = entered_beside s p block change in record { limit = logs.limit; room = logs.room }
done_beside (Framed f) s p = restacked_beside f s p (process_entry s p)
done_beside (Committed block) s p = committed_beside s p block (unit_of s.units block)
done_beside (Decommitted block) s p = decommitted_beside s p block (unit_of s.units block)
done_beside (Then a b) s p = joined (done_beside b (done s p a) p) (done_beside a s p)
done_beside _ s p = record { limit = refl; room = refl }

delivered_beside : (s : State) (shift : ℕ) (receiver : Option Operand) (v : Option Val) → IsBeside s (delivered s shift receiver v).state
delivered_beside s shift receiver None = record { limit = refl; room = refl }
delivered_beside s shift (Some (operands.InSpace base offset attr)) (Some v) = record { limit = refl; room = refl }
delivered_beside s shift _ (Some v) = record { limit = refl; room = refl }

start_beside : (s : State) (p : ℕ) (x : Option ProcessEntry) → IsBeside s (start_at s p x)
start_beside s p None = record { limit = refl; room = refl }
start_beside s p (Some x) = record { limit = refl; room = refl }

finish_beside : (s : State) (p : ℕ) (x : Option ProcessEntry) → IsBeside s (end_at s p x)
finish_beside s p None = record { limit = refl; room = refl }
finish_beside s p (Some x) = let taken = all_decommitted_beside s.units s p in record { limit = taken.limit; room = taken.room }

-- no effect changes either of them
pub effect_beside : (s : State) (p : ℕ) (e : Event) → IsBeside s (effect_of s p e).state
unfolding effect_of effect
effect_beside s p Start = start_beside s p (process_entry s p)
effect_beside s p (Act d t) =
    joined (delivered_beside (done s p ((row t.op).changes s p d t)) (shift_at s.held t.op t.operands) (receiver_at t.op t.operands) ((row t.op).gives s p d t))
    (done_beside ((row t.op).changes s p d t) s p)
effect_beside s p (Finish cause) = finish_beside s p (process_entry s p)

-- ---- an event

value_well : (h : Held) (n at : ℕ) (v : Val) → HoldsWell h → HoldsWell (put_value h n at v)
value_well h n at (vals.Bytes bytes) well = space_well h n (with_bytes at bytes) well
value_well h n at (vals.Ptr p) well = space_well h n (with_pointer at p) well
value_well h n at _ well = well

delivered_well : (s : State) (shift : ℕ) (receiver : Option Operand) (v : Option Val) → HoldsWell s.held → HoldsWell (delivered s shift receiver v).state.held
delivered_well s shift receiver None well = well
delivered_well s shift (Some (operands.InSpace base offset attr)) (Some v) well = value_well s.held (target_of base) _ v well
delivered_well s shift _ (Some v) well = well

start_well : (s : State) (p : ℕ) (x : Option ProcessEntry) → HoldsWell s.held → HoldsWell (start_at s p x).held
start_well s p None well = well
start_well s p (Some x) well = well

finish_well : (s : State) (p : ℕ) (x : Option ProcessEntry) → HoldsWell s.held → HoldsWell (end_at s p x).held
finish_well s p None well = well
finish_well s p (Some x) well = all_decommitted_well s.units s p well

act_well : (s : State) (p d : ℕ) (t : Request) → AreWell s → refused_by (row t.op) s p d t ≡ None → HoldsWell (effect (row t.op) s p d t).state.held
unfolding effect
act_well s p d t well met =
    let x = (row t.op).changes s p d t in
    delivered_well (done s p x) (shift_at s.held t.op t.operands) (receiver_at t.op t.operands) ((row t.op).gives s p d t)
    (done_well x s p well.objects (row_may (family_of t.op) t.op s p d t well met))

pub event_well : (s : State) (p : ℕ) (e : Event) → AreWell s → awake_verdict s p e ≡ Permit → HoldsWell (effect_of s p e).state.held
unfolding effect_of ruled_verdict
event_well s p Start well may = start_well s p (process_entry s p) well.objects
event_well s p (Act d t) well may = act_well s p d t well (permitted_none s p t (refused_by (row t.op) s p d t) (permitted_by_rules s p (Act d t) may))
event_well s p (Finish cause) well may = finish_well s p (process_entry s p) well.objects

-- ---- a step, and a history

pub verdict_well : (s : State) (p : ℕ) (e : Event) (v : Verdict) → AreWell s → awake_verdict s p e ≡ v → AreWell (by_verdict s p e v).state
verdict_well s p e Permit well is = record {
  limit = subst (λ (n : ℕ). n ≤ furthest) (sym ((stored_beside s p e (effect_of s p e).state).limit ∙ (effect_beside s p e).limit)) well.limit;
  objects = stored_holds HoldsWell (λ h n so_far. journal_well h n journals.forced so_far) s p e (effect_of s p e).state (event_well s p e well is);
}
verdict_well s p e Wait well is = record { limit = well.limit; objects = well.objects }
verdict_well s p e (Refuse x) well is = well

pub step_well : (s : State) (p : ℕ) (e : Event) → AreWell s → AreWell (step s p e).state
unfolding step
step_well s p e well = by (waits s p)
  where
    by : (b : Bool) → AreWell (by_waiting b s p e).state
    by true = well
    by false = verdict_well s p e (awake_verdict s p e) well refl

pub history_well : (s : State) (before history : List Entry) (end : State) → AreWell s → Leads s before history end → Throughout AreWell s history × AreWell end
history_well s before [] end well leads = (well, subst AreWell leads well)
history_well s before (e ∷ es) end well leads =
    let rest = history_well (step s e.process e.event).state (before ++ e ∷ []) es end (step_well s e.process e.event well) leads.1 in
    ((well, rest.0), rest.1)

-- ---- the beginning

their_rows : AreRows officer_rows
their_rows = (λ h. cc, tt, tt)

-- an object of the security officer
own_well : (number : ℕ) (id : Id) (context public : ℕ) (body : Body) → kind_of body ≡ id.kind → HasShortText body → IsWell (owned number id context public body)
own_well number id context public body kind text = record { storable = record { kind = kind; rows = omega arith; text = text }; rows = their_rows }

two_well : (os : List Object) → All IsWell os → All IsWell (machine_context_object ∷ officer_object ∷ os)
two_well os well = All-cons IsWell machine_context_object (officer_object ∷ os) (own_well _ _ _ _ _ refl tt) (All-cons IsWell officer_object os (own_well _ _ _ _ _ refl tt) well)

pub first_well : (templates : List CheckedTemplate) (jobs : List Job) → AreWell (state_of held_first templates jobs)
unfolding opening
first_well templates jobs = record {
  limit = omega arith;
  objects = two_well (general_context ∷ plain_user ∷ locked_queue ∷ [])
      (All-cons IsWell general_context (plain_user ∷ locked_queue ∷ []) (own_well _ _ _ _ _ refl tt)
      (All-cons IsWell plain_user (locked_queue ∷ []) (own_well _ _ _ _ _ refl tt) (All-cons IsWell locked_queue [] (own_well _ _ _ _ _ refl tt) (All-nil IsWell))));
}

pub installed_well : (templates : List CheckedTemplate) (jobs : List Job) → AreWell (state_of held_installed templates jobs)
unfolding installed
installed_well templates jobs = record { limit = omega arith; objects = two_well [] (All-nil IsWell) }

-- ---- what is not kept anew stays

value_outline : (h : Held) (n at m : ℕ) (v : Val) → outline_at (put_value h n at v) m ≡ outline_at h m
value_outline h n at m (vals.Bytes bytes) = space_outline h n m (with_bytes at bytes)
value_outline h n at m (vals.Ptr p) = space_outline h n m (with_pointer at p)
value_outline h n at m _ = refl

delivered_outline : (s : State) (shift m : ℕ) (receiver : Option Operand) (v : Option Val) → outline_at (delivered s shift receiver v).state.held m ≡ outline_at s.held m
delivered_outline s shift m receiver None = refl
delivered_outline s shift m (Some (operands.InSpace base offset attr)) (Some v) = value_outline s.held (target_of base) _ m v
delivered_outline s shift m _ (Some v) = refl

start_outline : (s : State) (p m : ℕ) (x : Option ProcessEntry) → outline_at (start_at s p x).held m ≡ outline_at s.held m
start_outline s p m None = refl
start_outline s p m (Some x) = refl

finish_outline : (s : State) (p m : ℕ) (x : Option ProcessEntry) → outline_at (end_at s p x).held m ≡ outline_at s.held m
finish_outline s p m None = refl
finish_outline s p m (Some x) = all_decommitted_outline s.units s p m

event_outline : (s : State) (p : ℕ) (e : Event) (m : ℕ) → is_forced m (must_persist s p e) ≡ false → outline_at (effect_of s p e).state.held m ≡ outline_at s.held m
unfolding effect_of effect must_persist
event_outline s p Start m unforced = start_outline s p m (process_entry s p)
event_outline s p (Act d t) m unforced =
    let x = (row t.op).changes s p d t in
    delivered_outline (done s p x) (shift_at s.held t.op t.operands) m (receiver_at t.op t.operands) ((row t.op).gives s p d t) ∙ done_outline x s p m unforced
event_outline s p (Finish cause) m unforced = finish_outline s p m (process_entry s p)

verdict_outline : (s : State) (p : ℕ) (e : Event) (m : ℕ) (v : Verdict) → is_forced m (must_persist s p e) ≡ false → outline_at (by_verdict s p e v).state.held m ≡ outline_at s.held m
verdict_outline s p e m Permit unforced =
    stored_holds (λ (h : Held). outline_at h m ≡ outline_at s.held m) (λ h n so_far. journal_outline h n m journals.forced ∙ so_far) s p e (effect_of s p e).state (event_outline s p e m unforced)
verdict_outline s p e m Wait unforced = refl
verdict_outline s p e m (Refuse x) unforced = refl

pub step_outline : (s : State) (p : ℕ) (e : Event) (m : ℕ) → is_forced m (must_persist s p e) ≡ false → outline_at (step s p e).state.held m ≡ outline_at s.held m
unfolding step
step_outline s p e m unforced = by (waits s p)
  where
    by : (b : Bool) → outline_at (by_waiting b s p e).state.held m ≡ outline_at s.held m
    by true = refl
    by false = verdict_outline s p e m (awake_verdict s p e) unforced
