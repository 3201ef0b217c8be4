-- What a step leaves of the templates and of the processes: templates stay, and a process has other frames by its own
-- start and its own calls alone.
use Rattle.std.proofs.Common.{◌==◌, ◌-◌, ◌∙◌, ◌∷◌, ◌≡◌, ◌≢◌, Bool, List, [], ap, false, refl, sym, true, ℕ, zero, suc}
use Rattle.std.proofs.lemmas.Bool.{cond_both}
use Rattle.std.specs.Prelude.{◌&&◌, None, Option, Some, slice_get, slice_set}
use Rattle.s38_base.specs.declared.id.ObjNum.{ObjNum}
use Rattle.s38_code.specs.declared.event.EndCause.{EndCause}
use Rattle.s38_code.specs.declared.event.Event.TheVariants.{Act, Finish, Start}
use Rattle.s38_code.specs.declared.event.Event.{Event}
use Rattle.s38_code.specs.declared.event.Request.{Request}
use Rattle.s38_code.specs.declared.operand.Operand.TheVariants as operands
use Rattle.s38_code.specs.declared.operand.Operand.{Operand}
use Rattle.s38_code.specs.declared.reply.Val.{Val}
use Rattle.s38_commits.specs.Unit.{CommitUnit}
use Rattle.s38_commits.specs.Units.{UnitMap, unit_of}
use Rattle.s38_commits.specs.declared.change.UnitChange.{UnitChange}
use Rattle.s38_rules.proofs.Laws.{all_decommitted_keeps, decommitted_keeps, logged_keeps}
use Rattle.s38_rules.specs.families.Changes.{Changes, Committed, Decommitted, Entered, Framed, Then, done}
use Rattle.s38_rules.specs.families.Changing.{logged, logged_in}
use Rattle.s38_rules.specs.families.Computing.{receiver_at, shift_at}
use Rattle.s38_rules.specs.step.Effect.{effect, effect_of, end_at, start_at, started_as}
use Rattle.s38_rules.specs.state.Held.{Held}
use Rattle.s38_rules.specs.state.Invocations.{restack, restack_at, restacked, with_stack}
use Rattle.s38_rules.specs.state.Journaling.{journal_for}
use Rattle.s38_rules.specs.ask.Receivers.{delivered}
use Rattle.s38_rules.specs.families.Rows.{row}
use Rattle.s38_rules.specs.state.State.{State, process_entry, started_in, waits}
use Rattle.s38_rules.specs.step.Step.{awake_verdict, by_verdict, by_waiting, step}
use Rattle.s38_rules.specs.declared.verdict.Verdict.TheVariants.{Permit, Refuse, Wait}
use Rattle.s38_rules.specs.declared.verdict.Verdict.{Verdict}
use Rattle.s38_rules.proofs.StoreLaws.{stored_beside}
use Rattle.s38_rules.specs.families.Units.{all_decommitted, committed, decommitted}
use Rattle.s38_rules.specs.declared.process.ProcessEntry.{ProcessEntry}
use Rattle.s38_rules.specs.declared.process.Started.{Started}
use Rattle.s38_laws_processes.proofs.owners.RowLaws.{leaves_frames}

-- ---- templates stay

logged_in_templates : (s : State) (p block : ℕ) (change : UnitChange) (journal : Option ℕ) → (logged_in s p block change journal).templates ≡ s.templates
logged_in_templates s p block change None = refl
logged_in_templates s p block change (Some journal) = refl

logged_templates : (s : State) (p block : ℕ) (change : UnitChange) → (logged s p block change).templates ≡ s.templates
unfolding logged
logged_templates s p block change = logged_in_templates s p block change (journal_for s.held change.space.0)

committed_templates : (s : State) (p block : ℕ) (unit : Option CommitUnit) → (committed s p block unit).templates ≡ s.templates
committed_templates s p block None = refl
committed_templates s p block (Some unit) = refl

decommitted_templates : (s : State) (p block : ℕ) (unit : Option CommitUnit) → (decommitted s p block unit).templates ≡ s.templates
decommitted_templates s p block None = refl
decommitted_templates s p block (Some unit) = refl

all_decommitted_templates : (units : UnitMap) (s : State) (p : ℕ) → (all_decommitted s p units).templates ≡ s.templates
unfolding all_decommitted
all_decommitted_templates [] s p = refl
all_decommitted_templates (e ∷ units) s p =
    let taken = decommitted s p e.0 (Some e.1) in
    cond_both (e.1.process == p) taken s (λ (t : State). (all_decommitted t p units).templates ≡ s.templates)
    (λ own. all_decommitted_templates units taken p ∙ decommitted_templates s p e.0 (Some e.1))
    (λ other. all_decommitted_templates units s p)

restacked_templates : (f : List ObjNum → List ObjNum) (s : State) (p : ℕ) (x : Option ProcessEntry) → (restack_at f s p x).templates ≡ s.templates
restacked_templates f s p None = refl
restacked_templates f s p (Some x) = refl

done_templates : (x : Changes) (s : State) (p : ℕ) → (done s p x).templates ≡ s.templates
done_templates (Entered block change f) s p = logged_templates s p block change
done_templates (Framed f) s p = restacked_templates f s p (process_entry s p)
done_templates (Committed block) s p = committed_templates s p block (unit_of s.units block)
done_templates (Decommitted block) s p = decommitted_templates s p block (unit_of s.units block)
done_templates (Then a b) s p = done_templates b (done s p a) p ∙ done_templates a s p
done_templates _ s p = refl

delivered_templates : (s : State) (shift : ℕ) (receiver : Option Operand) (v : Option Val) → (delivered s shift receiver v).state.templates ≡ s.templates
delivered_templates s shift receiver None = refl
delivered_templates s shift (Some (operands.InSpace base offset attr)) (Some v) = refl
delivered_templates s shift _ (Some v) = refl

start_templates : (s : State) (p : ℕ) (x : Option ProcessEntry) → (start_at s p x).templates ≡ s.templates
start_templates s p None = refl
start_templates s p (Some x) = refl

finish_templates : (s : State) (p : ℕ) (x : Option ProcessEntry) → (end_at s p x).templates ≡ s.templates
finish_templates s p None = refl
finish_templates s p (Some x) = all_decommitted_templates s.units s p

pub effect_templates : (s : State) (p : ℕ) (e : Event) → (effect_of s p e).state.templates ≡ s.templates
unfolding effect_of effect
effect_templates s p Start = start_templates s p (process_entry s p)
effect_templates s p (Act d t) = delivered_templates (done s p ((row t.op).changes s p d t)) (shift_at s.held t.op t.operands) (receiver_at t.op t.operands) ((row t.op).gives s p d t) ∙ done_templates ((row t.op).changes s p d t) s p
effect_templates s p (Finish cause) = finish_templates s p (process_entry s p)

-- ---- processes

committed_processes : (s : State) (p block : ℕ) (unit : Option CommitUnit) → (committed s p block unit).processes ≡ s.processes
committed_processes s p block None = refl
committed_processes s p block (Some unit) = refl

both_true : (a b : Bool) → (a && b) ≡ true → (a ≡ true) × (b ≡ true)
both_true true b h = (refl, h)
both_true false b h = cc

-- a change that leaves the frames leaves the processes
done_processes : (x : Changes) (s : State) (p : ℕ) → leaves_frames x ≡ true → (done s p x).processes ≡ s.processes
done_processes (Entered block change f) s p leaves = logged_keeps s p block change
done_processes (Framed f) s p leaves = cc
done_processes (Committed block) s p leaves = committed_processes s p block (unit_of s.units block)
done_processes (Decommitted block) s p leaves = decommitted_keeps s p block (unit_of s.units block)
done_processes (Then a b) s p leaves =
    let both = both_true (leaves_frames a) (leaves_frames b) leaves in done_processes b (done s p a) p both.1 ∙ done_processes a s p both.0
done_processes _ s p leaves = refl

delivered_processes : (s : State) (shift : ℕ) (receiver : Option Operand) (v : Option Val) → (delivered s shift receiver v).state.processes ≡ s.processes
delivered_processes s shift receiver None = refl
delivered_processes s shift (Some (operands.InSpace base offset attr)) (Some v) = refl
delivered_processes s shift _ (Some v) = refl

pub act_processes : (s : State) (p d : ℕ) (t : Request) → (effect_of s p (Act d t)).state.processes ≡ (done s p ((row t.op).changes s p d t)).processes
unfolding effect_of effect
act_processes s p d t = delivered_processes (done s p ((row t.op).changes s p d t)) (shift_at s.held t.op t.operands) (receiver_at t.op t.operands) ((row t.op).gives s p d t)

-- so does an instruction that is no call
pub quiet_processes : (s : State) (p d : ℕ) (t : Request) → leaves_frames ((row t.op).changes s p d t) ≡ true → (effect_of s p (Act d t)).state.processes ≡ s.processes
quiet_processes s p d t leaves = act_processes s p d t ∙ done_processes ((row t.op).changes s p d t) s p leaves

-- ---- one process is another one

set_at : {A : Type 0} (xs : List A) (k : ℕ) (x y : A) → slice_get xs k ≡ Some x → slice_get (slice_set xs k y) k ≡ Some y
set_at [] k x y h = cc
set_at (z ∷ xs) zero x y h = refl
set_at (z ∷ xs) (suc k) x y h = set_at xs k x y h

set_beside : {A : Type 0} (xs : List A) (k j : ℕ) (y : A) → j ≢ k → slice_get (slice_set xs k y) j ≡ slice_get xs j
set_beside [] k j y away = refl
set_beside (z ∷ xs) zero zero y away = absurd (away refl)
set_beside (z ∷ xs) zero (suc j) y away = refl
set_beside (z ∷ xs) (suc k) zero y away = refl
set_beside (z ∷ xs) (suc k) (suc j) y away = set_beside xs k j y (λ e. away (ap suc e))

-- of the processes one may be another, and what has started of it is this
pub record Restarts (p : ℕ) (f : Option Started → Option Started) (xs ys : List ProcessEntry) : Type 0 where
  pub own : started_in (slice_get ys (p - 1)) ≡ f (started_in (slice_get xs (p - 1)))
  pub others : (k : ℕ) → k ≢ p - 1 → slice_get ys k ≡ slice_get xs k

restacks_at : (f : List ObjNum → List ObjNum) (s : State) (p : ℕ) (o : Option ProcessEntry) → process_entry s p ≡ o → Restarts p (restacked f) s.processes (restack_at f s p o).processes
restacks_at f s p None is = record { own = ap started_in is ∙ sym (ap (λ o. restacked f (started_in o)) is); others = λ k away. refl }
restacks_at f s p (Some x) is = record {
  own = ap started_in (set_at s.processes (p - 1) x (with_stack f x) is) ∙ sym (ap (λ o. restacked f (started_in o)) is);
  others = λ k away. set_beside s.processes (p - 1) k (with_stack f x) away;
}

-- other frames
pub restacks : (f : List ObjNum → List ObjNum) (s : State) (p : ℕ) → Restarts p (restacked f) s.processes (restack f s p).processes
restacks f s p = restacks_at f s p (process_entry s p) refl

-- its first frame
abbrev pub begun : Held → Option ProcessEntry → Option Started
begun h None = None
begun h (Some x) = Some (started_as h x.job)

begins_at : (s : State) (p : ℕ) (o : Option ProcessEntry) → process_entry s p ≡ o → Restarts p (λ _. begun s.held o) s.processes (start_at s p o).processes
begins_at s p None is = record { own = ap started_in is; others = λ k away. refl }
begins_at s p (Some x) is = record {
  own = ap started_in (set_at s.processes (p - 1) x (record x { started = Some (started_as s.held x.job) }) is);
  others = λ k away. set_beside s.processes (p - 1) k (record x { started = Some (started_as s.held x.job) }) away;
}

pub starts : (s : State) (p : ℕ) → Restarts p (λ _. begun s.held (process_entry s p)) s.processes (effect_of s p Start).state.processes
unfolding effect_of
starts s p = begins_at s p (process_entry s p) refl

ends_at : (s : State) (p : ℕ) (o : Option ProcessEntry) → process_entry s p ≡ o → Restarts p (λ x. x) s.processes (end_at s p o).processes
ends_at s p None is = record { own = refl; others = λ k away. refl }
ends_at s p (Some x) is =
    let before : (all_decommitted s p s.units).processes ≡ s.processes = all_decommitted_keeps s.units s p in
    let there : slice_get (all_decommitted s p s.units).processes (p - 1) ≡ Some x = ap (λ (zs : List ProcessEntry). slice_get zs (p - 1)) before ∙ is in
    record {
      own = ap started_in (set_at (all_decommitted s p s.units).processes (p - 1) x (record x { ended = true }) there) ∙ sym (ap started_in is);
      others = λ k away. set_beside (all_decommitted s p s.units).processes (p - 1) k (record x { ended = true }) away ∙ ap (λ (zs : List ProcessEntry). slice_get zs k) before;
    }

pub ends : (s : State) (p : ℕ) (cause : EndCause) → Restarts p (λ x. x) s.processes (effect_of s p (Finish cause)).state.processes
unfolding effect_of
ends s p cause = ends_at s p (process_entry s p) refl

-- ---- the other processes

restacked_others : (f : List ObjNum → List ObjNum) (s : State) (p : ℕ) (o : Option ProcessEntry) (k : ℕ) → k ≢ p - 1 → slice_get (restack_at f s p o).processes k ≡ slice_get s.processes k
restacked_others f s p None k away = refl
restacked_others f s p (Some x) k away = set_beside s.processes (p - 1) k (with_stack f x) away

same_others : (xs ys : List ProcessEntry) (k : ℕ) → ys ≡ xs → slice_get ys k ≡ slice_get xs k
same_others xs ys k same = ap (λ (zs : List ProcessEntry). slice_get zs k) same

done_others : (x : Changes) (s : State) (p k : ℕ) → k ≢ p - 1 → slice_get (done s p x).processes k ≡ slice_get s.processes k
done_others (Entered block change f) s p k away = same_others s.processes _ k (logged_keeps s p block change)
done_others (Framed f) s p k away = restacked_others f s p (process_entry s p) k away
done_others (Committed block) s p k away = same_others s.processes _ k (committed_processes s p block (unit_of s.units block))
done_others (Decommitted block) s p k away = same_others s.processes _ k (decommitted_keeps s p block (unit_of s.units block))
done_others (Then a b) s p k away = done_others b (done s p a) p k away ∙ done_others a s p k away
done_others _ s p k away = refl

effect_others : (s : State) (p : ℕ) (e : Event) (k : ℕ) → k ≢ p - 1 → slice_get (effect_of s p e).state.processes k ≡ slice_get s.processes k
effect_others s p Start k away = (starts s p).others k away
effect_others s p (Act d t) k away = same_others _ _ k (act_processes s p d t) ∙ done_others ((row t.op).changes s p d t) s p k away
effect_others s p (Finish cause) k away = (ends s p cause).others k away

-- a step leaves each other process as it was
pub step_others : (s : State) (p : ℕ) (e : Event) (k : ℕ) → k ≢ p - 1 → slice_get (step s p e).state.processes k ≡ slice_get s.processes k
unfolding step
step_others s p e k away = by (waits s p)
  where
    verdict : (v : Verdict) → slice_get (by_verdict s p e v).state.processes k ≡ slice_get s.processes k
    verdict Permit = same_others (effect_of s p e).state.processes _ k (stored_beside s p e (effect_of s p e).state).processes ∙ effect_others s p e k away
    verdict Wait = refl
    verdict (Refuse x) = refl

    by : (b : Bool) → slice_get (by_waiting b s p e).state.processes k ≡ slice_get s.processes k
    by true = refl
    by false = verdict (awake_verdict s p e)
