-- Laws of the definitions that the crates above rest on.
use Rattle.std.proofs.Common.{◌≡◌, ℕ, ◌+◌, ◌-◌, ◌==◌, Bool, true, false, List, [], ◌∷◌, ◌++◌, length, map, refl, sym, ◌∙◌, ap, subst, inl, inr, append_assoc, length-append, length-set, get_or-set_other, arith, zero, suc}
use Rattle.std.proofs.lemmas.List.{append-nil, length-map}
use Rattle.std.proofs.lemmas.List.Elements.{All-cons, All-nil}
use Rattle.std.specs.Prelude.{All, ◌≤◌, Option, Some, None, slice_get, slice_set}
use Rattle.s38_base.specs.declared.id.ObjNum.{ObjNum}
use Rattle.s38_base.specs.declared.op.Op.{Op}
use Rattle.s38_base.specs.declared.op.Op.TheVariants.{Crtctx, Rslvsp, Setsppfp, Crtpg, Lock, Crtq, Crtinx, Crtds, Crtjs}
use Rattle.s38_code.specs.declared.entry.Entry.{Entry}
use Rattle.s38_code.specs.declared.event.Event.{Event}
use Rattle.s38_code.specs.declared.event.Event.TheVariants.{Start, Act, Finish}
use Rattle.s38_code.specs.declared.event.Request.{Request}
use Rattle.s38_code.specs.declared.operand.Operand.{Operand}
use Rattle.s38_code.specs.declared.operand.Operand.TheVariants.{InSpace}
use Rattle.s38_code.specs.declared.reply.Reply.TheVariants.{MustWait}
use Rattle.s38_code.specs.declared.reply.Val.{Val}
use Rattle.s38_code.specs.History.{IsAnswered, entry_after}
use Rattle.s38_commits.specs.declared.change.UnitChange.{UnitChange}
use Rattle.s38_commits.specs.Unit.{CommitUnit}
use Rattle.s38_commits.specs.Units.{UnitMap, unit_of}
use Rattle.s38_rules.specs.declared.process.ProcessEntry.{ProcessEntry}
use Rattle.s38_rules.specs.declared.process.Started.{Started}
use Rattle.s38_rules.specs.declared.verdict.Verdict.{Verdict}
use Rattle.s38_rules.specs.declared.verdict.Verdict.TheVariants.{Permit, Wait, Refuse}
use Rattle.s38_rules.specs.families.Changes.{Changes, Committed, Decommitted, Entered, Framed, Stays, Then, done}
use Rattle.s38_rules.specs.families.Computing.{receiver_at, shift_at}
use Rattle.s38_rules.specs.families.Contexts.{contexts_row}
use Rattle.s38_rules.specs.families.Changing.{logged, logged_in}
use Rattle.s38_rules.specs.families.DataSpaces.{data_spaces_row}
use Rattle.s38_rules.specs.state.Journaling.{journal_for}
use Rattle.s38_rules.specs.families.Journals.{journals_row}
use Rattle.s38_rules.specs.families.Locking.{locks_row}
use Rattle.s38_rules.specs.step.Effect.{effect, effect_of, start_at, end_at}
use Rattle.s38_rules.specs.families.Instruction.{AreKept, Instruction, unstacked}
use Rattle.s38_rules.specs.state.Invocations.{restack, restack_at, restacked, with_stack}
use Rattle.s38_rules.specs.step.Legal.{AreMoments, IsEntry, IsProcess, IsSound, IsStored, Leads, Run, after, after_by, begun, history_after}
use Rattle.s38_rules.specs.ask.Receivers.{deliver, delivered}
use Rattle.s38_rules.specs.families.Programs.{programs_row}
use Rattle.s38_rules.specs.families.Indexes.{indexes_row}
use Rattle.s38_rules.specs.families.Queues.{queues_row}
use Rattle.s38_rules.specs.families.Resolving.{resolving_row}
use Rattle.s38_rules.specs.families.Rows.{row}
use Rattle.s38_rules.specs.families.Spaces.{spaces_row}
use Rattle.s38_rules.specs.state.State.{State, process_entry, waits}
use Rattle.s38_rules.proofs.StoreLaws.{stored_beside}
use Rattle.s38_rules.specs.step.Step.{step, by_verdict, by_waiting}
use Rattle.s38_rules.specs.families.Units.{all_decommitted, committed, decommitted, decommitted_of}
use Rattle.s38_rules.specs.step.Step.{awake_verdict}

-- entries that lead somewhere, and one more from there
pub leads_more : (s : State) (before es : List Entry) (t : State) (e : Entry) → Leads s before es t → IsEntry t (before ++ es) e → Leads s before (es ++ e ∷ []) (step t e.process e.event).state
leads_more s before [] t e h one =
    let here : IsEntry t before e = subst (λ (b : List Entry). IsEntry t b e) (append-nil before) one in
    subst (λ (u : State). IsEntry u before e × ((step u e.process e.event).state ≡ (step t e.process e.event).state)) (sym h) (here, refl)
leads_more s before (x ∷ es) t e h one = (
  h.0,
  leads_more (step s x.process x.event).state (before ++ x ∷ []) es t e h.1
      (subst (λ (b : List Entry). IsEntry t b e) (sym (append_assoc before (x ∷ []) es)) one),
)

by_verdict_silent : (s : State) (p : ℕ) (e : Event) (v : Verdict) → (by_verdict s p e v).enters ≡ false → (by_verdict s p e v).state ≡ s
by_verdict_silent s p e Permit h = cc
by_verdict_silent s p e Wait h = cc
by_verdict_silent s p e (Refuse x) h = refl

by_waiting_silent : (b : Bool) (s : State) (p : ℕ) (e : Event) → (by_waiting b s p e).enters ≡ false → (by_waiting b s p e).state ≡ s
by_waiting_silent true s p e h = refl
by_waiting_silent false s p e h = by_verdict_silent s p e (awake_verdict s p e) h

by_verdict_reply : (s : State) (p : ℕ) (e : Event) (v : Verdict) → (by_verdict s p e v).enters ≡ false → (by_verdict s p e v).reply ≡ MustWait
by_verdict_reply s p e Permit h = cc
by_verdict_reply s p e Wait h = refl
by_verdict_reply s p e (Refuse x) h = cc

by_waiting_reply : (b : Bool) (s : State) (p : ℕ) (e : Event) → (by_waiting b s p e).enters ≡ false → (by_waiting b s p e).reply ≡ MustWait
by_waiting_reply true s p e h = refl
by_waiting_reply false s p e h = by_verdict_reply s p e (awake_verdict s p e) h

silent_reply : (s : State) (p : ℕ) (e : Event) → (step s p e).enters ≡ false → (step s p e).reply ≡ MustWait
unfolding step
silent_reply s p e h = by_waiting_reply (waits s p) s p e h

-- an answer without an entry leaves the state
pub silent : (s : State) (p : ℕ) (e : Event) → (step s p e).enters ≡ false → (step s p e).state ≡ s
unfolding step
silent s p e h = by_waiting_silent (waits s p) s p e h

start_keeps : (s : State) (p : ℕ) (x : Option ProcessEntry) → length (start_at s p x).processes ≡ length s.processes
start_keeps s p None = refl
start_keeps s p (Some x) = simp length-set

pub decommitted_keeps : (s : State) (p block : ℕ) (unit : Option CommitUnit) → (decommitted s p block unit).processes ≡ s.processes
decommitted_keeps s p block None = refl
decommitted_keeps s p block (Some unit) = refl

decommitted_of_keeps : (s : State) (p : ℕ) (e : ℕ × CommitUnit) (b : Bool) → (e.1.process == p) ≡ b → (decommitted_of s p e).processes ≡ s.processes
decommitted_of_keeps s p e true h = rw h refl
decommitted_of_keeps s p e false h = rw h refl

-- units are taken back without a change of a process
pub all_decommitted_keeps : (units : UnitMap) (s : State) (p : ℕ) → (all_decommitted s p units).processes ≡ s.processes
unfolding all_decommitted
all_decommitted_keeps [] s p = refl
all_decommitted_keeps (e ∷ units) s p = all_decommitted_keeps units (decommitted_of s p e) p ∙ decommitted_of_keeps s p e (e.1.process == p) refl

end_keeps : (s : State) (p : ℕ) (x : Option ProcessEntry) → length (end_at s p x).processes ≡ length s.processes
end_keeps s p None = refl
end_keeps s p (Some x) = length-set _ (p - 1) _ ∙ ap length (all_decommitted_keeps s.units s p)

deliver_keeps : (s : State) (shift : ℕ) (receiver : Option Operand) (v : Val) → (deliver s shift receiver v).state.processes ≡ s.processes
deliver_keeps s shift (Some (InSpace base offset attr)) v = refl
deliver_keeps s shift _ v = refl

delivered_keeps : (s : State) (shift : ℕ) (receiver : Option Operand) (v : Option Val) → (delivered s shift receiver v).state.processes ≡ s.processes
delivered_keeps s shift receiver None = refl
delivered_keeps s shift receiver (Some v) = deliver_keeps s shift receiver v

-- ---- no change makes a process or takes one away, and of its own a process has at most other frames: one case a word

same_kept : (p : ℕ) (xs : List ProcessEntry) → AreKept p xs xs
same_kept p xs = record { stays = refl; others = λ k d h. refl }

still : (p : ℕ) (xs ys : List ProcessEntry) → ys ≡ xs → AreKept p xs ys
still p xs ys same = subst (λ (zs : List ProcessEntry). AreKept p xs zs) (sym same) (same_kept p xs)

unstack_restacked : (f : List ObjNum → List ObjNum) (o : Option Started) → restacked (λ frames. []) (restacked f o) ≡ restacked (λ frames. []) o
unstack_restacked f None = refl
unstack_restacked f (Some p) = refl

unstack_with : (f : List ObjNum → List ObjNum) (x : ProcessEntry) → unstacked (with_stack f x) ≡ unstacked x
unstack_with f x = ap (λ (o : Option Started). record x { started = o }) (unstack_restacked f x.started)

set_stays : (xs : List ProcessEntry) (k : ℕ) (x y : ProcessEntry) → slice_get xs k ≡ Some x → unstacked y ≡ unstacked x → map unstacked (slice_set xs k y) ≡ map unstacked xs
set_stays [] k x y h e = refl
set_stays (z ∷ xs) zero x y h e = ap (λ o. o ∷ map unstacked xs) (e ∙ ap unstacked (some_is x z (sym h)))
  where
    some_is : (a b : ProcessEntry) → Some a ≡ Some b → a ≡ b
    some_is a b g = cc
set_stays (z ∷ xs) (suc k) x y h e = ap (λ os. unstacked z ∷ os) (set_stays xs k x y h e)

restack_kept : (f : List ObjNum → List ObjNum) (s : State) (p : ℕ) (o : Option ProcessEntry) → process_entry s p ≡ o → AreKept p s.processes (restack_at f s p o).processes
restack_kept f s p None h = same_kept p s.processes
restack_kept f s p (Some x) h = record {
  stays = set_stays s.processes (p - 1) x (with_stack f x) h (unstack_with f x);
  others = λ k d away. rw get_or-set_other refl;
}

-- other frames of a process
restacks : (f : List ObjNum → List ObjNum) (s : State) (p : ℕ) → AreKept p s.processes (restack f s p).processes
restacks f s p = restack_kept f s p (process_entry s p) refl

-- one change after another
kept_then : (p : ℕ) (xs ys zs : List ProcessEntry) → AreKept p xs ys → AreKept p ys zs → AreKept p xs zs
kept_then p xs ys zs a b = record { stays = b.stays ∙ a.stays; others = λ k d away. b.others k d away ∙ a.others k d away }

logged_in_keeps : (s : State) (p block : ℕ) (change : UnitChange) (journal : Option ℕ) → (logged_in s p block change journal).processes ≡ s.processes
logged_in_keeps s p block change None = refl
logged_in_keeps s p block change (Some journal) = refl

-- a change is logged without a change of a process
pub logged_keeps : (s : State) (p block : ℕ) (change : UnitChange) → (logged s p block change).processes ≡ s.processes
unfolding logged
logged_keeps s p block change = logged_in_keeps s p block change (journal_for s.held change.space.0)

committed_keeps : (s : State) (p block : ℕ) (unit : Option CommitUnit) → (committed s p block unit).processes ≡ s.processes
committed_keeps s p block None = refl
committed_keeps s p block (Some unit) = refl

pub done_keeps : (x : Changes) (s : State) (p : ℕ) → AreKept p s.processes (done s p x).processes
done_keeps (Entered block change f) s p = still p s.processes _ (logged_keeps s p block change)
done_keeps (Framed f) s p = restacks f s p
done_keeps (Committed block) s p = still p s.processes _ (committed_keeps s p block (unit_of s.units block))
done_keeps (Decommitted block) s p = still p s.processes _ (decommitted_keeps s p block (unit_of s.units block))
done_keeps (Then a b) s p = kept_then p s.processes (done s p a).processes _ (done_keeps a s p) (done_keeps b (done s p a) p)
done_keeps _ s p = same_kept p s.processes

-- resolving changes nothing at all
pub resolving_still : (op : Op) (s : State) (p d : ℕ) (r : Request) → (resolving_row op).changes s p d r ≡ Stays
unfolding resolving_row
resolving_still Rslvsp s p d r = refl
resolving_still _ s p d r = refl

-- ---- no row of these families needs a special authority

pub unspecial_contexts : (op : Op) (s : State) (p d : ℕ) (r : Request) → (contexts_row op).special s p d r ≡ 0
unfolding contexts_row
unspecial_contexts Crtctx s p d r = refl
unspecial_contexts _ s p d r = refl

pub unspecial_resolving : (op : Op) (s : State) (p d : ℕ) (r : Request) → (resolving_row op).special s p d r ≡ 0
unfolding resolving_row
unspecial_resolving Rslvsp s p d r = refl
unspecial_resolving _ s p d r = refl

pub unspecial_programs : (op : Op) (s : State) (p d : ℕ) (r : Request) → (programs_row op).special s p d r ≡ 0
unfolding programs_row
unspecial_programs Crtpg s p d r = refl
unspecial_programs _ s p d r = refl

pub unspecial_locks : (op : Op) (s : State) (p d : ℕ) (r : Request) → (locks_row op).special s p d r ≡ 0
unfolding locks_row
unspecial_locks Lock s p d r = refl
unspecial_locks _ s p d r = refl

pub unspecial_spaces : (op : Op) (s : State) (p d : ℕ) (r : Request) → (spaces_row op).special s p d r ≡ 0
unfolding spaces_row
unspecial_spaces Setsppfp s p d r = refl
unspecial_spaces _ s p d r = refl

pub unspecial_queues : (op : Op) (s : State) (p d : ℕ) (r : Request) → (queues_row op).special s p d r ≡ 0
unfolding queues_row
unspecial_queues Crtq s p d r = refl
unspecial_queues _ s p d r = refl

pub unspecial_indexes : (op : Op) (s : State) (p d : ℕ) (r : Request) → (indexes_row op).special s p d r ≡ 0
unfolding indexes_row
unspecial_indexes Crtinx s p d r = refl
unspecial_indexes _ s p d r = refl

pub unspecial_data_spaces : (op : Op) (s : State) (p d : ℕ) (r : Request) → (data_spaces_row op).special s p d r ≡ 0
unfolding data_spaces_row
unspecial_data_spaces Crtds s p d r = refl
unspecial_data_spaces _ s p d r = refl

pub unspecial_journals : (op : Op) (s : State) (p d : ℕ) (r : Request) → (journals_row op).special s p d r ≡ 0
unfolding journals_row
unspecial_journals Crtjs s p d r = refl
unspecial_journals _ s p d r = refl

-- ---- effects

-- an effect keeps the processes
pub act_keeps : (i : Instruction) (s : State) (p d : ℕ) (r : Request) → AreKept p s.processes (effect i s p d r).state.processes
unfolding effect
act_keeps i s p d r =
    subst (λ (ys : List ProcessEntry). AreKept p s.processes ys)
    (sym (delivered_keeps (done s p (i.changes s p d r)) (shift_at s.held r.op r.operands) (receiver_at r.op r.operands) (i.gives s p d r)))
    (done_keeps (i.changes s p d r) s p)

-- as many processes as before
pub kept_count : (p : ℕ) (xs ys : List ProcessEntry) → AreKept p xs ys → length ys ≡ length xs
kept_count p xs ys kept = sym (length-map ys unstacked) ∙ ap length kept.stays ∙ length-map xs unstacked

-- an effect neither makes a process nor takes one away
pub effect_keeps : (s : State) (p : ℕ) (e : Event) → length (effect_of s p e).state.processes ≡ length s.processes
unfolding effect_of
effect_keeps s p Start = start_keeps s p (process_entry s p)
effect_keeps s p (Act depth request) = kept_count p s.processes _ (act_keeps (row request.op) s p depth request)
effect_keeps s p (Finish cause) = end_keeps s p (process_entry s p)

verdict_keeps : (s : State) (p : ℕ) (e : Event) (v : Verdict) → length (by_verdict s p e v).state.processes ≡ length s.processes
verdict_keeps s p e Permit = rw (stored_beside s p e (effect_of s p e).state).processes (effect_keeps s p e)
verdict_keeps s p e Wait = refl
verdict_keeps s p e (Refuse x) = refl

waiting_keeps : (b : Bool) (s : State) (p : ℕ) (e : Event) → length (by_waiting b s p e).state.processes ≡ length s.processes
waiting_keeps true s p e = refl
waiting_keeps false s p e = verdict_keeps s p e (awake_verdict s p e)

-- a step neither makes a process nor takes one away
pub step_keeps : (s : State) (p : ℕ) (e : Event) → length (step s p e).state.processes ≡ length s.processes
unfolding step
step_keeps s p e = waiting_keeps (waits s p) s p e

-- ---- moments

moments_later : (first : ℕ) (marks : List ℕ) (now later : ℕ) → AreMoments first marks now → now ≤ later → AreMoments first marks later
moments_later first [] now later moments after = omega (arith, moments, after)
moments_later first (mark ∷ marks) now later moments after = (moments.0, moments_later mark marks now later moments.1 after)

moments_more : (first : ℕ) (marks : List ℕ) (now mark : ℕ) → AreMoments first marks now → now ≤ mark → AreMoments first (marks ++ mark ∷ []) mark
moments_more first [] now mark moments after = (omega (arith, moments, after), omega arith)
moments_more first (m ∷ marks) now mark moments after = (moments.0, moments_more m marks now mark moments.1 after)

moments_rise : (first : ℕ) (marks : List ℕ) (now : ℕ) → AreMoments first marks now → first ≤ now
moments_rise first [] now moments = moments
moments_rise first (mark ∷ marks) now moments = omega (arith, moments.0, moments_rise mark marks now moments.1)

-- where the moment stayed, all marks are that moment
moments_stay : (first : ℕ) (marks : List ℕ) → AreMoments first marks first → All (λ mark. mark ≡ first) marks
moments_stay first [] moments = All-nil (λ mark. mark ≡ first)
moments_stay first (mark ∷ marks) moments =
    let same : mark ≡ first = omega (arith, moments.0, moments_rise mark marks first moments.1) in
    All-cons (λ m. m ≡ first) mark marks same (moments_stay first marks (subst (λ (m : ℕ). AreMoments m marks first) same moments.1))

-- an entry more, and its mark
stored_more : (m : Run) (mark p : ℕ) (e : Event) → (step m.state p e).enters ≡ true → IsStored m → m.moment ≤ mark → IsStored (after_by m mark p e (step m.state p e))
stored_more m mark p e h stored later = record {
  marked = rw h (simp length-append (ap (λ n. n + 1) stored.marked));
  stamped = rw h (moments_more m.first m.marks m.moment mark stored.stamped later);
}

-- no entry more
stored_later : (m : Run) (mark p : ℕ) (e : Event) → (step m.state p e).enters ≡ false → IsStored m → m.moment ≤ mark → IsStored (after_by m mark p e (step m.state p e))
stored_later m mark p e h stored later = record {
  marked = rw h stored.marked;
  stamped = rw h (moments_later m.first m.marks m.moment mark stored.stamped later);
}

-- where the moment stayed, each entry has that moment as its mark
pub marked_still : (m : Run) → IsStored m → m.moment ≡ m.first → (length m.marks ≡ length m.history) × All (λ mark. mark ≡ m.first) m.marks
marked_still m stored still = (stored.marked, moments_stay m.first m.marks (subst (λ (n : ℕ). AreMoments m.first m.marks n) still stored.stamped))

-- a machine that has just begun has no mark
stored_begun : (moment : ℕ) (s : State) → IsStored (begun moment s)
stored_begun moment s = record { marked = refl; stamped = omega arith }

sound_by : (m : Run) (mark p : ℕ) (e : Event) (b : Bool) → (step m.state p e).enters ≡ b → IsSound m → IsProcess m.origin p → m.moment ≤ mark → IsSound (after_by m mark p e (step m.state p e))
sound_by m mark p e true h sound may later =
    let here : IsProcess m.state p = record { first = may.first; last = rw sound.kept may.last } in
    let one : IsEntry m.state ([] ++ m.history) (entry_after m.history p e (step m.state p e).reply) =
    record { process = here; entered = h; reply = refl; seq = refl } in
    record {
      legal = rw h (leads_more m.origin [] m.history m.state _ sound.legal one);
      stored = stored_more m mark p e h sound.stored later;
      kept = step_keeps m.state p e ∙ sound.kept;
    }
sound_by m mark p e false h sound may later =
    record {
      legal = rw h (subst (λ t. Leads m.origin [] m.history t) (sym (silent m.state p e h)) sound.legal);
      stored = stored_later m mark p e h sound.stored later;
      kept = step_keeps m.state p e ∙ sound.kept;
    }

-- a step of a job's process keeps a machine sound
pub sound_after : (m : Run) (mark p : ℕ) (e : Event) → IsSound m → IsProcess m.origin p → m.moment ≤ mark → IsSound (after m mark p e)
unfolding after
sound_after m mark p e sound may later = sound_by m mark p e (step m.state p e).enters refl sound may later

-- a machine that has just begun is sound
pub sound_begun : (moment : ℕ) (s : State) → IsSound (begun moment s)
sound_begun moment s = record { legal = refl; stored = stored_begun moment s; kept = refl }

answered_by : (m : Run) (p : ℕ) (e : Event) (b : Bool) → (step m.state p e).enters ≡ b → IsAnswered p e (step m.state p e).reply m.history (history_after m.history p e (step m.state p e))
answered_by m p e true h = rw h (inl refl)
answered_by m p e false h = rw h (inr (silent_reply m.state p e h, refl))

-- each answer is entered, but that to a process which waits already
pub answered_after : (m : Run) (mark p : ℕ) (e : Event) → IsAnswered p e (step m.state p e).reply m.history (after m mark p e).history
unfolding after
answered_after m mark p e = answered_by m p e (step m.state p e).enters refl

pub origin_after : (m : Run) (mark p : ℕ) (e : Event) → (after m mark p e).origin ≡ m.origin
unfolding after
origin_after m mark p e = refl
