-- Over a history the frames of each process are those of its invocations.
use Rattle.std.proofs.Common.{◌++◌, ◌+◌, ◌-◌, ◌<◌, ◌==◌, ◌∙◌, ◌∷◌, ◌≡◌, ◌≢◌, Bool, List, [], ap, append_assoc, arith, cond, false, inl, inr, length, refl, subst, suc, sym, true, zero, ℕ}
use Rattle.std.proofs.lemmas.Bool.Decides.{nat_tests}
use Rattle.std.proofs.lemmas.List.Elements.{All-cons, All-nil, All-weaker}
use Rattle.std.proofs.lemmas.List.{append-nil}
use Rattle.std.specs.Prelude.{IfSome, None, Option, Some, is_some, slice_get}
use Rattle.s38_base.specs.declared.id.ObjNum.{ObjNum}
use Rattle.s38_code.specs.History.{entries_of, is_of_process}
use Rattle.s38_code.specs.Operations.{family_of}
use Rattle.s38_code.specs.declared.deck.Job.{Job}
use Rattle.s38_code.specs.declared.entry.Entry.{Entry}
use Rattle.s38_code.specs.declared.event.Event.TheVariants.{Act, Finish, Start}
use Rattle.s38_code.specs.declared.event.Event.{Event}
use Rattle.s38_code.specs.declared.event.Request.{Request}
use Rattle.s38_code.specs.declared.made.CheckedTemplate.{CheckedTemplate}
use Rattle.s38_code.specs.declared.made.CreateResult.TheVariants.{Created, Refused}
use Rattle.s38_code.specs.declared.made.CreateResult.{CreateResult}
use Rattle.s38_code.specs.declared.reply.Reply.TheVariants.{Done, MustWait, Signal}
use Rattle.s38_code.specs.declared.reply.Reply.{Reply}
use Rattle.s38_code.specs.declared.reply.Val.{Val}
use Rattle.s38_process.specs.Invocations.{depth_of}
use Rattle.s38_process.specs.Process.{ProcessState, event_of, fresh}
use Rattle.s38_process.specs.AfterReply.{RanFrom, absorbed, process_after}
use Rattle.s38_rules.proofs.StoreLaws.{stored_beside}
use Rattle.s38_laws_processes.specs.owners.Beginnings.{AreAsked, AreChecked, Begin, IsChecked, IsFresh, IsSoundStart, state_over}
use Rattle.s38_rules.specs.store.Room.{Room}
use Rattle.s38_rules.specs.families.Changes.{done}
use Rattle.s38_rules.specs.families.Computing.{is_call}
use Rattle.s38_rules.specs.step.Effect.{effect_of}
use Rattle.s38_rules.specs.state.Held.{Held}
use Rattle.s38_rules.specs.state.Invocations.{in_use, pushed, replaced, restack, stack_in, stack_of}
use Rattle.s38_rules.specs.step.Legal.{IsEntry, IsProcess, Leads}
use Rattle.s38_rules.specs.state.Opening.{process_entries}
use Rattle.s38_rules.specs.ask.Operands.{target}
use Rattle.s38_rules.specs.families.Programs.{program_by}
use Rattle.s38_rules.specs.state.State.{State, process_entry, started, started_in, waits}
use Rattle.s38_rules.specs.step.Step.{awake, awake_verdict, by_verdict, by_waiting, step}
use Rattle.s38_rules.specs.store.Storing.{stored}
use Rattle.s38_rules.specs.declared.process.ProcessEntry.{ProcessEntry}
use Rattle.s38_rules.specs.declared.process.Started.{Started}
use Rattle.s38_rules.specs.declared.verdict.Verdict.TheVariants.{Permit, Refuse, Wait}
use Rattle.s38_rules.specs.declared.verdict.Verdict.{Verdict}
use Rattle.s38_laws_processes.proofs.owners.CallLaws.{call_by, call_reaches, call_values, callx_frames, callx_room, permitted_unrefused, xctl_frames}
use Rattle.s38_laws_processes.proofs.owners.FrameLaws.{IsCheckedProgram, agree_of, known_next, known_of}
use Rattle.s38_laws_processes.proofs.owners.ObjectLaws.{Follows, same_follows}
use Rattle.s38_laws_processes.proofs.owners.RowLaws.{OfTemplates, row_quiet}
use Rattle.s38_laws_processes.proofs.owners.StackLaws.{absorbed_kept, asks_for}
use Rattle.s38_laws_processes.proofs.owners.StateLaws.{act_processes, effect_templates, ends, quiet_processes, restacks, starts, step_others}
use Rattle.s38_laws_processes.proofs.owners.StepLaws.{AreKept, ProcessAgrees, acted, asked_begins, called, effect_follows, goes_on, signalled, started_own, still_agrees, stored_follows, transferred}
use Rattle.s38_laws_processes.specs.owners.Owners.{ActsFor, Agree, AllOwnersAgree, IsActedFor, OwnersAgree}

-- ---- a step

-- what is kept after a step, and the objects
pub record StepKeeps (s t : State) : Type 0 where
  pub kept : AreKept t
  pub follows : Follows IsCheckedProgram s.held t.held

verdict_keeps : (s : State) (p : ℕ) (e : Event) (v : Verdict) → AreKept s → StepKeeps s (by_verdict s p e v).state
verdict_keeps s p e Permit kept =
    let t = (effect_of s p e).state in
    let follows = stored_follows s.held s p e t (effect_follows s p e kept.templates) in
    let templates : (stored s p e t).templates ≡ s.templates = (stored_beside s p e t).templates ∙ effect_templates s p e in
    record {
      kept = record { known = known_next s.held (stored s p e t).held kept.known follows; templates = subst (OfTemplates IsCheckedProgram) (sym templates) kept.templates };
      follows = follows;
    }
verdict_keeps s p e Wait kept = record { kept = record { known = kept.known; templates = kept.templates }; follows = same_follows IsCheckedProgram s.held }
verdict_keeps s p e (Refuse x) kept = record { kept = kept; follows = same_follows IsCheckedProgram s.held }

pub step_keeps : (s : State) (p : ℕ) (e : Event) → AreKept s → StepKeeps s (step s p e).state
unfolding step
step_keeps s p e kept = by (waits s p)
  where
    by : (b : Bool) → StepKeeps s (by_waiting b s p e).state
    by true = record { kept = kept; follows = same_follows IsCheckedProgram s.held }
    by false = verdict_keeps s p e (awake_verdict s p e) kept

-- what has started of a process, of these processes
started_of : (s t : State) (p : ℕ) (xs : List ProcessEntry) (o : Option Started) → t.processes ≡ xs → started_in (slice_get xs (p - 1)) ≡ o → started t p ≡ o
started_of s t p xs o same is = ap (λ (ys : List ProcessEntry). started_in (slice_get ys (p - 1))) same ∙ is

-- the one that asked, after an instruction that took effect
act_stands : (s t : State) (p : ℕ) (own : CreateResult) (d : ProcessState) (depth : ℕ) (r : Request) → AreKept s → awake_verdict s p (Act depth r) ≡ Permit → event_of d ≡ Some (Act depth r)
    → Follows IsCheckedProgram s.held t.held → t.processes ≡ (effect_of s p (Act depth r)).state.processes → ProcessAgrees s p own d → ProcessAgrees t p own (absorbed d (Done (effect_of s p (Act depth r)).values))
act_stands s t p own d depth r kept may asks follows same stands = by (is_call r.op) refl
  where
    vs : List Val
    vs = (effect_of s p (Act depth r)).values

    into : is_call r.op ≡ true → ProcessAgrees t p own (absorbed d (Done vs))
    into call =
        let unrefused = permitted_unrefused s p depth r may in
        let some = asked_begins d depth r (asks_for d depth r asks) stands.checked call in
        let reached = call_reaches s p depth r some.first some.more call some.is unrefused in
        let came = call_values s p depth r call reached in
        let frame : ObjNum = record { 0 = target s.held r.operands 1 } in
        elim (call_by r.op call) as (λ _. ProcessAgrees t p own (absorbed d (Done vs))) [
          | inl op ↦
              let xs : t.processes ≡ (restack (pushed depth frame) s p).processes = same ∙ act_processes s p depth r ∙ ap (λ x. (done s p x).processes) (callx_frames s p depth r op) in
              called s t p own d depth r vs kept.known follows asks reached came op (callx_room s p depth r op unrefused)
              (started_of s t p (restack (pushed depth frame) s p).processes _ xs (restacks (pushed depth frame) s p).own) stands
          | inr op ↦
              let xs : t.processes ≡ (restack (replaced depth frame) s p).processes = same ∙ act_processes s p depth r ∙ ap (λ x. (done s p x).processes) (xctl_frames s p depth r op) in
              transferred s t p own d depth r vs kept.known follows asks reached came op
              (started_of s t p (restack (replaced depth frame) s p).processes _ xs (restacks (replaced depth frame) s p).own) stands
        ]

    by : (b : Bool) → is_call r.op ≡ b → ProcessAgrees t p own (absorbed d (Done vs))
    by true call = into call
    by false other =
        let quiet = row_quiet IsCheckedProgram (family_of r.op) r.op s p depth r kept.templates in
        acted s t p own d depth r vs follows (started_of s t p s.processes (started s p) (same ∙ quiet_processes s p depth r (quiet.leaves other)) refl) asks other stands

permit_stands : (s t : State) (p : ℕ) (own : CreateResult) (d : ProcessState) (e : Event) → is_some (process_entry s p) ≡ true → AreKept s → awake_verdict s p e ≡ Permit → event_of d ≡ Some e
    → Follows IsCheckedProgram s.held t.held → t.processes ≡ (effect_of s p e).state.processes → ProcessAgrees s p own d → ProcessAgrees t p own (absorbed d (Done (effect_of s p e).values))
permit_stands s t p own d Start there kept may asks follows same stands =
    started_own s t p own d (effect_of s p Start).values there (started_of s t p (effect_of s p Start).state.processes _ same (starts s p).own) asks stands
permit_stands s t p own d (Act depth r) there kept may asks follows same stands = act_stands s t p own d depth r kept may asks follows same stands
permit_stands s t p own d (Finish cause) there kept may asks follows same stands =
    let vs = (effect_of s p (Finish cause)).values in
    goes_on s t p own d (Finish cause) (Done vs) (λ none. none) follows (started_of s t p (effect_of s p (Finish cause)).state.processes (started s p) same (ends s p cause).own) asks
    (λ P closed h. absorbed_kept P closed d (Finish cause) (Done vs) asks tt h) stands

no_values : (vs : List Val) → MustWait ≡ Done vs → ⊥
no_values vs h = cc

verdict_stands : (s : State) (p : ℕ) (own : CreateResult) (d : ProcessState) (e : Event) (v : Verdict) → is_some (process_entry s p) ≡ true → AreKept s → awake_verdict s p e ≡ v → event_of d ≡ Some e
    → ProcessAgrees s p own d → ProcessAgrees (by_verdict s p e v).state p own (absorbed d (by_verdict s p e v).reply)
verdict_stands s p own d e Permit there kept is asks stands =
    let t = (effect_of s p e).state in
    permit_stands s (awake (stored s p e t)) p own d e there kept is asks (stored_follows s.held s p e t (effect_follows s p e kept.templates)) (stored_beside s p e t).processes stands
verdict_stands s p own d e Wait there kept is asks stands =
    still_agrees s (record s { waiting = p ∷ s.waiting }) p own (absorbed d MustWait) (same_follows IsCheckedProgram s.held) refl (signalled s p own d e MustWait no_values asks stands)
verdict_stands s p own d e (Refuse x) there kept is asks stands = signalled s p own d e (Signal x) (λ vs h. cc) asks stands

-- the one that asked
pub own_stands : (s : State) (p : ℕ) (own : CreateResult) (d : ProcessState) (e : Event) → is_some (process_entry s p) ≡ true → AreKept s → event_of d ≡ Some e → ProcessAgrees s p own d
    → ProcessAgrees (step s p e).state p own (absorbed d (step s p e).reply)
unfolding step
own_stands s p own d e there kept asks stands = by (waits s p)
  where
    by : (b : Bool) → ProcessAgrees (by_waiting b s p e).state p own (absorbed d (by_waiting b s p e).reply)
    by true = signalled s p own d e MustWait no_values asks stands
    by false = verdict_stands s p own d e (awake_verdict s p e) there kept refl asks stands

-- ---- entries of one process

entries_append : (p : ℕ) (xs ys : List Entry) → entries_of p (xs ++ ys) ≡ entries_of p xs ++ entries_of p ys
entries_append p [] ys = refl
entries_append p (x ∷ xs) ys = by (is_of_process p x) (entries_append p xs ys)
  where
    by : (b : Bool) → entries_of p (xs ++ ys) ≡ entries_of p xs ++ entries_of p ys
        → cond b (x ∷ entries_of p (xs ++ ys)) (entries_of p (xs ++ ys)) ≡ cond b (x ∷ entries_of p xs) (entries_of p xs) ++ entries_of p ys
    by true rest = ap (λ (l : List Entry). x ∷ l) rest
    by false rest = rest

own_entries : (p : ℕ) (before es : List Entry) (e : Entry) → e.process ≡ p → entries_of p (before ++ e ∷ es) ≡ entries_of p before ++ e ∷ entries_of p es
own_entries p before es e own =
    let on : is_of_process p e ≡ true = grind (arith, nat_tests) in
    entries_append p before (e ∷ es) ∙ ap (λ (b : Bool). entries_of p before ++ cond b (e ∷ entries_of p es) (entries_of p es)) on

other_entries : (p : ℕ) (before es : List Entry) (e : Entry) → (e.process == p) ≡ false → entries_of p (before ++ e ∷ es) ≡ entries_of p before ++ entries_of p es
other_entries p before es e off = entries_append p before (e ∷ es) ∙ ap (λ (b : Bool). entries_of p before ++ cond b (e ∷ entries_of p es) (entries_of p es)) off

-- what the process asks after its first entries is its next one
asked_next : (d : ProcessState) (xs ys : List Entry) (e : Entry) → RanFrom d (xs ++ e ∷ ys) → event_of (process_after d xs) ≡ Some e.event
asked_next d [] ys e h = h.0
asked_next d (x ∷ xs) ys e h = asked_next (absorbed d x.reply) xs ys e h.1

behind_last : (d : ProcessState) (xs : List Entry) (e : Entry) → process_after d (xs ++ e ∷ []) ≡ absorbed (process_after d xs) e.reply
behind_last d [] e = refl
behind_last d (x ∷ xs) e = behind_last (absorbed d x.reply) xs e

-- the event of an entry is what its process asks
pub entry_asked : (processes : List ProcessState) (before es : List Entry) (e : Entry) (k : ℕ) (d : ProcessState) → AreAsked processes (before ++ e ∷ es) → slice_get processes k ≡ Some d → e.process ≡ k + 1
    → event_of (process_after d (entries_of (k + 1) before)) ≡ Some e.event
entry_asked processes before es e k d asked there own =
    asked_next d (entries_of (k + 1) before) (entries_of (k + 1) es) e (subst (RanFrom d) (own_entries (k + 1) before es e own) (asked.each k d there))

pub after_own : (before : List Entry) (e : Entry) (k : ℕ) (d : ProcessState) → e.process ≡ k + 1 → process_after d (entries_of (k + 1) (before ++ e ∷ [])) ≡ absorbed (process_after d (entries_of (k + 1) before)) e.reply
after_own before e k d own = ap (process_after d) (own_entries (k + 1) before [] e own) ∙ behind_last d (entries_of (k + 1) before) e

pub after_other : (before : List Entry) (e : Entry) (k : ℕ) (d : ProcessState) → (e.process == k + 1) ≡ false → process_after d (entries_of (k + 1) (before ++ e ∷ [])) ≡ process_after d (entries_of (k + 1) before)
after_other before e k d off = ap (process_after d) (other_entries (k + 1) before [] e off ∙ append-nil (entries_of (k + 1) before))

-- ---- all processes

some_at : (xs : List ProcessEntry) (k : ℕ) → k < length xs → is_some (slice_get xs k) ≡ true
some_at [] k few = absurd (omega arith)
some_at (x ∷ xs) zero few = refl
some_at (x ∷ xs) (suc k) few = some_at xs k (omega (arith, few))

is_there : (s : State) (p : ℕ) → IsProcess s p → is_some (process_entry s p) ≡ true
is_there s p is = some_at s.processes (p - 1) (omega (arith, is.first, is.last))

pub record AllAgree (processes : List ProcessState) (before : List Entry) (s : State) : Type 0 where
  pub kept : AreKept s
  pub each : (k : ℕ) (d : ProcessState) → slice_get processes k ≡ Some d → ProcessAgrees s (k + 1) d.stack.top.made (process_after d (entries_of (k + 1) before))

started_other : (s t : State) (p q : ℕ) → ((k : ℕ) → k ≢ p - 1 → slice_get t.processes k ≡ slice_get s.processes k) → 0 < p → 0 < q → p ≢ q → started t q ≡ started s q
started_other s t p q others first some away =
    let apart : q - 1 ≢ p - 1 = λ h. away (omega (arith, h, first, some)) in ap started_in (others (q - 1) apart)

pub all_next : (processes : List ProcessState) (before es : List Entry) (e : Entry) (s : State) → AllAgree processes before s → IsEntry s before e → AreAsked processes (before ++ e ∷ es)
    → AllAgree processes (before ++ e ∷ []) (step s e.process e.event).state
all_next processes before es e s all entry asked = record { kept = keeps.kept; each = λ k d there. by k d there (e.process == k + 1) refl }
  where
    t : State
    t = (step s e.process e.event).state

    keeps : StepKeeps s t
    keeps = step_keeps s e.process e.event all.kept

    own : (k : ℕ) (d : ProcessState) → slice_get processes k ≡ Some d → e.process ≡ k + 1 → ProcessAgrees t (k + 1) d.stack.top.made (process_after d (entries_of (k + 1) (before ++ e ∷ [])))
    own k d there is =
        let now = process_after d (entries_of (k + 1) before) in
        let asks = entry_asked processes before es e k d asked there is in
        let stands = subst (λ q. ProcessAgrees s q d.stack.top.made now) (sym is) (all.each k d there) in
        let next = own_stands s e.process d.stack.top.made now e.event (is_there s e.process entry.process) all.kept asks stands in
        let at = subst (λ q. ProcessAgrees t q d.stack.top.made (absorbed now (step s e.process e.event).reply)) is next in
        let replied = subst (λ (r : Reply). ProcessAgrees t (k + 1) d.stack.top.made (absorbed now r)) entry.reply at in
        subst (ProcessAgrees t (k + 1) d.stack.top.made) (sym (after_own before e k d is)) replied

    other : (k : ℕ) (d : ProcessState) → slice_get processes k ≡ Some d → (e.process == k + 1) ≡ false → ProcessAgrees t (k + 1) d.stack.top.made (process_after d (entries_of (k + 1) (before ++ e ∷ [])))
    other k d there off =
        let away : e.process ≢ k + 1 = λ h. grind (arith, nat_tests) in
        let same = started_other s t e.process (k + 1) (step_others s e.process e.event) entry.process.first (omega arith) away in
        subst (ProcessAgrees t (k + 1) d.stack.top.made) (sym (after_other before e k d off)) (still_agrees s t (k + 1) d.stack.top.made (process_after d (entries_of (k + 1) before)) keeps.follows same (all.each k d there))

    by : (k : ℕ) (d : ProcessState) → slice_get processes k ≡ Some d → (b : Bool) → (e.process == k + 1) ≡ b → ProcessAgrees t (k + 1) d.stack.top.made (process_after d (entries_of (k + 1) (before ++ e ∷ [])))
    by k d there true is = let same : e.process ≡ k + 1 = grind (arith, nat_tests) in own k d there same
    by k d there false off = other k d there off

-- ---- a history

some_of : (o : Option Started) → is_some o ≡ true → (x : Started) × (o ≡ Some x)
some_of None h = cc
some_of (Some x) h = (x, refl)

stands_agree : (s : State) (p : ℕ) (own : CreateResult) (d : ProcessState) → ProcessAgrees s p own d → is_some (started s p) ≡ true → Agree s.held own (in_use (depth_of d.stack) (stack_of s p)) d.stack
stands_agree s p own d stands is =
    let x = some_of (started s p) is in
    subst (λ o. Agree s.held own (in_use (depth_of d.stack) (stack_in o)) d.stack) (sym x.1) (agree_of s.held own x.0.stack d.stack (stands.agree x.0 x.1))

all_agree : (processes : List ProcessState) (before : List Entry) (s : State) → AllAgree processes before s → OwnersAgree processes before s
all_agree processes before s all k d there =
    let now = process_after d (entries_of (k + 1) before) in
    let stands = all.each k d there in
    record { begun = stands.begun; agree = stands_agree s (k + 1) d.stack.top.made now stands }

acts_for : (s : State) (p : ℕ) (own : CreateResult) (d : ProcessState) (e : Event) → ProcessAgrees s p own d → event_of d ≡ Some e → ActsFor s p own d.stack e
acts_for s p own d Start stands asks = tt
acts_for s p own d (Act depth r) stands asks =
    let for = asks_for d depth r asks in
    (for.deep, subst (λ n. Agree s.held own (in_use n (stack_of s p)) d.stack) (sym for.deep) (stands_agree s p own d stands (stands.begun for.running)))
acts_for s p own d (Finish cause) stands asks = tt

entry_acts : (processes : List ProcessState) (before es : List Entry) (e : Entry) (s : State) → AllAgree processes before s → AreAsked processes (before ++ e ∷ es) → IsActedFor processes before s e
entry_acts processes before es e s all asked k d there own =
    let now = process_after d (entries_of (k + 1) before) in
    acts_for s e.process d.stack.top.made now e.event (subst (λ q. ProcessAgrees s q d.stack.top.made now) (sym own) (all.each k d there)) (entry_asked processes before es e k d asked there own)

owners_on : (processes : List ProcessState) (s : State) (before history : List Entry) (end : State) → AllAgree processes before s → Leads s before history end → AreAsked processes (before ++ history)
    → AllOwnersAgree processes s before history
owners_on processes s before [] end all leads asked = all_agree processes before s all
owners_on processes s before (e ∷ es) end all leads asked = (
  all_agree processes before s all,
  entry_acts processes before es e s all asked,
  owners_on processes (step s e.process e.event).state (before ++ e ∷ []) es end (all_next processes before es e s all leads.0 asked) leads.1
      (subst (AreAsked processes) (sym (append_assoc before (e ∷ []) es)) asked),
)

-- ---- the beginning

checked_by : (made : CreateResult) → IsChecked made → IfSome (program_by made) IsCheckedProgram
checked_by (Created program) checked = checked
checked_by (Refused id number) checked = tt

templates_of : (templates : List CheckedTemplate) → AreChecked templates → OfTemplates IsCheckedProgram templates
templates_of templates checked = All-weaker (λ (t : CheckedTemplate). IsChecked t.made) (λ (t : CheckedTemplate). IfSome (program_by t.made) IsCheckedProgram) (λ t is. checked_by t.made is) templates checked

fresh_stands : (s : State) (p : ℕ) (d : ProcessState) → started s p ≡ None → IsFresh d → ProcessAgrees s p d.stack.top.made d
fresh_stands s p d none fresh = subst (λ (x : ProcessState). ProcessAgrees s p x.stack.top.made x) (sym fresh.is) (record {
  young = λ h. refl;
  begun = λ h. cc;
  checked = All-cons IsChecked fresh.made [] fresh.checked (All-nil IsChecked);
  agree = λ x is. absurd (apart x (sym none ∙ is));
})
  where
    apart : (x : Started) → None ≡ Some x → ⊥
    apart x h = cc

pub begin_all : (processes : List ProcessState) (first : State) → Begin processes first → AllAgree processes [] first
begin_all processes first begin = record {
  kept = record { known = known_of first.held begin.objects; templates = templates_of first.templates begin.templates };
  each = λ k d there. fresh_stands first (k + 1) d (begin.unstarted (k + 1)) (begin.fresh k d there);
}

pub history_agrees : (processes : List ProcessState) (first : State) (history : List Entry) (end : State) → Begin processes first → Leads first [] history end → AreAsked processes history
    → AllOwnersAgree processes first [] history
history_agrees processes first history end begin leads asked = owners_on processes first [] history end (begin_all processes first begin) leads asked

unstarted_in : (jobs : List Job) (k : ℕ) → started_in (slice_get (process_entries jobs) k) ≡ None
unstarted_in [] k = refl
unstarted_in (job ∷ jobs) zero = refl
unstarted_in (job ∷ jobs) (suc k) = unstarted_in jobs k

pub opening_begins : (room : Option Room) (held : Held) (templates : List CheckedTemplate) (jobs : List Job) (processes : List ProcessState) → IsSoundStart held → AreChecked templates
    → ((k : ℕ) (d : ProcessState) → slice_get processes k ≡ Some d → IsFresh d) → Begin processes (state_over room held templates jobs)
opening_begins room held templates jobs processes order checked fresh = record { objects = order; templates = checked; unstarted = λ p. unstarted_in jobs (p - 1); fresh = fresh }
