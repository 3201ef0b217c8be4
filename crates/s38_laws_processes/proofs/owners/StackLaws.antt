-- Invocations end newest first: what holds of the programs of all invocations, and stays true when the newest one ends,
-- holds wherever a process goes on but into a program.
use Rattle.std.proofs.Common.{◌-◌, ◌∙◌, ◌∷◌, ◌≡◌, Bool, List, [], ap, cond, false, inl, inr, map, refl, subst, suc, sym, take, true, zero, ℕ}
use Rattle.std.proofs.lemmas.Bool.{cond_both}
use Rattle.std.proofs.lemmas.Option.{same_Some}
use Rattle.std.specs.Prelude.{None, Option, Some, nat_le, nat_lt}
use Rattle.s38_base.specs.declared.op.Op.TheVariants.{Callx, Xctl}
use Rattle.s38_base.specs.declared.op.Op.{Op}
use Rattle.s38_code.specs.declared.event.EndCause.TheVariants as causes
use Rattle.s38_code.specs.declared.event.EndCause.{EndCause}
use Rattle.s38_code.specs.declared.event.Event.TheVariants.{Act, Finish, Start}
use Rattle.s38_code.specs.declared.event.Event.{Event}
use Rattle.s38_code.specs.declared.event.Request.{Request}
use Rattle.s38_code.specs.declared.made.CreateResult.TheVariants.{Created, Refused}
use Rattle.s38_code.specs.declared.made.CreateResult.{CreateResult}
use Rattle.s38_code.specs.declared.program.Instruction.{Instruction}
use Rattle.s38_code.specs.declared.program.Program.{Program}
use Rattle.s38_code.specs.declared.reply.Reply.TheVariants as replies
use Rattle.s38_code.specs.declared.reply.Reply.{Reply}
use Rattle.s38_code.specs.declared.reply.Val.{Val}
use Rattle.s38_local.specs.Frames.{Went}
use Rattle.s38_local.specs.declared.local_end.LocalEnd.TheVariants as ends
use Rattle.s38_local.specs.declared.local_end.LocalEnd.{LocalEnd}
use Rattle.s38_process.proofs.Alone.{Moves, settled_later, settled_still}
use Rattle.s38_process.specs.Exceptions.{Offered, label_by, offered, offered_from, or_else}
use Rattle.s38_process.specs.Invocations.{Stack, deepest, depth_of, instruction_of, popped_to, program_rows_in, with_call}
use Rattle.s38_process.specs.Process.{ProcessState, act_of, acts, asks, event_of, is_return, returns, runs, signal_status, with_frame}
use Rattle.s38_process.specs.AfterReply.{absorbed, after_asked, after_event, begun_by, program_returned, went_by, went_into, went_on}
use Rattle.s38_process.specs.LocalRun.{after_local, after_local_run, after_run, alone, alone_by, local_step, local_steps, ran}
use Rattle.s38_process.specs.declared.invocation.Invocation.{Invocation}
use Rattle.s38_process.specs.declared.status.Status.TheVariants.{Ended, Ending, Fresh, Running}
use Rattle.s38_process.specs.declared.status.Status.{Status}
use Rattle.s38_requests.specs.Requests.{request_of}
use Rattle.s38_rules.specs.families.Computing.{is_call}
use Rattle.s38_laws_processes.specs.owners.Owners.{programs_of}

-- what holds of programs holds without the newest
abbrev pub IsClosed : (List CreateResult → Type 0) → Type 0
IsClosed P = (program : CreateResult) (callers : List CreateResult) → P (program ∷ callers) → P callers

abbrev Holds : (List CreateResult → Type 0) → Stack → Type 0
Holds P s = P (programs_of s)

-- ---- invocations end

abbrev mades : List Invocation → List CreateResult
mades callers = map (λ invocation. invocation.made) callers

popped_kept : (P : List CreateResult → Type 0) → IsClosed P → (s : Stack) (callers : List Invocation) → s.callers ≡ callers → Holds P s → Holds P (popped_to s callers)
popped_kept P closed s [] is h = h
popped_kept P closed s (caller ∷ more) is h = closed s.top.made (mades (caller ∷ more)) (subst (λ xs. P (s.top.made ∷ mades xs)) is h)

or_else_kept : (P : List CreateResult → Type 0) (code : ℕ) (s : Stack) (o : Option ℕ) (next : Offered) → Holds P s → Holds P next.stack → Holds P (or_else code s o next).stack
or_else_kept P code s None next h further = further
or_else_kept P code s (Some at) next h further = h

offered_from_kept : (P : List CreateResult → Type 0) → IsClosed P → (code : ℕ) (values : List Val) (top : Invocation) (callers : List Invocation) → P (top.made ∷ mades callers)
    → Holds P (offered_from code values top callers).stack
offered_from_kept P closed code values top [] h =
    let s : Stack = record { values = values; top = top; callers = [] } in
    or_else_kept P code s (label_by top code) (record { stack = s; taken = false }) h h
offered_from_kept P closed code values top (caller ∷ more) h =
    let s : Stack = record { values = values; top = top; callers = caller ∷ more } in
    let n = top.frame.base in
    or_else_kept P code s (label_by top code) (offered_from code (take n values) caller more) h
    (offered_from_kept P closed code (take n values) caller more (closed top.made (mades (caller ∷ more)) h))

offered_kept : (P : List CreateResult → Type 0) → IsClosed P → (code : ℕ) (s : Stack) → Holds P s → Holds P (offered code s).stack
offered_kept P closed code s h = offered_from_kept P closed code s.values s.top s.callers h

-- ---- local instructions

after_local_kept : (P : List CreateResult → Type 0) → IsClosed P → (d : ProcessState) (went : Went) (e : LocalEnd) → Holds P d.stack → Holds P (after_local d went e).stack
after_local_kept P closed d went ends.Next h = h
after_local_kept P closed d went (ends.Jump at) h = h
after_local_kept P closed d went ends.Return h = popped_kept P closed (with_frame d.stack went.values went.frame) d.stack.callers refl h
after_local_kept P closed d went (ends.Signal x) h = offered_kept P closed x.id (with_frame d.stack went.values went.frame) h

step_kept : (P : List CreateResult → Type 0) → IsClosed P → (d : ProcessState) → Holds P d.stack → Holds P (local_step d).stack
unfolding local_step
step_kept P closed d h =
    cond_both (alone d) (after_run d (ran d.stack)) d (λ (e : ProcessState). Holds P e.stack) (λ is. after_local_kept P closed d (ran d.stack) (ran d.stack).end h) (λ is. h)

steps_kept : (P : List CreateResult → Type 0) → IsClosed P → (n : ℕ) (d : ProcessState) → Holds P d.stack → Holds P (local_steps n d).stack
unfolding local_steps
steps_kept P closed zero d h = h
steps_kept P closed (suc n) d h = steps_kept P closed n (local_step d) (step_kept P closed d h)

pub settled_kept : (P : List CreateResult → Type 0) → IsClosed P → (d : ProcessState) → P (programs_of d.stack) → P (programs_of (after_local_run d).stack)
unfolding after_local_run
settled_kept P closed d h = steps_kept P closed (d.budget - d.done) d h

-- ---- what it asks

-- a running process asks for its next instruction
pub record AsksFor (d : ProcessState) (depth : ℕ) (t : Request) : Type 0 where
  pub running : d.status ≡ Running
  pub i : Instruction
  pub next : instruction_of d.stack.top ≡ Some i
  pub deep : depth ≡ depth_of d.stack
  pub request : t ≡ request_of (program_rows_in d.stack.top.made) d.stack.top.frame.homes d.stack.values i

abbrev AsksSo : ProcessState → Event → Type 0
AsksSo d (Act depth t) = d.status ≡ Running → AsksFor d depth t
AsksSo d Start = Unit {0}
AsksSo d (Finish cause) = Unit {0}

acts_so : (d : ProcessState) (o : Option Instruction) → instruction_of d.stack.top ≡ o → AsksSo d (acts d o)
acts_so d None is = tt
acts_so d (Some i) is = cond_both (is_return i.op) (returns d) (act_of d.stack i) (AsksSo d) (λ back. tt)
    (λ on. λ running. record { running = running; i = i; next = is; deep = refl; request = refl })

runs_so : (d : ProcessState) → AsksSo d (runs d)
runs_so d =
    let o = instruction_of d.stack.top in
    cond_both (nat_le d.budget d.done) (Finish causes.Budget) (acts d o) (AsksSo d) (λ spent. tt) (λ left. acts_so d o refl)

asks_so : (d : ProcessState) (status : Status) (depth : ℕ) (t : Request) → d.status ≡ status → asks d status ≡ Some (Act depth t) → AsksFor d depth t
asks_so d Fresh depth t is h = cc
asks_so d Running depth t is h = subst (AsksSo d) (same_Some (runs d) (Act depth t) h) (runs_so d) is
asks_so d (Ending cause) depth t is h = cc
asks_so d Ended depth t is h = cc

pub asks_for : (d : ProcessState) (depth : ℕ) (t : Request) → event_of d ≡ Some (Act depth t) → AsksFor d depth t
unfolding event_of
asks_for d depth t h = asks_so d d.status depth t refl h

-- ---- what comes

-- what is no call goes on in its own program
pub on_in_its_own : (s : Stack) (vs : List Val) (i : Instruction) (op : Op) (came : Option Program) → is_call op ≡ false → programs_of (went_into s vs i op came) ≡ programs_of s
on_in_its_own s vs i Callx came h = cc
on_in_its_own s vs i Xctl came h = cc
on_in_its_own s vs i op came h = refl

-- a call goes into the program that came, if one more invocation may be
pub into_called : (s : Stack) (vs : List Val) (i : Instruction) (op : Op) (program : Program) → op ≡ Callx
    → programs_of (went_into s vs i op (Some program)) ≡ (cond (nat_lt (depth_of s) deepest) (Created program ∷ programs_of s) (programs_of s))
into_called s vs i op program is = ap (λ o. programs_of (went_into s vs i o (Some program))) is ∙ by (nat_lt (depth_of s) deepest)
  where
    by : (b : Bool) → programs_of (cond b (with_call s program) (went_on s (Some i) vs)) ≡ cond b (Created program ∷ programs_of s) (programs_of s)
    by true = refl
    by false = refl

-- a transfer goes into it in place of the newest
pub into_transferred : (s : Stack) (vs : List Val) (i : Instruction) (op : Op) (program : Program) → op ≡ Xctl
    → programs_of (went_into s vs i op (Some program)) ≡ Created program ∷ mades s.callers
into_transferred s vs i op program is = ap (λ o. programs_of (went_into s vs i o (Some program))) is

-- the process that asked for an instruction, after its values
pub behind_values : (d : ProcessState) (depth : ℕ) (t : Request) (vs : List Val) (i : Instruction) → event_of d ≡ Some (Act depth t) → instruction_of d.stack.top ≡ Some i
    → (after_asked d (event_of d) (replies.Done vs)).stack ≡ went_into d.stack vs i i.op (program_returned vs)
behind_values d depth t vs i asks next = ap (λ o. (after_asked d o (replies.Done vs)).stack) asks ∙ ap (λ o. went_by d.stack o vs) next

-- ---- any other event

-- it is no answer with values to an instruction
abbrev pub BringsNone : Event → Reply → Type 0
BringsNone (Act depth t) (replies.Done vs) = ⊥
BringsNone _ _ = Unit {0}

event_kept : (P : List CreateResult → Type 0) → IsClosed P → (d : ProcessState) (e : Event) (r : Reply) → BringsNone e r → P (programs_of d.stack) → P (programs_of (after_event d e r).stack)
event_kept P closed d (Act depth t) (replies.Done vs) none h = absurd none
event_kept P closed d (Act depth t) (replies.Signal x) none h = offered_kept P closed x.id d.stack h
event_kept P closed d (Act depth t) replies.MustWait none h = h
event_kept P closed d Start (replies.Done vs) none h = h
event_kept P closed d Start (replies.Signal x) none h = h
event_kept P closed d Start replies.MustWait none h = h
event_kept P closed d (Finish cause) (replies.Done vs) none h = h
event_kept P closed d (Finish cause) (replies.Signal x) none h = h
event_kept P closed d (Finish cause) replies.MustWait none h = h

pub absorbed_kept : (P : List CreateResult → Type 0) → IsClosed P → (d : ProcessState) (e : Event) (r : Reply) → event_of d ≡ Some e → BringsNone e r → P (programs_of d.stack) → P (programs_of (absorbed d r).stack)
unfolding absorbed
absorbed_kept P closed d e r asks none h =
    settled_kept P closed (after_asked d (event_of d) r) (subst (λ o. P (programs_of (after_asked d o r).stack)) (sym asks) (event_kept P closed d e r none h))

-- after the values of an instruction
pub absorbed_values : (P : List CreateResult → Type 0) → IsClosed P → (d : ProcessState) (depth : ℕ) (t : Request) (vs : List Val) (i : Instruction) → event_of d ≡ Some (Act depth t)
    → instruction_of d.stack.top ≡ Some i → P (programs_of (went_into d.stack vs i i.op (program_returned vs))) → P (programs_of (absorbed d (replies.Done vs)).stack)
unfolding absorbed
absorbed_values P closed d depth t vs i asks next h =
    settled_kept P closed (after_asked d (event_of d) (replies.Done vs)) (subst (λ (s : Stack). P (programs_of s)) (sym (behind_values d depth t vs i asks next)) h)

-- ---- before the first event

not_both : (d : ProcessState) (s : Status) (e : Event) → s ≡ Fresh → asks d s ≡ Some e → e ≡ Start
not_both d Fresh e is h = sym (same_Some Start e h)
not_both d Running e is h = cc
not_both d (Ending cause) e is h = cc
not_both d Ended e is h = cc

pub fresh_starts : (d : ProcessState) (e : Event) → d.status ≡ Fresh → event_of d ≡ Some e → e ≡ Start
unfolding event_of
fresh_starts d e is h = not_both d d.status e is h

abbrev IsNoStart : Event → Type 0
IsNoStart e = e ≡ Start → ⊥

no_finish : (cause : EndCause) → IsNoStart (Finish cause)
no_finish cause h = cc

no_act : (depth : ℕ) (t : Request) → IsNoStart (Act depth t)
no_act depth t h = cc

acts_later : (d : ProcessState) (o : Option Instruction) → IsNoStart (acts d o)
acts_later d None = no_finish _
acts_later d (Some i) = cond_both (is_return i.op) (returns d) (act_of d.stack i) IsNoStart (λ back. no_finish _) (λ on. no_act _ _)

runs_later : (d : ProcessState) → IsNoStart (runs d)
runs_later d =
    let o = instruction_of d.stack.top in
    cond_both (nat_le d.budget d.done) (Finish causes.Budget) (acts d o) IsNoStart (λ spent. no_finish _) (λ left. acts_later d o)

start_fresh : (d : ProcessState) (s : Status) → asks d s ≡ Some Start → s ≡ Fresh
start_fresh d Fresh h = refl
start_fresh d Running h = absurd (runs_later d (same_Some (runs d) Start h))
start_fresh d (Ending cause) h = cc
start_fresh d Ended h = cc

pub starts_fresh : (d : ProcessState) → event_of d ≡ Some Start → d.status ≡ Fresh
unfolding event_of
starts_fresh d h = start_fresh d d.status h

begun_apart : (made : CreateResult) → begun_by made ≡ Fresh → ⊥
begun_apart (Created program) h = cc
begun_apart (Refused id number) h = cc

offer_apart : (d : ProcessState) (code : ℕ) (b : Bool) → signal_status d code b ≡ Fresh → d.status ≡ Fresh
offer_apart d code true h = h
offer_apart d code false h = cc

starts_apart : (depth : ℕ) (t : Request) → Act depth t ≡ Start → ⊥
starts_apart depth t h = cc

-- an event leaves no process before its first one, but where it has to wait
event_leaves : (d : ProcessState) (e : Event) (r : Reply) → (d.status ≡ Fresh → e ≡ Start) → (after_event d e r).status ≡ Fresh → (after_event d e r ≡ d) × (d.status ≡ Fresh)
event_leaves d Start (replies.Done vs) first h = absurd (begun_apart d.stack.top.made h)
event_leaves d Start (replies.Signal x) first h = cc
event_leaves d Start replies.MustWait first h = (refl, h)
event_leaves d (Act depth t) (replies.Done vs) first h = absurd (starts_apart depth t (first h))
event_leaves d (Act depth t) (replies.Signal x) first h = absurd (starts_apart depth t (first (offer_apart d x.id (offered x.id d.stack).taken h)))
event_leaves d (Act depth t) replies.MustWait first h = (refl, h)
event_leaves d (Finish cause) (replies.Done vs) first h = cc
event_leaves d (Finish cause) (replies.Signal x) first h = cc
event_leaves d (Finish cause) replies.MustWait first h = (refl, h)

was_fresh : (d : ProcessState) → (after_local_run d).status ≡ Fresh → d.status ≡ Fresh
was_fresh d is = by d.status (after_local_run d).status (settled_later d).status is
  where
    by : (s t : Status) → Moves s t → t ≡ Fresh → s ≡ Fresh
    by s t moves is = elim moves as (λ _. s ≡ Fresh) [ inl same ↦ sym same ∙ is | inr ends ↦ absurd (apart ends.1.0 (sym ends.1.1 ∙ is)) ]
      where
        apart : (c : EndCause) → Ending c ≡ Fresh → ⊥
        apart c h = cc

fresh_still : (d : ProcessState) (s : Status) → s ≡ Fresh → alone_by d s ≡ false
fresh_still d Fresh is = refl
fresh_still d Running is = cc
fresh_still d (Ending cause) is = cc
fresh_still d Ended is = cc

settled_fresh : (d : ProcessState) → d.status ≡ Fresh → after_local_run d ≡ d
settled_fresh d is = settled_still d (fresh_still d d.status is)

-- who is before the first event after a reply was so before it
pub stays_fresh : (d : ProcessState) (e : Event) (r : Reply) → event_of d ≡ Some e → (absorbed d r).status ≡ Fresh → (absorbed d r ≡ d) × (d.status ≡ Fresh)
unfolding absorbed
stays_fresh d e r asks is =
    let after = after_asked d (event_of d) r in
    let same : after ≡ after_event d e r = ap (λ o. after_asked d o r) asks in
    let fresh : after.status ≡ Fresh = was_fresh after is in
    let left = event_leaves d e r (λ h. fresh_starts d e h asks) (ap (λ (x : ProcessState). x.status) (sym same) ∙ fresh) in
    (settled_fresh after fresh ∙ same ∙ left.0, left.1)

-- ---- who runs

-- a reply that starts a process
abbrev pub Starts : Event → Reply → Type 0
Starts Start (replies.Done vs) = Unit {0}
Starts _ _ = ⊥

offer_running : (d : ProcessState) (code : ℕ) (b : Bool) → signal_status d code b ≡ Running → d.status ≡ Running
offer_running d code true h = h
offer_running d code false h = cc

event_running : (d : ProcessState) (e : Event) (r : Reply) → (Starts e r → ⊥) → (after_event d e r).status ≡ Running → d.status ≡ Running
event_running d Start (replies.Done vs) other h = absurd (other tt)
event_running d Start (replies.Signal x) other h = cc
event_running d Start replies.MustWait other h = h
event_running d (Act depth t) (replies.Done vs) other h = h
event_running d (Act depth t) (replies.Signal x) other h = offer_running d x.id (offered x.id d.stack).taken h
event_running d (Act depth t) replies.MustWait other h = h
event_running d (Finish cause) (replies.Done vs) other h = cc
event_running d (Finish cause) (replies.Signal x) other h = cc
event_running d (Finish cause) replies.MustWait other h = h

was_running : (d : ProcessState) → (after_local_run d).status ≡ Running → d.status ≡ Running
was_running d is = by d.status (after_local_run d).status (settled_later d).status is
  where
    by : (s t : Status) → Moves s t → t ≡ Running → s ≡ Running
    by s t moves is = elim moves as (λ _. s ≡ Running) [ inl same ↦ sym same ∙ is | inr ends ↦ ends.0 ]

-- who runs after a reply has run before it, unless it was just started
pub ran_before : (d : ProcessState) (e : Event) (r : Reply) → event_of d ≡ Some e → (Starts e r → ⊥) → (absorbed d r).status ≡ Running → d.status ≡ Running
unfolding absorbed
ran_before d e r asks other is =
    let same : after_asked d (event_of d) r ≡ after_event d e r = ap (λ o. after_asked d o r) asks in
    event_running d e r other (ap (λ (x : ProcessState). x.status) (sym same) ∙ was_running (after_asked d (event_of d) r) is)
