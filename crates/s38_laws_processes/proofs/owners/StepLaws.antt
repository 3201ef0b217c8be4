-- Step by step the frames of each process stay those of its invocations.
use Rattle.std.proofs.Common.{◌-◌, ◌<◌, ◌∙◌, ◌∷◌, ◌≡◌, List, [], ap, arith, cond, false, inl, inr, length, map, refl, subst, suc, sym, true, zero, ℕ}
use Rattle.std.proofs.lemmas.Bool.Decides.{nat_tests}
use Rattle.std.proofs.lemmas.Bool.{cond_both}
use Rattle.std.proofs.lemmas.List.Elements.{All-cons, All-head, All-tail}
use Rattle.std.proofs.lemmas.List.{length-map}
use Rattle.std.proofs.lemmas.Option.{same_Some}
use Rattle.std.specs.Option.{option_map}
use Rattle.std.specs.Prelude.{All, None, Option, Some, is_some, nat_lt, slice_get}
use Rattle.s38_base.specs.declared.id.ObjNum.{ObjNum}
use Rattle.s38_base.specs.declared.op.Op.TheVariants.{Callx, Xctl}
use Rattle.s38_base.specs.declared.op.Op.{Op}
use Rattle.s38_code.specs.Operations.{classes, family_of}
use Rattle.s38_code.specs.declared.class.Class.TheVariants.{PointerSource}
use Rattle.s38_code.specs.declared.class.Class.{Class}
use Rattle.s38_code.specs.declared.event.Event.TheVariants.{Act, Finish, Start}
use Rattle.s38_code.specs.declared.event.Event.{Event}
use Rattle.s38_code.specs.declared.event.Request.{Request}
use Rattle.s38_code.specs.declared.made.CreateResult.TheVariants.{Created}
use Rattle.s38_code.specs.declared.made.CreateResult.{CreateResult}
use Rattle.s38_code.specs.declared.operand.Operand.{Operand}
use Rattle.s38_code.specs.declared.program.Arg.{Arg}
use Rattle.s38_code.specs.declared.program.Instruction.{Instruction}
use Rattle.s38_code.specs.declared.program.Program.{Program}
use Rattle.s38_code.specs.declared.program.Row.{Row}
use Rattle.s38_code.specs.declared.reply.Reply.TheVariants.{Done, MustWait, Signal}
use Rattle.s38_code.specs.declared.reply.Reply.{Reply}
use Rattle.s38_code.specs.declared.reply.Val.TheVariants as vals
use Rattle.s38_code.specs.declared.reply.Val.{Val}
use Rattle.s38_journals.specs.Journals as journals
use Rattle.s38_odt.specs.Suited.{IsSuited}
use Rattle.s38_odt.specs.Suits.{all_suit}
use Rattle.s38_process.specs.Invocations.{deepest, depth_of, instructions_in, program_rows_in}
use Rattle.s38_process.specs.Process.{ProcessState, event_of}
use Rattle.s38_process.specs.AfterReply.{absorbed, program_returned, went_into}
use Rattle.s38_process.specs.declared.invocation.Invocation.{Invocation}
use Rattle.s38_process.specs.declared.status.Status.TheVariants.{Fresh, Running}
use Rattle.s38_requests.specs.Requests.{operand_of, operands_of, request_of}
use Rattle.s38_rules.proofs.StoreLaws.{stored_holds}
use Rattle.s38_rules.specs.families.Changes.{done}
use Rattle.s38_rules.specs.families.Computing.{is_call, receiver_at, shift_at}
use Rattle.s38_rules.specs.step.Effect.{effect, effect_of, end_at, start_at, started_as}
use Rattle.s38_rules.specs.state.Held.{Held}
use Rattle.s38_rules.specs.state.Invocations.{frames_used, most_frames, pushed, replaced, restacked, stack_in, stack_of}
use Rattle.s38_rules.specs.ask.Operands.{target}
use Rattle.s38_rules.specs.state.PartsAt.{on_journal}
use Rattle.s38_rules.specs.families.Calls.{code_of}
use Rattle.s38_rules.specs.families.Rows.{row}
use Rattle.s38_rules.specs.state.State.{State, process_entry, started}
use Rattle.s38_rules.specs.store.Storing.{stored}
use Rattle.s38_rules.specs.declared.object.Object.{Object}
use Rattle.s38_rules.specs.declared.process.ProcessEntry.{ProcessEntry}
use Rattle.s38_rules.specs.declared.process.Started.{Started}
use Rattle.s38_laws_processes.proofs.owners.CallLaws.{Reaches}
use Rattle.s38_laws_processes.proofs.owners.FrameLaws.{AreKnown, IsCheckedProgram, depth_is, frames_enough, frames_more, frames_next, used_is}
use Rattle.s38_laws_processes.proofs.owners.ObjectLaws.{Follows, all_decommitted_follows, delivered_follows, done_follows, journal_follows, same_follows, then_follows}
use Rattle.s38_laws_processes.proofs.owners.RowLaws.{OfTemplates, row_quiet}
use Rattle.s38_laws_processes.proofs.owners.StackLaws.{AsksFor, BringsNone, IsClosed, Starts, absorbed_kept, absorbed_values, asks_for, into_called, into_transferred, on_in_its_own, ran_before, starts_fresh, stays_fresh}
use Rattle.s38_laws_processes.proofs.owners.StateLaws.{begun}
use Rattle.s38_laws_processes.specs.owners.Beginnings.{IsChecked}
use Rattle.s38_laws_processes.specs.owners.Owners.{AreFramesOf, IsFrameOf, WasGivenTo, programs_of}

-- ---- what is kept of the machine and of a process

pub record AreKept (s : State) : Type 0 where
  pub known : AreKnown s.held
  pub templates : OfTemplates IsCheckedProgram s.templates

pub record ProcessAgrees (s : State) (p : ℕ) (own : CreateResult) (d : ProcessState) : Type 0 where
  -- before its first event it is in the job's own template
  pub young : d.status ≡ Fresh → programs_of d.stack ≡ own ∷ []
  pub checked : All IsChecked (programs_of d.stack)
  pub agree : (x : Started) → started s p ≡ Some x → AreFramesOf s.held own x.stack (programs_of d.stack)
  -- a process that runs has started
  pub begun : d.status ≡ Running → is_some (started s p) ≡ true

frames_closed : (h : Held) (own : CreateResult) (frames : List ObjNum) → IsClosed (AreFramesOf h own frames)
frames_closed h own frames program callers are = are.1

checked_closed : IsClosed (All IsChecked)
checked_closed program callers all = All-tail IsChecked program callers all

-- who is before the first event has not gone on
young_next : (d : ProcessState) (e : Event) (r : Reply) (own : CreateResult) → event_of d ≡ Some e → (d.status ≡ Fresh → programs_of d.stack ≡ own ∷ [])
    → (absorbed d r).status ≡ Fresh → programs_of (absorbed d r).stack ≡ own ∷ []
young_next d e r own asks young is = let still = stays_fresh d e r asks is in ap (λ (x : ProcessState). programs_of x.stack) still.0 ∙ young still.1

-- ---- objects after an event

start_follows : (s : State) (p : ℕ) (x : Option ProcessEntry) → Follows IsCheckedProgram s.held (start_at s p x).held
start_follows s p None = same_follows IsCheckedProgram s.held
start_follows s p (Some x) = same_follows IsCheckedProgram s.held

finish_follows : (s : State) (p : ℕ) (x : Option ProcessEntry) → Follows IsCheckedProgram s.held (end_at s p x).held
finish_follows s p None = same_follows IsCheckedProgram s.held
finish_follows s p (Some x) = all_decommitted_follows IsCheckedProgram s.units s p

pub effect_follows : (s : State) (p : ℕ) (e : Event) → OfTemplates IsCheckedProgram s.templates → Follows IsCheckedProgram s.held (effect_of s p e).state.held
unfolding effect_of effect
effect_follows s p Start of = start_follows s p (process_entry s p)
effect_follows s p (Act d t) of =
    let x = (row t.op).changes s p d t in
    then_follows IsCheckedProgram s.held (done s p x).held _ (done_follows IsCheckedProgram x s p (row_quiet IsCheckedProgram (family_of t.op) t.op s p d t of).makes)
    (delivered_follows IsCheckedProgram (done s p x) (shift_at s.held t.op t.operands) (receiver_at t.op t.operands) ((row t.op).gives s p d t))
effect_follows s p (Finish cause) of = finish_follows s p (process_entry s p)

pub stored_follows : (before : Held) (s : State) (p : ℕ) (e : Event) (t : State) → Follows IsCheckedProgram before t.held → Follows IsCheckedProgram before (stored s p e t).held
stored_follows before s p e t follows =
    stored_holds (Follows IsCheckedProgram before)
    (λ h n so_far. then_follows IsCheckedProgram before h (on_journal h n journals.forced) so_far (journal_follows IsCheckedProgram h n journals.forced)) s p e t follows

-- ---- another process

-- objects that follow, and the same frames
pub still_agrees : (s t : State) (p : ℕ) (own : CreateResult) (d : ProcessState) → Follows IsCheckedProgram s.held t.held → started t p ≡ started s p → ProcessAgrees s p own d → ProcessAgrees t p own d
still_agrees s t p own d follows same stands = record {
  young = stands.young;
  begun = λ running. ap is_some same ∙ stands.begun running;
  checked = stands.checked;
  agree = λ x is. frames_next IsCheckedProgram s.held t.held own x.stack (programs_of d.stack) follows (stands.agree x (sym same ∙ is));
}

-- ---- the process that asks, where no values come for an instruction

-- nothing but its own way on
pub goes_on : (s t : State) (p : ℕ) (own : CreateResult) (d : ProcessState) (e : Event) (r : Reply) → (Starts e r → ⊥) → Follows IsCheckedProgram s.held t.held → started t p ≡ started s p → event_of d ≡ Some e
    → ((P : List CreateResult → Type 0) → IsClosed P → P (programs_of d.stack) → P (programs_of (absorbed d r).stack)) → ProcessAgrees s p own d → ProcessAgrees t p own (absorbed d r)
goes_on s t p own d e r other follows same asks keeps stands = record {
  young = young_next d e r own asks stands.young;
  begun = λ running. ap is_some same ∙ stands.begun (ran_before d e r asks other running);
  checked = keeps (All IsChecked) checked_closed stands.checked;
  agree = λ x is.
      frames_next IsCheckedProgram s.held t.held own x.stack (programs_of (absorbed d r).stack) follows
      (keeps (AreFramesOf s.held own x.stack) (frames_closed s.held own x.stack) (stands.agree x (sym same ∙ is)));
}

pub signalled : (s : State) (p : ℕ) (own : CreateResult) (d : ProcessState) (e : Event) (r : Reply) → ((vs : List Val) → r ≡ Done vs → ⊥) → event_of d ≡ Some e → ProcessAgrees s p own d → ProcessAgrees s p own (absorbed d r)
signalled s p own d e r none asks stands =
    goes_on s s p own d e r (starts_not e r none) (same_follows IsCheckedProgram s.held) refl asks (λ P closed h. absorbed_kept P closed d e r asks (brings e r none) h) stands
  where
    brings : (e : Event) (r : Reply) → ((vs : List Val) → r ≡ Done vs → ⊥) → BringsNone e r
    brings (Act depth t) (Done vs) none = absurd (none vs refl)
    brings (Act depth t) (Signal x) none = tt
    brings (Act depth t) MustWait none = tt
    brings Start r none = tt
    brings (Finish cause) r none = tt

    starts_not : (e : Event) (r : Reply) → ((vs : List Val) → r ≡ Done vs → ⊥) → Starts e r → ⊥
    starts_not Start (Done vs) none is = none vs refl
    starts_not Start (Signal x) none is = is
    starts_not Start MustWait none is = is
    starts_not (Act depth t) r none is = is
    starts_not (Finish cause) r none is = is

begun_stack : (h : Held) (o : Option ProcessEntry) (x : Started) → begun h o ≡ Some x → x.stack ≡ record { 0 = 0 } ∷ []
begun_stack h None x is = cc
begun_stack h (Some y) x is = let same : started_as h y.job ≡ x = same_Some (started_as h y.job) x is in sym (ap (λ (z : Started). z.stack) same)

begun_some : (h : Held) (o : Option ProcessEntry) → is_some o ≡ true → is_some (begun h o) ≡ true
begun_some h None there = cc
begun_some h (Some x) there = refl

-- the job's own template has the first frame
first_frame : (h : Held) (own : CreateResult) → AreFramesOf h own (record { 0 = 0 } ∷ []) (own ∷ [])
first_frame h own = (inl (refl, refl), tt)

pub started_own : (s t : State) (p : ℕ) (own : CreateResult) (d : ProcessState) (vs : List Val) → is_some (process_entry s p) ≡ true → started t p ≡ begun s.held (process_entry s p) → event_of d ≡ Some Start → ProcessAgrees s p own d → ProcessAgrees t p own (absorbed d (Done vs))
started_own s t p own d vs there begins asks stands = record {
  young = young_next d Start (Done vs) own asks stands.young;
  begun = λ running. ap is_some begins ∙ begun_some s.held (process_entry s p) there;
  checked = absorbed_kept (All IsChecked) checked_closed d Start (Done vs) asks tt stands.checked;
  agree = λ x is.
      let stack : x.stack ≡ record { 0 = 0 } ∷ [] = begun_stack s.held (process_entry s p) x (sym begins ∙ is) in
      let P = AreFramesOf t.held own x.stack in
      let first : P (own ∷ []) = subst (λ frames. AreFramesOf t.held own frames (own ∷ [])) (sym stack) (first_frame t.held own) in
      absorbed_kept P (frames_closed t.held own x.stack) d Start (Done vs) asks tt (subst P (sym (stands.young (starts_fresh d asks))) first);
}

-- ---- an instruction that is no call

pub asked_op : (d : ProcessState) (depth : ℕ) (t : Request) (for : AsksFor d depth t) → t.op ≡ for.i.op
unfolding request_of
asked_op d depth t for = ap (λ (x : Request). x.op) for.request

pub acted : (s t : State) (p : ℕ) (own : CreateResult) (d : ProcessState) (depth : ℕ) (r : Request) (vs : List Val) → Follows IsCheckedProgram s.held t.held → started t p ≡ started s p
    → event_of d ≡ Some (Act depth r) → is_call r.op ≡ false → ProcessAgrees s p own d → ProcessAgrees t p own (absorbed d (Done vs))
acted s t p own d depth r vs follows same asks other stands =
    let for = asks_for d depth r asks in
    let i = for.i in
    let still : programs_of (went_into d.stack vs i i.op (program_returned vs)) ≡ programs_of d.stack =
    on_in_its_own d.stack vs i i.op (program_returned vs) (ap is_call (sym (asked_op d depth r for)) ∙ other) in
    goes_on s t p own d (Act depth r) (Done vs) (λ none. none) follows same asks
    (λ P closed h. absorbed_values P closed d depth r vs i asks for.next (subst P (sym still) h)) stands

-- ---- a call has a first operand

pointer_first : (op : Op) → is_call op ≡ true → (more : List Class) × (classes op ≡ PointerSource ∷ more)
unfolding classes
pointer_first Callx h = (_, refl)
pointer_first Xctl h = (_, refl)
pointer_first _ h = cc

-- the operands begin with one
pub record Begins (ops : List Operand) : Type 0 where
  pub first : Operand
  pub more : List Operand
  pub is : ops ≡ first ∷ more

begins_by : (rows : List Row) (homes : List ℕ) (values : List Val) (more : List Class) (given : List Arg) → all_suit rows (PointerSource ∷ more) given ≡ true → Begins (operands_of rows homes values (PointerSource ∷ more) given)
begins_by rows homes values more [] suits = cc
begins_by rows homes values more (arg ∷ rest) suits =
    record { first = operand_of rows homes values PointerSource arg; more = operands_of rows homes values more rest; is = refl }

pub suited_at : (P : Instruction → Type 0) (xs : List Instruction) (k : ℕ) (i : Instruction) → slice_get xs k ≡ Some i → All P xs → P i
suited_at P [] k i is all = cc
suited_at P (x ∷ xs) zero i is all = let same : x ≡ i = cc in subst P same (All-head P x xs all)
suited_at P (x ∷ xs) (suc k) i is all = suited_at P xs k i is (All-tail P x xs all)

pub asked_begins : (d : ProcessState) (depth : ℕ) (t : Request) (for : AsksFor d depth t) → All IsChecked (programs_of d.stack) → is_call t.op ≡ true → Begins t.operands
unfolding request_of
asked_begins d depth t for checked call =
    let top = d.stack.top in
    let i = for.i in
    let suited = All-head IsChecked top.made (map (λ (x : Invocation). x.made) d.stack.callers) checked in
    let one = suited_at (IsSuited (program_rows_in top.made) (length (instructions_in top.made))) (instructions_in top.made) top.frame.at i for.next suited.each in
    let pointer = pointer_first i.op (ap is_call (sym (asked_op d depth t for)) ∙ call) in
    let given = subst (λ cs. all_suit (program_rows_in top.made) cs i.args ≡ true) pointer.1 one.classes in
    let begins = subst (λ cs. Begins (operands_of (program_rows_in top.made) top.frame.homes d.stack.values cs i.args)) (sym pointer.1)
    (begins_by (program_rows_in top.made) top.frame.homes d.stack.values pointer.0 i.args given) in
    subst (λ (x : Request). Begins x.operands) (sym for.request) begins

-- ---- a call

-- the number of the program that is called
given_to : (h : Held) (ops : List Operand) → AreKnown h → (reached : Reaches h ops) → WasGivenTo h (target h ops 1) (Created reached.program)
given_to h ops known reached =
    let one = known.each (target h ops 1) reached.o reached.there in
    record {
      some = one.some;
      given = one.given;
      is = λ o there.
          let same : reached.o ≡ o = same_Some reached.o o (sym reached.there ∙ there) in
          ap (λ (y : Object). option_map Created (code_of y.body)) (sym same) ∙ ap (option_map Created) reached.code;
    }

checked_call : (h : Held) (ops : List Operand) → AreKnown h → (reached : Reaches h ops) → IsChecked (Created reached.program)
checked_call h ops known reached = (known.each (target h ops 1) reached.o reached.there).checked reached.program reached.code

-- a process with other frames had some before
record WasStacked (f : List ObjNum → List ObjNum) (o : Option Started) (x : Started) : Type 0 where
  y : Started
  is : o ≡ Some y
  stack : x.stack ≡ f y.stack

was_stacked : (f : List ObjNum → List ObjNum) (o : Option Started) (x : Started) → restacked f o ≡ Some x → WasStacked f o x
was_stacked f None x is = cc
was_stacked f (Some y) x is = let same : record y { stack = f y.stack } ≡ x = same_Some (record y { stack = f y.stack }) x is in record { y = y; is = refl; stack = ap (λ (z : Started). z.stack) (sym same) }

restacked_some : (f : List ObjNum → List ObjNum) (o : Option Started) → is_some o ≡ true → is_some (restacked f o) ≡ true
restacked_some f None there = cc
restacked_some f (Some x) there = refl

-- after a call the programs are these
called_programs : (d : ProcessState) (depth : ℕ) (r : Request) (vs : List Val) (program : Program) (for : AsksFor d depth r) → r.op ≡ Callx → vs ≡ vals.Code program ∷ []
    → programs_of (went_into d.stack vs for.i for.i.op (program_returned vs)) ≡ (cond (nat_lt (depth_of d.stack) deepest) (Created program ∷ programs_of d.stack) (programs_of d.stack))
called_programs d depth r vs program for is came =
    ap (λ o. programs_of (went_into d.stack vs for.i for.i.op o)) (ap program_returned came) ∙ into_called d.stack vs for.i for.i.op program (sym (asked_op d depth r for) ∙ is)

transferred_programs : (d : ProcessState) (depth : ℕ) (r : Request) (vs : List Val) (program : Program) (for : AsksFor d depth r) → r.op ≡ Xctl → vs ≡ vals.Code program ∷ []
    → programs_of (went_into d.stack vs for.i for.i.op (program_returned vs)) ≡ Created program ∷ map (λ (x : Invocation). x.made) d.stack.callers
transferred_programs d depth r vs program for is came =
    ap (λ o. programs_of (went_into d.stack vs for.i for.i.op o)) (ap program_returned came) ∙ into_transferred d.stack vs for.i for.i.op program (sym (asked_op d depth r for) ∙ is)

-- the frames after a call
called_frames : (h : Held) (own : CreateResult) (d : ProcessState) (depth : ℕ) (frames : List ObjNum) (frame : ObjNum) (program : Program) → depth ≡ depth_of d.stack → frames_used depth frames < most_frames
    → IsFrameOf h own frame (Created program) → AreFramesOf h own frames (programs_of d.stack)
    → AreFramesOf h own (pushed depth frame frames) (cond (nat_lt (depth_of d.stack) deepest) (Created program ∷ programs_of d.stack) (programs_of d.stack))
called_frames h own d depth frames frame program named room is are =
    let count = depth_is d.stack in
    let used : frames_used depth frames ≡ depth = used_is frames depth (omega (arith, named, count, frames_enough h own frames (programs_of d.stack) are)) in
    let few : nat_lt (depth_of d.stack) deepest ≡ true = grind (arith, nat_tests, used, room, named) in
    let more = frames_more h own frames frame (programs_of d.stack) (Created program) (frames_used depth frames) (omega (arith, used, named, count)) is are in
    subst (λ b. AreFramesOf h own (pushed depth frame frames) (cond b (Created program ∷ programs_of d.stack) (programs_of d.stack))) (sym few) more

transferred_frames : (h : Held) (own : CreateResult) (d : ProcessState) (depth : ℕ) (frames : List ObjNum) (frame : ObjNum) (program : Program) → depth ≡ depth_of d.stack
    → IsFrameOf h own frame (Created program) → AreFramesOf h own frames (programs_of d.stack)
    → AreFramesOf h own (replaced depth frame frames) (Created program ∷ map (λ (x : Invocation). x.made) d.stack.callers)
transferred_frames h own d depth frames frame program named is are =
    let callers = map (λ (x : Invocation). x.made) d.stack.callers in
    let count = depth_is d.stack in
    let used : frames_used depth frames ≡ depth = used_is frames depth (omega (arith, named, count, frames_enough h own frames (programs_of d.stack) are)) in
    frames_more h own frames frame callers (Created program) (frames_used depth frames - 1) (omega (arith, used, named, length-map d.stack.callers (λ (x : Invocation). x.made))) is are.1

pub called : (s t : State) (p : ℕ) (own : CreateResult) (d : ProcessState) (depth : ℕ) (r : Request) (vs : List Val) → AreKnown s.held → Follows IsCheckedProgram s.held t.held
    → event_of d ≡ Some (Act depth r) → (reached : Reaches s.held r.operands) → vs ≡ vals.Code reached.program ∷ [] → r.op ≡ Callx → frames_used depth (stack_of s p) < most_frames
    → started t p ≡ restacked (pushed depth (record { 0 = target s.held r.operands 1 })) (started s p) → ProcessAgrees s p own d → ProcessAgrees t p own (absorbed d (Done vs))
called s t p own d depth r vs known follows asks reached came op room frames stands =
    let for = asks_for d depth r asks in
    let programs = called_programs d depth r vs reached.program for op came in
    let frame : ObjNum = record { 0 = target s.held r.operands 1 } in
    record {
      young = young_next d (Act depth r) (Done vs) own asks stands.young;
      begun = λ running. ap is_some frames ∙ restacked_some (pushed depth frame) (started s p) (stands.begun for.running);
      checked = absorbed_values (All IsChecked) checked_closed d depth r vs for.i asks for.next
          (subst (All IsChecked) (sym programs)
          (cond_both (nat_lt (depth_of d.stack) deepest) (Created reached.program ∷ programs_of d.stack) (programs_of d.stack) (All IsChecked)
          (λ few. All-cons IsChecked (Created reached.program) (programs_of d.stack) (checked_call s.held r.operands known reached) stands.checked) (λ many. stands.checked)));
      agree = λ x is.
          let was = was_stacked (pushed depth frame) (started s p) x (sym frames ∙ is) in
          let some : frames_used depth was.y.stack < most_frames = subst (λ o. frames_used depth (stack_in o) < most_frames) was.is room in
          let are = called_frames s.held own d depth was.y.stack frame reached.program for.deep some (inr (given_to s.held r.operands known reached)) (stands.agree was.y was.is) in
          let now = programs_of (went_into d.stack vs for.i for.i.op (program_returned vs)) in
          let new : AreFramesOf s.held own x.stack now = subst (λ fs. AreFramesOf s.held own fs now) (sym was.stack) (subst (AreFramesOf s.held own (pushed depth frame was.y.stack)) (sym programs) are) in
          absorbed_values (AreFramesOf t.held own x.stack) (frames_closed t.held own x.stack) d depth r vs for.i asks for.next (frames_next IsCheckedProgram s.held t.held own x.stack now follows new);
    }

pub transferred : (s t : State) (p : ℕ) (own : CreateResult) (d : ProcessState) (depth : ℕ) (r : Request) (vs : List Val) → AreKnown s.held → Follows IsCheckedProgram s.held t.held
    → event_of d ≡ Some (Act depth r) → (reached : Reaches s.held r.operands) → vs ≡ vals.Code reached.program ∷ [] → r.op ≡ Xctl
    → started t p ≡ restacked (replaced depth (record { 0 = target s.held r.operands 1 })) (started s p) → ProcessAgrees s p own d → ProcessAgrees t p own (absorbed d (Done vs))
transferred s t p own d depth r vs known follows asks reached came op frames stands =
    let for = asks_for d depth r asks in
    let programs = transferred_programs d depth r vs reached.program for op came in
    let frame : ObjNum = record { 0 = target s.held r.operands 1 } in
    let callers = map (λ (x : Invocation). x.made) d.stack.callers in
    record {
      young = young_next d (Act depth r) (Done vs) own asks stands.young;
      begun = λ running. ap is_some frames ∙ restacked_some (replaced depth frame) (started s p) (stands.begun for.running);
      checked = absorbed_values (All IsChecked) checked_closed d depth r vs for.i asks for.next
          (subst (All IsChecked) (sym programs)
          (All-cons IsChecked (Created reached.program) callers (checked_call s.held r.operands known reached) (All-tail IsChecked d.stack.top.made callers stands.checked)));
      agree = λ x is.
          let was = was_stacked (replaced depth frame) (started s p) x (sym frames ∙ is) in
          let are = transferred_frames s.held own d depth was.y.stack frame reached.program for.deep (inr (given_to s.held r.operands known reached)) (stands.agree was.y was.is) in
          let now = programs_of (went_into d.stack vs for.i for.i.op (program_returned vs)) in
          let new : AreFramesOf s.held own x.stack now = subst (λ fs. AreFramesOf s.held own fs now) (sym was.stack) (subst (AreFramesOf s.held own (replaced depth frame was.y.stack)) (sym programs) are) in
          absorbed_values (AreFramesOf t.held own x.stack) (frames_closed t.held own x.stack) d depth r vs for.i asks for.next (frames_next IsCheckedProgram s.held t.held own x.stack now follows new);
    }
