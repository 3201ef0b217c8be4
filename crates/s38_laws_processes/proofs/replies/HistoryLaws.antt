-- Over a history replies suit, and so processes stay lawful.
use Rattle.std.proofs.Common.{◌++◌, ◌+◌, ◌==◌, ◌∙◌, ◌∷◌, ◌≡◌, Bool, List, [], ap, append_assoc, arith, drop, false, inl, inr, length, refl, subst, sym, true, ℕ}
use Rattle.std.proofs.lemmas.Bool.Decides.{nat_tests}
use Rattle.std.proofs.lemmas.Bool.{and_parts}
use Rattle.std.specs.Prelude.{None, Option, Some, not}
use Rattle.s38_base.specs.Exceptions as exceptions
use Rattle.s38_base.specs.declared.op.Op.TheVariants.{Callx, Xctl}
use Rattle.s38_base.specs.declared.op.Op.{Op}
use Rattle.s38_code.specs.History.{entries_of}
use Rattle.s38_code.specs.Operations.{arguments, classes, family_of}
use Rattle.s38_code.specs.declared.class.Class.TheVariants.{PointerSource}
use Rattle.s38_code.specs.declared.entry.Entry.{Entry}
use Rattle.s38_code.specs.declared.event.Event.TheVariants.{Act, Finish, Start}
use Rattle.s38_code.specs.declared.event.Event.{Event}
use Rattle.s38_code.specs.declared.event.Request.{Request}
use Rattle.s38_code.specs.declared.made.CreateResult.{CreateResult}
use Rattle.s38_code.specs.declared.operand.Operand.{Operand}
use Rattle.s38_code.specs.declared.program.Arg.{Arg}
use Rattle.s38_code.specs.declared.program.Instruction.{Instruction}
use Rattle.s38_code.specs.declared.program.Program.{Program}
use Rattle.s38_code.specs.declared.reply.Reply.TheVariants.{Done, MustWait, Signal}
use Rattle.s38_code.specs.declared.reply.Val.{Val}
use Rattle.s38_local.specs.Law.{shapes_of}
use Rattle.s38_odt.specs.Suited.{AreSuited, IsSuited}
use Rattle.s38_odt.specs.Suits.{all_suit, suits}
use Rattle.s38_process.proofs.Alone.{fresh_settled}
use Rattle.s38_process.proofs.LawfulLaws.{absorbed_lawful, begun_lawful}
use Rattle.s38_process.proofs.LawfulLawsOfCalls.{invocation_well}
use Rattle.s38_process.specs.Invocations.{Stack, arguments_in, instruction_of, instructions_in, program_rows_in}
use Rattle.s38_process.specs.Lawful.{IsLawful, IsLawfulInvocation, SuitsBy, SuitsCall, SuitsHere, SuitsInto, SuitsReply}
use Rattle.s38_process.specs.Process.{ProcessState, event_of}
use Rattle.s38_process.specs.AfterReply.{process_after, program_returned}
use Rattle.s38_requests.specs.Requests.{operands_of, request_of}
use Rattle.s38_rules.proofs.RuleLaws.{fails_none, first_none, not_false}
use Rattle.s38_rules.proofs.VerdictLaws.{rule_met}
use Rattle.s38_rules.specs.families.Changes.{done}
use Rattle.s38_rules.specs.families.Computing.{is_call, shift_at}
use Rattle.s38_rules.specs.step.Effect.{effect, effect_of}
use Rattle.s38_rules.specs.state.Held.{Held}
use Rattle.s38_rules.specs.step.Legal.{IsEntry, Leads}
use Rattle.s38_rules.specs.ask.Operands.{target}
use Rattle.s38_rules.specs.families.Programs.{programs_row}
use Rattle.s38_rules.specs.families.Calls.{are_arguments, argument_rule, callx_fails, frame_rule, parameters_in, parameters_of, program_at, xctl_fails}
use Rattle.s38_rules.specs.families.Rows.{row, row_in}
use Rattle.s38_rules.specs.state.State.{State, waits}
use Rattle.s38_rules.specs.step.Step.{awake_verdict, by_verdict, by_waiting, step}
use Rattle.s38_rules.specs.declared.verdict.Verdict.TheVariants.{Permit, Refuse, Wait}
use Rattle.s38_rules.specs.declared.verdict.Verdict.{Verdict}
use Rattle.s38_rules.specs.declared.process.Started.{Started}
use Rattle.s38_rules.specs.state.Invocations.{frames_used, most_frames, stack_in, stack_of}
use Rattle.s38_rules.specs.state.State.{started}
use Rattle.s38_process.specs.Invocations.{deepest, depth_of}
use Rattle.s38_base.specs.declared.exception.Exception.{Exception}
use Rattle.s38_laws_processes.proofs.owners.FrameLaws.{depth_is, frames_enough, used_is}
use Rattle.s38_laws_processes.specs.owners.Owners.{programs_of}
use Rattle.std.proofs.Common.{◌<◌}
use Rattle.std.specs.Prelude.{is_some}
use Rattle.s38_laws_processes.proofs.owners.CallLaws.{call_by, call_reaches, call_values, callx_room, permitted_unrefused, reached_program}
use Rattle.s38_laws_processes.proofs.owners.HistoryLaws.{AllAgree, after_other, after_own, all_next, begin_all, entry_asked}
use Rattle.s38_laws_processes.proofs.owners.StackLaws.{AsksFor, asks_for}
use Rattle.s38_laws_processes.proofs.owners.StepLaws.{AreKept, ProcessAgrees, asked_begins, asked_op, suited_at}
use Rattle.s38_laws_processes.specs.owners.Beginnings.{AreAsked, Begin, IsFresh}
use Rattle.s38_laws_processes.proofs.replies.CallSuits.{arguments_pass}
use Rattle.s38_laws_processes.proofs.replies.GiveLaws.{row_fills}
use Rattle.s38_laws_processes.proofs.replies.ValueLaws.{given_suits}
use Rattle.s38_laws_processes.proofs.replies.NoValueLaws.{nothing_suits}
use Rattle.s38_laws_processes.specs.replies.Replies.{AllSuit, AreLawful, GoesInto, IsSuitedBy}

-- ---- what comes of an instruction suits here

here_by : (s : State) (p depth : ℕ) (x : Stack) (i : Instruction) → IsLawfulInvocation (shapes_of x.values) x.top → IsSuited (program_rows_in x.top.made) (length (instructions_in x.top.made)) i
    → SuitsHere x i (effect_of s p (Act depth (request_of (program_rows_in x.top.made) x.top.frame.homes x.values i))).values
unfolding effect_of effect request_of
here_by s p depth x i well one =
    let rows = program_rows_in x.top.made in
    let t : Request = request_of rows x.top.frame.homes x.values i in
    given_suits i.op rows x.top.frame.homes x.values i.args (done s p ((row i.op).changes s p depth t)) (shift_at s.held i.op t.operands) ((row i.op).gives s p depth t) one.classes one.ruled well.held
    (row_fills (family_of i.op) s p depth t)

top_well : (d : ProcessState) → IsLawful d → IsLawfulInvocation (shapes_of d.stack.values) d.stack.top
top_well d lawful = invocation_well (shapes_of d.stack.values) d.stack.top d.stack.callers lawful

next_suited : (d : ProcessState) (i : Instruction) → IsLawful d → instruction_of d.stack.top ≡ Some i → IsSuited (program_rows_in d.stack.top.made) (length (instructions_in d.stack.top.made)) i
next_suited d i lawful next =
    suited_at (IsSuited (program_rows_in d.stack.top.made) (length (instructions_in d.stack.top.made))) (instructions_in d.stack.top.made) d.stack.top.frame.at i next (top_well d lawful).program.each

here_suits : (s : State) (p : ℕ) (d : ProcessState) (depth : ℕ) (r : Request) (for : AsksFor d depth r) → IsLawful d → SuitsHere d.stack for.i (effect_of s p (Act depth r)).values
here_suits s p d depth r for lawful =
    subst (λ (t : Request). SuitsHere d.stack for.i (effect_of s p (Act depth t)).values) (sym for.request) (here_by s p depth d.stack for.i (top_well d lawful) (next_suited d for.i lawful for.next))

-- ---- a program that is called suits

-- the arguments of a call that is permitted are the parameters of its program
rule_passed : (h : Held) (ops : List Operand) (program : Program) → program_at h ops ≡ Some program → argument_rule h ops ≡ None → are_arguments (parameters_in program.rows) (drop 1 ops) ≡ true
rule_passed h ops program is met =
    subst (λ x. are_arguments (parameters_of x) (drop 1 ops) ≡ true) is
    (not_false (are_arguments (parameters_of (program_at h ops)) (drop 1 ops)) (fails_none (not (are_arguments (parameters_of (program_at h ops)) (drop 1 ops))) exceptions.argument_mismatch 1 met))

callx_rule : (s : State) (p d : ℕ) (t : Request) → (row Callx).fails s p d t ≡ None → argument_rule s.held t.operands ≡ None
unfolding row_in programs_row family_of callx_fails
callx_rule s p d t met = (first_none (argument_rule s.held t.operands) (frame_rule s p d) met).0

xctl_rule : (s : State) (p d : ℕ) (t : Request) → (row Xctl).fails s p d t ≡ None → argument_rule s.held t.operands ≡ None
unfolding row_in programs_row family_of xctl_fails
xctl_rule s p d t met = met

call_rule : (s : State) (p d : ℕ) (t : Request) → is_call t.op ≡ true → (row t.op).fails s p d t ≡ None → argument_rule s.held t.operands ≡ None
call_rule s p d t call met = elim (call_by t.op call) as (λ _. argument_rule s.held t.operands ≡ None) [
  | inl op ↦ callx_rule s p d t (subst (λ o. (row o).fails s p d t ≡ None) op met)
  | inr op ↦ xctl_rule s p d t (subst (λ o. (row o).fails s p d t ≡ None) op met)
]

call_classes : (op : Op) → is_call op ≡ true → classes op ≡ PointerSource ∷ arguments
unfolding classes
call_classes Callx call = refl
call_classes Xctl call = refl
call_classes _ call = cc

-- the operands after the program
arguments_suit : (x : Stack) (given : List Arg) (program : Program) → IsLawfulInvocation (shapes_of x.values) x.top → all_suit (program_rows_in x.top.made) (PointerSource ∷ arguments) given ≡ true
    → are_arguments (parameters_in program.rows) (drop 1 (operands_of (program_rows_in x.top.made) x.top.frame.homes x.values (PointerSource ∷ arguments) given)) ≡ true → AreSuited program.rows program.code
    → SuitsCall x (drop 1 given) program
arguments_suit x [] program well suited are checked = cc
arguments_suit x (a ∷ rest) program well suited are checked = record {
  suited = checked;
  passed = arguments_pass (program_rows_in x.top.made) x.top.frame.homes x.values arguments rest program (length x.values) well.held refl (and_parts (suits (program_rows_in x.top.made) PointerSource a) _ suited).1 are checked.formed;
}

call_suits : (h : Held) (d : ProcessState) (depth : ℕ) (r : Request) (for : AsksFor d depth r) (program : Program) → IsLawful d → is_call r.op ≡ true
    → are_arguments (parameters_in program.rows) (drop 1 r.operands) ≡ true → AreSuited program.rows program.code → SuitsCall d.stack (arguments_in (Some for.i)) program
unfolding request_of
call_suits h d depth r for program lawful call are checked =
    let x = d.stack in
    let i = for.i in
    let cs = call_classes i.op (ap is_call (sym (asked_op d depth r for)) ∙ call) in
    let one = next_suited d i lawful for.next in
    let given = subst (λ (t : Request). are_arguments (parameters_in program.rows) (drop 1 t.operands) ≡ true) for.request are in
    arguments_suit x i.args program (top_well d lawful) (subst (λ c. all_suit (program_rows_in x.top.made) c i.args ≡ true) cs one.classes)
    (subst (λ c. are_arguments (parameters_in program.rows) (drop 1 (operands_of (program_rows_in x.top.made) x.top.frame.homes x.values c i.args)) ≡ true) cs given) checked

-- ---- a reply with values

-- no program, or an instruction that is no call
into_none : (x : Stack) (i : Instruction) (vs : List Val) (op : Op) → SuitsHere x i vs → SuitsInto x i vs op None
into_none x i vs Callx here = here
into_none x i vs Xctl here = here
into_none x i vs op here = here

into_own : (x : Stack) (i : Instruction) (vs : List Val) (op : Op) (came : Option Program) → is_call op ≡ false → SuitsHere x i vs → SuitsInto x i vs op came
into_own x i vs Callx came call here = cc
into_own x i vs Xctl came call here = cc
into_own x i vs op came call here = here

into_called : (x : Stack) (i : Instruction) (vs : List Val) (op : Op) (program : Program) → is_call op ≡ true → SuitsCall x (arguments_in (Some i)) program → SuitsHere x i vs → SuitsInto x i vs op (Some program)
into_called x i vs Callx program is call here = (call, here)
into_called x i vs Xctl program is call here = call
into_called x i vs op program is call here = cc

act_suits : (s : State) (p : ℕ) (own : CreateResult) (d : ProcessState) (depth : ℕ) (r : Request) → AreKept s → ProcessAgrees s p own d → IsLawful d → event_of d ≡ Some (Act depth r) → awake_verdict s p (Act depth r) ≡ Permit
    → SuitsReply d (Done (effect_of s p (Act depth r)).values)
act_suits s p own d depth r kept stands lawful asks may =
    subst (λ o. SuitsBy d.stack o vs) (sym for.next) (by (is_call r.op) refl)
  where
    vs : List Val
    vs = (effect_of s p (Act depth r)).values

    for : AsksFor d depth r
    for = asks_for d depth r asks

    here : SuitsHere d.stack for.i vs
    here = here_suits s p d depth r for lawful

    into : is_call r.op ≡ true → SuitsInto d.stack for.i vs for.i.op (program_returned vs)
    into call =
        let unrefused = permitted_unrefused s p depth r may in
        let some = asked_begins d depth r for stands.checked call in
        let reached = call_reaches s p depth r some.first some.more call some.is unrefused in
        let came = call_values s p depth r call reached in
        let at = reached_program s.held r.operands reached in
        let are = rule_passed s.held r.operands reached.program at (call_rule s p depth r call (rule_met (row r.op) s p depth r unrefused)) in
        let checked = (kept.known.each (target s.held r.operands 1) reached.o reached.there).checked reached.program reached.code in
        let suits = call_suits s.held d depth r for reached.program lawful call are checked in
        subst (λ c. SuitsInto d.stack for.i vs for.i.op c) (sym (ap program_returned came))
        (into_called d.stack for.i vs for.i.op reached.program (ap is_call (sym (asked_op d depth r for)) ∙ call) suits here)

    by : (b : Bool) → is_call r.op ≡ b → SuitsInto d.stack for.i vs for.i.op (program_returned vs)
    by true call = into call
    by false other = into_own d.stack for.i vs for.i.op (program_returned vs) (ap is_call (sym (asked_op d depth r for)) ∙ other) here

-- where nothing comes, nothing is amiss
empty_suits : (x : Stack) (o : Option Instruction) → SuitsBy x o []
empty_suits x None = tt
empty_suits x (Some i) = into_none x i [] i.op (nothing_suits i.op (program_rows_in x.top.made) x.top.frame.homes x.values (classes i.op) i.args)

permit_suits : (s : State) (p : ℕ) (own : CreateResult) (d : ProcessState) (e : Event) → AreKept s → ProcessAgrees s p own d → IsLawful d → event_of d ≡ Some e → awake_verdict s p e ≡ Permit
    → SuitsReply d (Done (effect_of s p e).values)
unfolding effect_of
permit_suits s p own d Start kept stands lawful asks may = empty_suits d.stack (instruction_of d.stack.top)
permit_suits s p own d (Act depth r) kept stands lawful asks may = act_suits s p own d depth r kept stands lawful asks may
permit_suits s p own d (Finish cause) kept stands lawful asks may = empty_suits d.stack (instruction_of d.stack.top)

verdict_suits : (s : State) (p : ℕ) (own : CreateResult) (d : ProcessState) (e : Event) (v : Verdict) → AreKept s → ProcessAgrees s p own d → IsLawful d → event_of d ≡ Some e → awake_verdict s p e ≡ v
    → SuitsReply d (by_verdict s p e v).reply
verdict_suits s p own d e Permit kept stands lawful asks is = permit_suits s p own d e kept stands lawful asks is
verdict_suits s p own d e Wait kept stands lawful asks is = tt
verdict_suits s p own d e (Refuse x) kept stands lawful asks is = tt

-- the reply of a step suits who asked
step_suits : (s : State) (p : ℕ) (own : CreateResult) (d : ProcessState) (e : Event) → AreKept s → ProcessAgrees s p own d → IsLawful d → event_of d ≡ Some e → SuitsReply d (step s p e).reply
unfolding step
step_suits s p own d e kept stands lawful asks = by (waits s p)
  where
    by : (b : Bool) → SuitsReply d (by_waiting b s p e).reply
    by true = tt
    by false = verdict_suits s p own d e (awake_verdict s p e) kept stands lawful asks refl

-- ---- calls go into their programs

nothing_started : (o : Option Started) → o ≡ None → is_some o ≡ true → ⊥
nothing_started None none h = cc
nothing_started (Some x) none h = cc

-- a frame is left, so one more invocation may be
room_left : (s : State) (p : ℕ) (own : CreateResult) (d : ProcessState) (depth : ℕ) (r : Request) → ProcessAgrees s p own d → AsksFor d depth r → frames_used depth (stack_of s p) < most_frames → depth_of d.stack < deepest
room_left s p own d depth r stands for room = by (started s p) refl room
  where
    by : (o : Option Started) → started s p ≡ o → frames_used depth (stack_in o) < most_frames → depth_of d.stack < deepest
    by None none room = absurd (nothing_started (started s p) none (stands.begun for.running))
    by (Some x) is room =
        let enough = frames_enough s.held own x.stack (programs_of d.stack) (stands.agree x is) in
        let used : frames_used depth x.stack ≡ depth = used_is x.stack depth (omega (arith, for.deep, depth_is d.stack, enough)) in
        omega (arith, used, room, for.deep)

act_into : (s : State) (p : ℕ) (own : CreateResult) (d : ProcessState) (depth : ℕ) (r : Request) → AreKept s → ProcessAgrees s p own d → event_of d ≡ Some (Act depth r) → awake_verdict s p (Act depth r) ≡ Permit
    → GoesInto d (Act depth r) (Done (effect_of s p (Act depth r)).values)
act_into s p own d depth r kept stands asks may call =
    let for = asks_for d depth r asks in
    let unrefused = permitted_unrefused s p depth r may in
    let some = asked_begins d depth r for stands.checked call in
    let reached = call_reaches s p depth r some.first some.more call some.is unrefused in
    (reached.program, (ap program_returned (call_values s p depth r call reached), λ op. room_left s p own d depth r stands for (callx_room s p depth r op unrefused)))

waits_into : (d : ProcessState) (e : Event) → GoesInto d e MustWait
waits_into d Start = tt
waits_into d (Act depth r) = tt
waits_into d (Finish cause) = tt

signal_into : (d : ProcessState) (e : Event) (x : Exception) → GoesInto d e (Signal x)
signal_into d Start x = tt
signal_into d (Act depth r) x = tt
signal_into d (Finish cause) x = tt

permit_into : (s : State) (p : ℕ) (own : CreateResult) (d : ProcessState) (e : Event) → AreKept s → ProcessAgrees s p own d → event_of d ≡ Some e → awake_verdict s p e ≡ Permit → GoesInto d e (Done (effect_of s p e).values)
permit_into s p own d Start kept stands asks may = tt
permit_into s p own d (Act depth r) kept stands asks may = act_into s p own d depth r kept stands asks may
permit_into s p own d (Finish cause) kept stands asks may = tt

verdict_into : (s : State) (p : ℕ) (own : CreateResult) (d : ProcessState) (e : Event) (v : Verdict) → AreKept s → ProcessAgrees s p own d → event_of d ≡ Some e → awake_verdict s p e ≡ v → GoesInto d e (by_verdict s p e v).reply
verdict_into s p own d e Permit kept stands asks is = permit_into s p own d e kept stands asks is
verdict_into s p own d e Wait kept stands asks is = waits_into d e
verdict_into s p own d e (Refuse x) kept stands asks is = signal_into d e x

step_into : (s : State) (p : ℕ) (own : CreateResult) (d : ProcessState) (e : Event) → AreKept s → ProcessAgrees s p own d → event_of d ≡ Some e → GoesInto d e (step s p e).reply
unfolding step
step_into s p own d e kept stands asks = by (waits s p)
  where
    by : (b : Bool) → GoesInto d e (by_waiting b s p e).reply
    by true = waits_into d e
    by false = verdict_into s p own d e (awake_verdict s p e) kept stands asks refl

-- ---- a history

entry_suits : (processes : List ProcessState) (before es : List Entry) (e : Entry) (s : State) → AllAgree processes before s → AreLawful processes before → IsEntry s before e
    → AreAsked processes (before ++ e ∷ es) → IsSuitedBy processes before e
entry_suits processes before es e s all lawful entry asked k d there own =
    let now = process_after d (entries_of (k + 1) before) in
    let asks = entry_asked processes before es e k d asked there own in
    let stands = subst (λ q. ProcessAgrees s q d.stack.top.made now) (sym own) (all.each k d there) in
    record {
      suits = subst (SuitsReply now) entry.reply (step_suits s e.process d.stack.top.made now e.event all.kept stands (lawful k d there) asks);
      into = subst (GoesInto now e.event) entry.reply (step_into s e.process d.stack.top.made now e.event all.kept stands asks);
    }

lawful_next : (processes : List ProcessState) (before : List Entry) (e : Entry) → AreLawful processes before → IsSuitedBy processes before e → AreLawful processes (before ++ e ∷ [])
lawful_next processes before e lawful suits k d there = by (e.process == k + 1) refl
  where
    by : (b : Bool) → (e.process == k + 1) ≡ b → IsLawful (process_after d (entries_of (k + 1) (before ++ e ∷ [])))
    by true is =
        let own : e.process ≡ k + 1 = grind (arith, nat_tests) in
        subst IsLawful (sym (after_own before e k d own)) (absorbed_lawful (process_after d (entries_of (k + 1) before)) e.reply (lawful k d there) (suits k d there own).suits)
    by false off = subst IsLawful (sym (after_other before e k d off)) (lawful k d there)

suits_on : (processes : List ProcessState) (s : State) (before history : List Entry) (end : State) → AllAgree processes before s → AreLawful processes before → Leads s before history end
    → AreAsked processes (before ++ history) → AllSuit processes before history
suits_on processes s before [] end all lawful leads asked = lawful
suits_on processes s before (e ∷ es) end all lawful leads asked =
    let suits = entry_suits processes before es e s all lawful leads.0 asked in (
      lawful,
      suits,
      suits_on processes (step s e.process e.event).state (before ++ e ∷ []) es end (all_next processes before es e s all leads.0 asked) (lawful_next processes before e lawful suits) leads.1
          (subst (AreAsked processes) (sym (append_assoc before (e ∷ []) es)) asked),
    )

fresh_lawful : (d : ProcessState) → IsFresh d → IsLawful d
fresh_lawful d fresh = subst IsLawful (fresh_settled fresh.made fresh.budget ∙ sym fresh.is) (begun_lawful _ fresh.made fresh.budget refl fresh.checked)

pub history_suits : (processes : List ProcessState) (first : State) (history : List Entry) (end : State) → Begin processes first → Leads first [] history end → AreAsked processes history → AllSuit processes [] history
history_suits processes first history end begin leads asked =
    suits_on processes first [] history end (begin_all processes first begin) (λ k d there. fresh_lawful d (begin.fresh k d there)) leads asked
