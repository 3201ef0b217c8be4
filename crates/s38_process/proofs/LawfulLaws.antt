-- A process stays lawful: by its local instructions, and by each reply that suits what it asked.
use Rattle.std.proofs.Common.{◌≡◌, ℕ, zero, suc, ◌+◌, ◌-◌, ◌<◌, ◌≤◌, Bool, true, false, not, List, [], ◌∷◌, length, drop, refl, sym, ◌∙◌, ap, subst, arith, nat_le}
use Rattle.std.proofs.lemmas.Bool.{cond_both}
use Rattle.std.proofs.lemmas.Bool.Decides.{nat_tests}
use Rattle.std.proofs.lemmas.List.Elements.{All-nil}
use Rattle.std.proofs.lemmas.Option.{slice_get_within}
use Rattle.std.specs.Prelude.{Result, Ok, Err, OnOk, OnErr, Option, Some, None, slice_get, unwrap_or, nat_lt, if◌then◌else◌}
use Rattle.std.specs.List.{list_all}
use Rattle.s38_base.specs.declared.op.Op.{Op}
use Rattle.s38_base.specs.declared.op.Op.TheVariants.{Callx, Xctl}
use Rattle.s38_code.specs.Operations.{classes, operand_rule}
use Rattle.s38_code.specs.declared.class.Class.{Class}
use Rattle.s38_code.specs.declared.event.EndCause.{EndCause}
use Rattle.s38_code.specs.declared.event.EndCause.TheVariants as causes
use Rattle.s38_code.specs.declared.event.Event.TheVariants.{Start, Finish}
use Rattle.s38_code.specs.declared.made.CreateResult.{CreateResult}
use Rattle.s38_code.specs.declared.program.Arg.{Arg}
use Rattle.s38_code.specs.declared.program.Arg.TheVariants as args
use Rattle.s38_code.specs.declared.program.Instruction.{Instruction}
use Rattle.s38_code.specs.declared.program.Program.{Program}
use Rattle.s38_code.specs.declared.program.Row.{Row}
use Rattle.s38_code.specs.declared.reply.Reply.{Reply}
use Rattle.s38_code.specs.declared.reply.Reply.TheVariants as replies
use Rattle.s38_code.specs.declared.reply.Val.{Val}
use Rattle.s38_local.specs.declared.frame.Frame.{Frame}
use Rattle.s38_local.specs.declared.local_end.LocalEnd.{LocalEnd}
use Rattle.s38_local.specs.declared.local_end.LocalEnd.TheVariants.{Next, Jump, Return, Signal}
use Rattle.s38_local.specs.Frames.{Went, returned_to}
use Rattle.s38_local.specs.Law.{ArgumentIsMet, EndsWithin, FrameIsInRange, KeepsLaw, shape_of, shapes_of}
use Rattle.s38_local.specs.Local.{run}
use Rattle.s38_local.specs.Variables.{item_place}
use Rattle.s38_odt.specs.OperandRules.{keeps_rule}
use Rattle.s38_odt.specs.Suited.{AreSuited, IsSuited, lands_in}
use Rattle.s38_odt.specs.Suits.{item_suits}
use Rattle.s38_odt.specs.Table.{is_parameter}
use Rattle.s38_local.proofs.LawLaws.{law_kept, law_kept_past}
use Rattle.s38_process.specs.declared.invocation.Invocation.{Invocation}
use Rattle.s38_process.specs.declared.status.Status.{Status}
use Rattle.s38_process.specs.declared.status.Status.TheVariants.{Fresh, Running, Ending, Ended}
use Rattle.s38_process.specs.Invocations.{Stack, arguments_in, deepest, depth_of, instruction_of, instructions_in, program_rows_in, with_call}
use Rattle.s38_process.specs.Lawful.{Either, IsLawful, IsLawfulStack, SuitValues, SuitsBy, SuitsHere, SuitsInto, SuitsPlace, SuitsReply}
use Rattle.s38_process.specs.Process.{ProcessState, act_of, acts, asks, event_of, fresh, is_return, returns, with_frame}
use Rattle.s38_process.specs.AfterReply.{absorbed, after_act, after_asked, after_event, next_instruction, program_returned, went_by, went_into, went_on}
use Rattle.s38_process.specs.LocalRun.{after_local, after_local_run, after_run, alone, alone_by, alone_there, ends_there, is_local_there, local_step, local_steps, ran}
use Rattle.s38_process.specs.Replies.{branch_is_taken, first_label_in, merged, put_received, takes_value, values_received}
use Rattle.s38_process.proofs.LawfulLawsOfCalls.{entered_lawful, exchanged_lawful, first_lawful, invocation_well, lawful_at_frame, popped_lawful}
use Rattle.s38_process.proofs.LawfulLawsOfLists.{all_at, both_true, merged_shape, set_shape, shape_here, shape_there}
use Rattle.s38_process.proofs.LawfulLawsOfSignals.{offered_lawful}

-- ---- an invocation goes on

-- its variables keep their shapes, and it is within its program
framed_lawful : (s : Stack) (values : List Val) (frame : Frame) → IsLawfulStack s → shapes_of values ≡ shapes_of s.values → frame.homes ≡ s.top.frame.homes → frame.base ≡ s.top.frame.base
    → FrameIsInRange (length (instructions_in s.top.made)) frame → IsLawfulStack (with_frame s values frame)
framed_lawful s values frame stand shapes homes base within =
    let well = invocation_well (shapes_of s.values) s.top s.callers stand in
    rw shapes (lawful_at_frame (shapes_of s.values) s.top (record s.top { frame = frame }) s.callers stand base (record {
      program = well.program;
      within = within;
      held = rw homes well.held;
      lent = λ k row is. rw (homes, base) (well.lent k row is);
      base = rw base well.base;
    }))

-- the next instruction of an invocation is one of its program
suited_next : (s : Stack) (i : Instruction) → IsLawfulStack s → instruction_of s.top ≡ Some i → IsSuited (program_rows_in s.top.made) (length (instructions_in s.top.made)) i
suited_next s i stand is =
    all_at (IsSuited (program_rows_in s.top.made) (length (instructions_in s.top.made))) (instructions_in s.top.made) s.top.frame.at i is (invocation_well (shapes_of s.values) s.top s.callers stand).program.each

inside_next : (top : Invocation) (i : Instruction) → instruction_of top ≡ Some i → top.frame.at < length (instructions_in top.made)
inside_next top i is = slice_get_within (instructions_in top.made) top.frame.at i is

-- ---- local instructions

-- what one of them does to an invocation
abbrev Kept : Stack → List Arg → Went → Type 0
Kept s given went = KeepsLaw (program_rows_in s.top.made) (length (instructions_in s.top.made)) s.top.frame s.values given went

after_lawful : (d : ProcessState) (given : List Arg) (went : Went) (e : LocalEnd) → IsLawful d → Kept d.stack given went → EndsWithin (length (instructions_in d.stack.top.made)) e
    → (e ≡ Next → d.stack.top.frame.at < length (instructions_in d.stack.top.made)) → IsLawful (after_local d went e)
after_lawful d given went Next stand kept end inside =
    let before = inside refl in
    framed_lawful d.stack went.values (record went.frame { at = d.stack.top.frame.at + 1 }) stand kept.shapes kept.homes kept.base (record { at = omega arith; returns = kept.within.returns })
after_lawful d given went (Jump at) stand kept end inside =
    framed_lawful d.stack went.values (record went.frame { at = at }) stand kept.shapes kept.homes kept.base (record { at = end; returns = kept.within.returns })
after_lawful d given went Return stand kept end inside =
    popped_lawful (with_frame d.stack went.values went.frame) (framed_lawful d.stack went.values went.frame stand kept.shapes kept.homes kept.base kept.within)
after_lawful d given went (Signal x) stand kept end inside =
    offered_lawful x.id (with_frame d.stack went.values went.frame) (framed_lawful d.stack went.values went.frame stand kept.shapes kept.homes kept.base kept.within)

-- the end of the code is a return
past_end : (rows : List Row) (frame : Frame) (values : List Val) → (run rows frame values None).end ≡ Next → ⊥
unfolding run
past_end rows frame values is = by frame.returns is
  where
    by : (returns : List ℕ) → (returned_to frame returns).end ≡ Next → ⊥
    by [] is = cc
    by (at ∷ more) is = cc

run_lawful : (d : ProcessState) (o : Option Instruction) → IsLawful d → instruction_of d.stack.top ≡ o → is_local_there (program_rows_in d.stack.top.made) o ≡ true
    → IsLawful (after_run d (run (program_rows_in d.stack.top.made) d.stack.top.frame d.stack.values o))
run_lawful d None stand is local =
    let s = d.stack in
    let count = length (instructions_in s.top.made) in
    let well = invocation_well (shapes_of s.values) s.top s.callers stand in
    let went = run (program_rows_in s.top.made) s.top.frame s.values None in
    let past = law_kept_past (program_rows_in s.top.made) count s.top.frame s.values well.within in
    let kept : Kept s [] went = record { met = All-nil (ArgumentIsMet (program_rows_in s.top.made) s.top.frame.homes (shapes_of s.values)); shapes = ap shapes_of past.2; homes = past.3; base = past.4; within = past.0; end = past.1 } in
    after_lawful d [] went went.end stand kept past.1 (λ is. absurd (past_end (program_rows_in s.top.made) s.top.frame s.values is))
run_lawful d (Some i) stand is local =
    let s = d.stack in
    let count = length (instructions_in s.top.made) in
    let well = invocation_well (shapes_of s.values) s.top s.callers stand in
    let went = run (program_rows_in s.top.made) s.top.frame s.values (Some i) in
    let kept = law_kept (program_rows_in s.top.made) count s.top.frame s.values i (suited_next s i stand is) local well.held well.within (inside_next s.top i is) in
    after_lawful d i.args went went.end stand kept kept.end (λ next. inside_next s.top i is)

unless_false : (b c : Bool) → (if b then false else c) ≡ true → c ≡ true
unless_false true c h = cc
unless_false false c h = h

local_there : (d : ProcessState) (status : Status) → alone_by d status ≡ true → is_local_there (program_rows_in d.stack.top.made) (instruction_of d.stack.top) ≡ true
local_there d Running h =
    let o = instruction_of d.stack.top in
    (both_true (is_local_there (program_rows_in d.stack.top.made) o) (not (ends_there d.stack o)) (unless_false (nat_le d.budget d.done) (alone_there d.stack o) h)).0
local_there d Fresh h = cc
local_there d (Ending cause) h = cc
local_there d Ended h = cc

pub step_lawful : (d : ProcessState) → IsLawful d → IsLawful (local_step d)
unfolding local_step
step_lawful d lawful =
    cond_both (alone d) (after_run d (ran d.stack)) d IsLawful
    (λ is. run_lawful d (instruction_of d.stack.top) lawful refl (local_there d d.status is))
    (λ is. lawful)

steps_lawful : (n : ℕ) (d : ProcessState) → IsLawful d → IsLawful (local_steps n d)
unfolding local_steps
steps_lawful zero d lawful = lawful
steps_lawful (suc n) d lawful = steps_lawful n (local_step d) (step_lawful d lawful)

pub settled_lawful : (d : ProcessState) → IsLawful d → IsLawful (after_local_run d)
unfolding after_local_run
settled_lawful d lawful = steps_lawful (d.budget - d.done) d lawful

-- ---- a reply's values

put_shapes : (op : Op) (before values : List Val) (o : Option ℕ) (v : Val) → shapes_of values ≡ shapes_of before → SuitsPlace op before o v → shapes_of (put_received op values o v) ≡ shapes_of before
put_shapes op before values None v same suits = same
put_shapes op before values (Some place) v same suits = set_shape values place (merged op (slice_get values place) v) goes ∙ same
  where
    goes : (old : Val) → slice_get values place ≡ Some old → shape_of (merged op (slice_get values place) v) ≡ shape_of old
    goes old is =
        let there = shape_there before place (shape_of old) (ap (λ ss. slice_get ss place) (sym same) ∙ shape_here values place old is) in
        ap (λ o. shape_of (merged op o v)) is ∙ merged_shape op old there.0 v (sym there.1.1) ∙ suits there.0 there.1.0 ∙ there.1.1

chosen : (b : Bool) (P Q : Type 0) (one other : List Val) (before : List Val) → Either b P Q → (P → shapes_of one ≡ shapes_of before) → (Q → shapes_of other ≡ shapes_of before)
    → shapes_of (if b then one else other) ≡ shapes_of before
chosen true P Q one other before h f g = f h
chosen false P Q one other before h f g = g h

-- each variable keeps its shape
received_shapes : (op : Op) (rows : List Row) (homes : List ℕ) (classes : List Class) (given : List Arg) (vs before values : List Val) → shapes_of values ≡ shapes_of before
    → SuitValues op rows homes before classes given vs → shapes_of (values_received op rows homes classes given vs values) ≡ shapes_of before
received_shapes op rows homes (class ∷ more) (arg ∷ rest) [] before values same suits = same
received_shapes op rows homes (class ∷ more) (arg ∷ rest) (v ∷ vs) before values same suits =
    let at = item_place homes (Some arg) in
    chosen (takes_value rows class arg) (SuitsPlace op before at v × SuitValues op rows homes before more rest vs) (SuitValues op rows homes before more rest (v ∷ vs))
    (values_received op rows homes more rest vs (put_received op values at v)) (values_received op rows homes more rest (v ∷ vs) values) before suits
    (λ takes. received_shapes op rows homes more rest vs before (put_received op values at v) (put_shapes op before values at v same takes.0) takes.1)
    (λ stays. received_shapes op rows homes more rest (v ∷ vs) before values same stays)
received_shapes op rows homes [] given vs before values same suits = same
received_shapes op rows homes (class ∷ more) [] vs before values same suits = same

-- ---- where it goes on

label_within : (count far : ℕ) (given : List Arg) → far ≤ count → list_all (lands_in count) given ≡ true → unwrap_or (first_label_in given) far ≤ count
label_within count far [] few lands = few
label_within count far (args.Jump at ∷ rest) few lands =
    let test = (both_true (nat_le at count) (list_all (lands_in count) rest) lands).0 in grind (arith, nat_tests)
label_within count far (arg ∷ rest) few lands = label_within count far rest few (both_true (lands_in count arg) (list_all (lands_in count) rest) lands).1

pub went_on_lawful : (s : Stack) (i : Instruction) (vs : List Val) → IsLawfulStack s → instruction_of s.top ≡ Some i → SuitsHere s i vs → IsLawfulStack (went_on s (Some i) vs)
went_on_lawful s i vs stand is suits =
    let well = invocation_well (shapes_of s.values) s.top s.callers stand in
    let count = length (instructions_in s.top.made) in
    let rows = program_rows_in s.top.made in
    let homes = s.top.frame.homes in
    let at = s.top.frame.at in
    let behind : at + 1 ≤ count = omega (arith, inside_next s.top i is) in
    let next : next_instruction (Some i) vs at ≤ count =
    cond_both (branch_is_taken vs) (unwrap_or (first_label_in i.args) (at + 1)) (at + 1) (λ n. n ≤ count) (λ taken. label_within count (at + 1) i.args behind (suited_next s i stand is).jumps) (λ on. behind) in
    framed_lawful s (values_received i.op rows homes (classes i.op) i.args vs s.values) (record s.top.frame { at = next_instruction (Some i) vs at }) stand
    (received_shapes i.op rows homes (classes i.op) i.args vs s.values s.values refl suits) refl refl (record { at = next; returns = well.within.returns })

-- the arguments of a transfer are parameters
ruled_parameters : (rows : List Row) (op : Op) (given : List Arg) → op ≡ Xctl → keeps_rule rows (operand_rule op) given ≡ true → list_all (item_suits is_parameter rows) (drop 1 given) ≡ true
unfolding keeps_rule operand_rule
ruled_parameters rows op given is ruled = rw is at ruled

went_into_lawful : (s : Stack) (vs : List Val) (i : Instruction) (op : Op) (came : Option Program) → IsLawfulStack s → instruction_of s.top ≡ Some i → i.op ≡ op
    → SuitsInto s i vs op came → IsLawfulStack (went_into s vs i op came)
went_into_lawful s vs i Callx (Some program) stand is op suits =
    cond_both (nat_lt (depth_of s) deepest) (with_call s program) (went_on s (Some i) vs) IsLawfulStack
    (λ few. entered_lawful s program stand (inside_next s.top i is) (rw is suits.0))
    (λ many. went_on_lawful s i vs stand is suits.1)
went_into_lawful s vs i Xctl (Some program) stand is op suits =
    let rows = program_rows_in s.top.made in
    let parameters = ruled_parameters rows i.op i.args op (suited_next s i stand is).ruled in
    exchanged_lawful s program stand (ap (λ o. list_all (item_suits is_parameter rows) (arguments_in o)) is ∙ parameters) (rw is suits)
went_into_lawful s vs i op came stand is at suits = went_on_lawful s i vs stand is suits

-- ---- a reply

act_lawful : (d : ProcessState) (i : Instruction) (r : Reply) → IsLawful d → instruction_of d.stack.top ≡ Some i → SuitsReply d r → IsLawful (after_act d r)
act_lawful d i (replies.Done vs) lawful is suits =
    subst (λ o. SuitsBy d.stack o vs → IsLawfulStack (went_by d.stack o vs)) (sym is) (λ suits. went_into_lawful d.stack vs i i.op (program_returned vs) lawful is refl suits) suits
act_lawful d i (replies.Signal x) lawful is suits = offered_lawful x.id d.stack lawful
act_lawful d i replies.MustWait lawful is suits = lawful

finish_lawful : (d : ProcessState) (cause : EndCause) (r : Reply) → IsLawful d → IsLawful (after_event d (Finish cause) r)
finish_lawful d cause (replies.Done vs) lawful = lawful
finish_lawful d cause (replies.Signal x) lawful = lawful
finish_lawful d cause replies.MustWait lawful = lawful

start_lawful : (d : ProcessState) (r : Reply) → IsLawful d → IsLawful (after_event d Start r)
start_lawful d (replies.Done vs) lawful = lawful
start_lawful d (replies.Signal x) lawful = lawful
start_lawful d replies.MustWait lawful = lawful

returns_lawful : (d : ProcessState) (r : Reply) → IsLawful d → IsLawful (after_event d (returns d) r)
returns_lawful d r lawful = finish_lawful d (if nat_le d.budget (d.done + 1) then causes.Budget else causes.Return) r lawful

acts_lawful : (d : ProcessState) (o : Option Instruction) (r : Reply) → IsLawful d → instruction_of d.stack.top ≡ o → SuitsReply d r → IsLawful (after_event d (acts d o) r)
acts_lawful d None r lawful is suits = returns_lawful d r lawful
acts_lawful d (Some i) r lawful is suits =
    cond_both (is_return i.op) (returns d) (act_of d.stack i) (λ e. IsLawful (after_event d e r)) (λ back. returns_lawful d r lawful) (λ on. act_lawful d i r lawful is suits)

asked_lawful : (d : ProcessState) (status : Status) (r : Reply) → IsLawful d → SuitsReply d r → IsLawful (after_asked d (asks d status) r)
asked_lawful d Fresh r lawful suits = start_lawful d r lawful
asked_lawful d Running r lawful suits =
    let o = instruction_of d.stack.top in
    cond_both (nat_le d.budget d.done) (Finish causes.Budget) (acts d o) (λ e. IsLawful (after_event d e r)) (λ spent. finish_lawful d causes.Budget r lawful) (λ left. acts_lawful d o r lawful refl suits)
asked_lawful d (Ending cause) r lawful suits = finish_lawful d cause r lawful
asked_lawful d Ended r lawful suits = lawful

-- after a reply that suits what it asked
pub absorbed_lawful : (d : ProcessState) (r : Reply) → IsLawful d → SuitsReply d r → IsLawful (absorbed d r)
unfolding absorbed event_of
absorbed_lawful d r lawful suits = settled_lawful (after_asked d (event_of d) r) (asked_lawful d d.status r lawful suits)

-- so it stays where memory was refused
pub answered_lawful : {A E : Type 0} (d p e : ProcessState) (r : Reply) (result : Result A E) → p ≡ d → OnOk result (e ≡ after_asked p (event_of p) r) → OnErr result (e ≡ p)
    → IsLawful d → SuitsReply d r → IsLawful (after_local_run e)
unfolding event_of
answered_lawful d p e r (Ok done) same ok err lawful suits = settled_lawful e (subst IsLawful (sym (rw same at ok)) (asked_lawful d d.status r lawful suits))
answered_lawful d p e r (Err fault) same ok err lawful suits = settled_lawful e (subst IsLawful (sym (err ∙ same)) lawful)

-- ---- its beginning

pub begun_lawful : (p : ProcessState) (made : CreateResult) (budget : ℕ) → p ≡ fresh made budget → AreSuited (program_rows_in made) (instructions_in made) → IsLawful (after_local_run p)
begun_lawful p made budget is suited = settled_lawful p (subst IsLawful (sym is) (first_lawful made suited))
