-- What holds of every pointer in the variables of a process, and in what comes to it, holds of every pointer that it
-- asks with, and of those in its variables after what came.
use Rattle.std.proofs.Common.{◌≡◌, ℕ, zero, suc, ◌-◌, Bool, true, false, List, [], ◌∷◌, take, subst}
use Rattle.std.proofs.lemmas.Bool.{cond_both}
use Rattle.std.proofs.lemmas.List.Elements.{All-append, All-cons, All-head, All-nil, All-tail, All-set, All-take}
use Rattle.std.specs.Prelude.{All, IfSome, Option, Some, None, Result, Ok, ℤ, nat_le, nat_lt, slice_get}
use Rattle.s38_base.specs.declared.attr.Attr.{Attr}
use Rattle.s38_base.specs.declared.attr.Attr.TheVariants as attrs
use Rattle.s38_base.specs.declared.exception.Exception.{Exception}
use Rattle.s38_base.specs.declared.op.Op.{Op}
use Rattle.s38_base.specs.declared.op.Op.TheVariants.{Callx, Retexcpd, Xctl}
use Rattle.s38_base.specs.declared.pointer.Pointer.{Pointer}
use Rattle.s38_code.specs.Operations.{classes}
use Rattle.s38_code.specs.declared.class.Class.{Class}
use Rattle.s38_code.specs.declared.entry.Entry.{Entry}
use Rattle.s38_code.specs.declared.event.EndCause.TheVariants as causes
use Rattle.s38_code.specs.declared.event.Event.{Event}
use Rattle.s38_code.specs.declared.event.Event.TheVariants.{Start, Act, Finish}
use Rattle.s38_code.specs.declared.made.CreateResult.{CreateResult}
use Rattle.s38_code.specs.declared.program.Arg.{Arg}
use Rattle.s38_code.specs.declared.program.Arg.TheVariants as args
use Rattle.s38_code.specs.declared.program.Form.{Form}
use Rattle.s38_code.specs.declared.program.Form.TheVariants as forms
use Rattle.s38_code.specs.declared.program.Instruction.{Instruction}
use Rattle.s38_code.specs.declared.program.Program.{Program}
use Rattle.s38_code.specs.declared.program.Row.{Row}
use Rattle.s38_code.specs.declared.reply.Reply.{Reply}
use Rattle.s38_code.specs.declared.reply.Reply.TheVariants as replies
use Rattle.s38_code.specs.declared.reply.Val.{Val}
use Rattle.s38_code.specs.declared.reply.Val.TheVariants as vals
use Rattle.s38_compute.specs.declared.given.Given.{Given}
use Rattle.s38_compute.specs.declared.given.Given.TheVariants as givens
use Rattle.s38_compute.specs.Computed.{computed}
use Rattle.s38_local.specs.declared.frame.Frame.{Frame}
use Rattle.s38_local.specs.declared.local_end.LocalEnd.{LocalEnd}
use Rattle.s38_local.specs.declared.local_end.LocalEnd.TheVariants as ends
use Rattle.s38_local.specs.Frames.{Went, code_bytes, stays}
use Rattle.s38_local.specs.Local.{computed_run, controlled, is_control, of_variables, operand, received as came, receiver_of, run}
use Rattle.s38_local.specs.Received.{changed_at, changed_there, value_with_bytes, value_with_number}
use Rattle.s38_local.specs.Variables.{argument_pointer, form_in, item_place, value_at, value_of_item, value_pointer, value_put_at}
use Rattle.s38_process.specs.declared.invocation.Invocation.{Invocation}
use Rattle.s38_process.specs.declared.status.Status.{Status}
use Rattle.s38_process.specs.declared.status.Status.TheVariants.{Running}
use Rattle.s38_process.specs.Exceptions.{Offered, label_by, offered, offered_from, or_else}
use Rattle.s38_process.specs.Invocations.{Stack, blank_bytes, blank_values, deepest, depth_of, first_value, first_values, initial_value, instruction_of, popped_to, program_rows_in, with_blank_value, with_call}
use Rattle.s38_process.specs.Process.{ProcessState, act_of, acts, asks as asks_of, event_of, fresh, is_return, returns, with_frame}
use Rattle.s38_process.specs.AfterReply.{absorbed, after_asked, after_event, process_after, program_returned, went_by, went_into, went_on}
use Rattle.s38_process.specs.LocalRun.{after_local, after_local_run, after_run, alone, local_step, local_steps, ran}
use Rattle.s38_process.specs.Replies.{merged, put_received, takes_value, values_received}
use Rattle.s38_requests.specs.Requests.{is_receiver, item_by, item_operand, operand_of, operand_source, operands_of, request_of}
use Rattle.s38_laws_confinement.proofs.PointerLaws.{OfComputed, computed_kept, get_of}
use Rattle.s38_laws_confinement.specs.OfPointers.{IsClosed, OfEvent, OfOperand, OfPointer, OfReply, OfVal, OfVals}

-- ---- variables

held : (q : Pointer → Type 0) (values : List Val) (o : Option ℕ) → OfVals q values → IfSome (value_at values o) (OfVal q)
held q values None h = tt
held q values (Some place) h = get_of (OfVal q) values place h

pointed : (q : Pointer → Type 0) (o : Option Val) → IfSome o (OfVal q) → OfPointer q (value_pointer o)
pointed q (Some (vals.Ptr p)) h = h
pointed q _ h = tt

set_kept : (q : Pointer → Type 0) (values : List Val) (o : Option ℕ) (v : Val) → OfVals q values → OfVal q v → OfVals q (value_put_at values o v)
set_kept q values None v h new = h
set_kept q values (Some place) v h new = All-set (OfVal q) values place v new h

-- ---- a process begins without pointers

first_plain : (q : Pointer → Type 0) (attr : Attr) (first : List ℕ) → OfVal q (initial_value attr first)
first_plain q attrs.Pointer first = tt
first_plain q attr first = tt

form_plain : (q : Pointer → Type 0) (form : Form) → OfVal q (first_value form)
form_plain q (forms.Local attr first) = first_plain q attr first
form_plain q form = tt

firsts_plain : (q : Pointer → Type 0) (rows : List Row) → OfVals q (first_values rows)
firsts_plain q [] = All-nil (OfVal q)
firsts_plain q (row ∷ rows) = All-cons (OfVal q) (first_value row.form) (first_values rows) (form_plain q row.form) (firsts_plain q rows)

blank_plain : (q : Pointer → Type 0) (form : Form) (more : List Val) → OfVals q more → OfVals q (with_blank_value form more)
blank_plain q (forms.Parm k attr) more h = All-cons (OfVal q) (initial_value attr (blank_bytes attr)) more (first_plain q attr (blank_bytes attr)) h
blank_plain q form more h = h

blanks_plain : (q : Pointer → Type 0) (rows : List Row) → OfVals q (blank_values rows)
blanks_plain q [] = All-nil (OfVal q)
blanks_plain q (row ∷ rows) = blank_plain q row.form (blank_values rows) (blanks_plain q rows)

pub begins : (q : Pointer → Type 0) (made : CreateResult) (budget : ℕ) → OfVals q (fresh made budget).stack.values
begins q made budget =
    let rows = program_rows_in made in
    All-append (OfVal q) (blank_values rows) (first_values rows) (blanks_plain q rows) (firsts_plain q rows)

-- ---- what it asks

source_kept : (q : Pointer → Type 0) (attr : Attr) (v : Option Val) → IfSome v (OfVal q) → OfOperand q (operand_source attr v)
source_kept q attrs.Pointer v h = pointed q v h
source_kept q attr v h = tt

variable_kept : (q : Pointer → Type 0) (receiver : Bool) (attr : Attr) (v : Option Val) → IfSome v (OfVal q) → OfOperand q (item_operand receiver attr v)
variable_kept q true attr v h = tt
variable_kept q false attr v h = source_kept q attr v h

item_kept : (q : Pointer → Type 0) (homes : List ℕ) (values : List Val) (receiver : Bool) (i : ℕ) (form : Option Form) → OfVals q values → OfOperand q (item_by homes values receiver i form)
item_kept q homes values receiver i (Some (forms.Based base offset attr)) h =
    pointed q (value_of_item homes values base) (held q values (slice_get homes base) h)
item_kept q homes values receiver i (Some (forms.Local attr first)) h = variable_kept q receiver attr (value_of_item homes values i) (held q values (slice_get homes i) h)
item_kept q homes values receiver i (Some (forms.Parm k attr)) h = variable_kept q receiver attr (value_of_item homes values i) (held q values (slice_get homes i) h)
item_kept q homes values receiver i (Some (forms.Handler code at)) h =
    variable_kept q receiver attrs.Pointer (value_of_item homes values i) (held q values (slice_get homes i) h)
item_kept q homes values receiver i None h = variable_kept q receiver attrs.Pointer (value_of_item homes values i) (held q values (slice_get homes i) h)

operand_kept : (q : Pointer → Type 0) (rows : List Row) (homes : List ℕ) (values : List Val) (class : Class) (arg : Arg) → OfVals q values → OfOperand q (operand_of rows homes values class arg)
operand_kept q rows homes values class (args.Item i) h = item_kept q homes values (is_receiver class) i (form_in (slice_get rows i)) h
operand_kept q rows homes values class arg h = tt

operands_kept : (q : Pointer → Type 0) (rows : List Row) (homes : List ℕ) (values : List Val) (classes : List Class) (given : List Arg) → OfVals q values
    → All (OfOperand q) (operands_of rows homes values classes given)
operands_kept q rows homes values (class ∷ more) (arg ∷ rest) h =
    All-cons (OfOperand q) (operand_of rows homes values class arg) (operands_of rows homes values more rest)
    (operand_kept q rows homes values class arg h) (operands_kept q rows homes values more rest h)
operands_kept q rows homes values _ _ h = All-nil (OfOperand q)

act_kept : (q : Pointer → Type 0) (s : Stack) (i : Instruction) → OfVals q s.values → OfEvent q (act_of s i)
unfolding request_of
act_kept q s i h = operands_kept q (program_rows_in s.top.made) s.top.frame.homes s.values (classes i.op) i.args h

acts_kept : (q : Pointer → Type 0) (d : ProcessState) (o : Option Instruction) → OfVals q d.stack.values → OfEvent q (acts d o)
acts_kept q d None h = tt
acts_kept q d (Some i) h = cond_both (is_return i.op) (returns d) (act_of d.stack i) (OfEvent q) (λ back. tt) (λ on. act_kept q d.stack i h)

asked_kept : (q : Pointer → Type 0) (d : ProcessState) (status : Status) → OfVals q d.stack.values → IfSome (asks_of d status) (OfEvent q)
asked_kept q d Running h =
    let o = instruction_of d.stack.top in
    cond_both (nat_le d.budget d.done) (Finish causes.Budget) (acts d o) (OfEvent q) (λ spent. tt) (λ left. acts_kept q d o h)
asked_kept q d _ h = tt

pub asks : (q : Pointer → Type 0) (d : ProcessState) (e : Event) → OfVals q d.stack.values → event_of d ≡ Some e → OfEvent q e
unfolding event_of
asks q d e h is = subst (λ x. IfSome x (OfEvent q)) is (asked_kept q d d.status h)

-- ---- invocations end

popped_kept : (q : Pointer → Type 0) (s : Stack) (callers : List Invocation) → OfVals q s.values → OfVals q (popped_to s callers).values
popped_kept q s [] h = h
popped_kept q s (caller ∷ more) h = All-take (OfVal q) s.top.frame.base s.values h

or_else_kept : (q : Pointer → Type 0) (code : ℕ) (s : Stack) (o : Option ℕ) (next : Offered) → OfVals q s.values → OfVals q next.stack.values → OfVals q (or_else code s o next).stack.values
or_else_kept q code s None next h further = further
or_else_kept q code s (Some at) next h further = h

offered_from_kept : (q : Pointer → Type 0) (code : ℕ) (values : List Val) (top : Invocation) (callers : List Invocation) → OfVals q values
    → OfVals q (offered_from code values top callers).stack.values
offered_from_kept q code values top [] h =
    let s : Stack = record { values = values; top = top; callers = [] } in
    or_else_kept q code s (label_by top code) (record { stack = s; taken = false }) h h
offered_from_kept q code values top (caller ∷ more) h =
    let s : Stack = record { values = values; top = top; callers = caller ∷ more } in
    let n = top.frame.base in
    or_else_kept q code s (label_by top code) (offered_from code (take n values) caller more) h (offered_from_kept q code (take n values) caller more (All-take (OfVal q) n values h))

offered_kept : (q : Pointer → Type 0) (code : ℕ) (s : Stack) → OfVals q s.values → OfVals q (offered code s).stack.values
offered_kept q code s h = offered_from_kept q code s.values s.top s.callers h

-- ---- local instructions

-- bytes that go to a variable leave it without a pointer, or as it was
changed_kept : (q : Pointer → Type 0) (values : List Val) (place : Option ℕ) (f : Val → Val) → ((v : Val) → OfVal q v → OfVal q (f v)) → OfVals q values → OfVals q (changed_at values place f)
changed_kept q values place f keeps h = by (value_at values place) (held q values place h)
  where
    by : (o : Option Val) → IfSome o (OfVal q) → OfVals q (changed_there values place f o)
    by None old = h
    by (Some v) old = set_kept q values place (f v) h (keeps v old)

number_there : (q : Pointer → Type 0) (attr : Attr) (z : ℤ) (v : Val) → OfVal q v → OfVal q (value_with_number attr z v)
number_there q attr z (vals.Bytes old) h = tt
number_there q attr z v h = h

bytes_there : (q : Pointer → Type 0) (bytes : List ℕ) (v : Val) → OfVal q v → OfVal q (value_with_bytes bytes v)
bytes_there q bytes (vals.Bytes old) h = tt
bytes_there q bytes v h = h

argument_pointed : (q : Pointer → Type 0) (homes : List ℕ) (values : List Val) (o : Option Arg) → OfVals q values → OfPointer q (argument_pointer homes values o)
argument_pointed q homes values None h = tt
argument_pointed q homes values (Some (args.Item i)) h = pointed q (value_of_item homes values i) (held q values (slice_get homes i) h)
argument_pointed q homes values (Some arg) h = tt

came_kept : (q : Pointer → Type 0) (homes : List ℕ) (values : List Val) (i : Instruction) (o : Option (Result Given Exception)) → OfVals q values → OfComputed q o
    → OfVals q (came homes values i o).values
came_kept q homes values i (Some (Ok (givens.Number attr z))) h new = changed_kept q values (receiver_of homes i.args) (value_with_number attr z) (number_there q attr z) h
came_kept q homes values i (Some (Ok (givens.Bytes bytes))) h new = changed_kept q values (receiver_of homes i.args) (value_with_bytes bytes) (bytes_there q bytes) h
came_kept q homes values i (Some (Ok (givens.Pointer p))) h new = set_kept q values (receiver_of homes i.args) (vals.Ptr (Some p)) h new
came_kept q homes values i _ h new = h

computed_run_kept : (q : Pointer → Type 0) → IsClosed q → (rows : List Row) (homes : List ℕ) (values : List Val) (i : Instruction) → OfVals q values → OfVals q (computed_run rows homes values i).values
computed_run_kept q closed rows homes values i h =
    let r = of_variables rows homes values i.args in
    came_kept q homes values i (computed i.op i.round r) h (computed_kept q closed i.op i.round r (argument_pointed q homes values (operand i.args 2) h))

controlled_kept : (q : Pointer → Type 0) (frame : Frame) (values : List Val) (i : Instruction) (op : Op) → OfVals q values → OfVals q (controlled frame values i op).values
controlled_kept q frame values i Retexcpd h =
    let bytes = code_bytes frame.latest in
    changed_kept q values (receiver_of frame.homes i.args) (value_with_bytes bytes) (bytes_there q bytes) h
controlled_kept q frame values i op h = h

run_kept : (q : Pointer → Type 0) → IsClosed q → (rows : List Row) (frame : Frame) (values : List Val) (o : Option Instruction) → OfVals q values → OfVals q (run rows frame values o).values
unfolding run
run_kept q closed rows frame values None h = h
run_kept q closed rows frame values (Some i) h =
    cond_both (is_control i.op) (controlled frame values i i.op) (stays frame (computed_run rows frame.homes values i)) (λ went. OfVals q went.values)
    (λ control. controlled_kept q frame values i i.op h)
    (λ other. computed_run_kept q closed rows frame.homes values i h)

after_local_kept : (q : Pointer → Type 0) (d : ProcessState) (went : Went) (e : LocalEnd) → OfVals q went.values → OfVals q (after_local d went e).stack.values
after_local_kept q d went ends.Return h = popped_kept q (with_frame d.stack went.values went.frame) d.stack.callers h
after_local_kept q d went (ends.Signal x) h = offered_kept q x.id (with_frame d.stack went.values went.frame) h
after_local_kept q d went _ h = h

step_kept : (q : Pointer → Type 0) → IsClosed q → (d : ProcessState) → OfVals q d.stack.values → OfVals q (local_step d).stack.values
unfolding local_step
step_kept q closed d h =
    let s = d.stack in
    cond_both (alone d) (after_run d (ran s)) d (λ e. OfVals q e.stack.values)
    (λ is. after_local_kept q d (ran s) (ran s).end (run_kept q closed (program_rows_in s.top.made) s.top.frame s.values (instruction_of s.top) h))
    (λ is. h)

steps_kept : (q : Pointer → Type 0) → IsClosed q → (n : ℕ) (d : ProcessState) → OfVals q d.stack.values → OfVals q (local_steps n d).stack.values
unfolding local_steps
steps_kept q closed zero d h = h
steps_kept q closed (suc n) d h = steps_kept q closed n (local_step d) (step_kept q closed d h)

pub settled_kept : (q : Pointer → Type 0) → IsClosed q → (d : ProcessState) → OfVals q d.stack.values → OfVals q (after_local_run d).stack.values
unfolding after_local_run
settled_kept q closed d h = steps_kept q closed (d.budget - d.done) d h

-- ---- what comes

merged_kept : (q : Pointer → Type 0) (op : Op) (old : Option Val) (v : Val) → OfVal q v → OfVal q (merged op old v)
merged_kept q op (Some (vals.Bytes old)) (vals.Bytes new) h = tt
merged_kept q op _ v h = h

received_kept : (q : Pointer → Type 0) (op : Op) (rows : List Row) (homes : List ℕ) (classes : List Class) (given : List Arg) (vs values : List Val) → OfVals q vs → OfVals q values
    → OfVals q (values_received op rows homes classes given vs values)
received_kept q op rows homes (class ∷ more) (arg ∷ rest) (v ∷ vs) values new h =
    let at = item_place homes (Some arg) in
    let w = merged op (value_at values at) v in
    cond_both (takes_value rows class arg) (values_received op rows homes more rest vs (put_received op values at v)) (values_received op rows homes more rest (v ∷ vs) values) (OfVals q)
    (λ takes. received_kept q op rows homes more rest vs (put_received op values at v) (All-tail (OfVal q) v vs new)
    (set_kept q values at w h (merged_kept q op (value_at values at) v (All-head (OfVal q) v vs new))))
    (λ stays. received_kept q op rows homes more rest (v ∷ vs) values new h)
received_kept q op rows homes _ _ _ values new h = h

went_on_kept : (q : Pointer → Type 0) (s : Stack) (o : Option Instruction) (vs : List Val) → OfVals q s.values → OfVals q vs → OfVals q (went_on s o vs).values
went_on_kept q s None vs h new = h
went_on_kept q s (Some i) vs h new = received_kept q i.op (program_rows_in s.top.made) s.top.frame.homes (classes i.op) i.args vs s.values new h

went_into_kept : (q : Pointer → Type 0) (s : Stack) (vs : List Val) (i : Instruction) (op : Op) (program : Option Program) → OfVals q s.values → OfVals q vs
    → OfVals q (went_into s vs i op program).values
went_into_kept q s vs i Callx (Some program) h new =
    cond_both (nat_lt (depth_of s) deepest) (with_call s program) (went_on s (Some i) vs) (λ t. OfVals q t.values)
    (λ few. All-append (OfVal q) s.values (first_values program.rows) h (firsts_plain q program.rows))
    (λ many. went_on_kept q s (Some i) vs h new)
went_into_kept q s vs i Xctl (Some program) h new =
    let n = s.top.frame.base in
    All-append (OfVal q) (take n s.values) (first_values program.rows) (All-take (OfVal q) n s.values h) (firsts_plain q program.rows)
went_into_kept q s vs i op program h new = went_on_kept q s (Some i) vs h new

went_by_kept : (q : Pointer → Type 0) (s : Stack) (o : Option Instruction) (vs : List Val) → OfVals q s.values → OfVals q vs → OfVals q (went_by s o vs).values
went_by_kept q s None vs h new = h
went_by_kept q s (Some i) vs h new = went_into_kept q s vs i i.op (program_returned vs) h new

after_event_kept : (q : Pointer → Type 0) (d : ProcessState) (e : Event) (r : Reply) → OfVals q d.stack.values → OfReply q r → OfVals q (after_event d e r).stack.values
after_event_kept q d (Act depth request) (replies.Done vs) h new = went_by_kept q d.stack (instruction_of d.stack.top) vs h new
after_event_kept q d (Act depth request) (replies.Signal x) h new = offered_kept q x.id d.stack h
after_event_kept q d Start (replies.Done vs) h new = h
after_event_kept q d (Finish cause) (replies.Done vs) h new = h
after_event_kept q d _ _ h new = h

after_asked_kept : (q : Pointer → Type 0) (d : ProcessState) (o : Option Event) (r : Reply) → OfVals q d.stack.values → OfReply q r → OfVals q (after_asked d o r).stack.values
after_asked_kept q d None r h new = h
after_asked_kept q d (Some e) r h new = after_event_kept q d e r h new

pub goes_on : (q : Pointer → Type 0) → IsClosed q → (d : ProcessState) (r : Reply) → OfVals q d.stack.values → OfReply q r → OfVals q (absorbed d r).stack.values
unfolding absorbed
goes_on q closed d r h new = settled_kept q closed (after_asked d (event_of d) r) (after_asked_kept q d (event_of d) r h new)

pub behind_kept : (q : Pointer → Type 0) → IsClosed q → (d : ProcessState) (es : List Entry) → OfVals q d.stack.values → All (λ e. OfReply q e.reply) es → OfVals q (process_after d es).stack.values
behind_kept q closed d [] h news = h
behind_kept q closed d (e ∷ es) h news =
    behind_kept q closed (absorbed d e.reply) es (goes_on q closed d e.reply h (All-head (λ e. OfReply q e.reply) e es news)) (All-tail (λ e. OfReply q e.reply) e es news)
