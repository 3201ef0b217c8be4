-- How a process goes on by the replies to what it asks, and the runs that come of it.
use Rattle.std.specs.Prelude.{◌≡◌, ℕ, ◌+◌, Bool, true, false, List, [], ◌∷◌, Option, Some, None, unwrap_or, nat_lt, if◌then◌else◌}
use Rattle.s38_base.specs.declared.op.Op.{Op}
use Rattle.s38_base.specs.declared.op.Op.TheVariants.{Callx, Xctl}
use Rattle.s38_code.specs.Operations.{classes}
use Rattle.s38_code.specs.declared.entry.Entry.{Entry}
use Rattle.s38_code.specs.declared.event.Event.{Event}
use Rattle.s38_code.specs.declared.event.Event.TheVariants.{Start, Act, Finish}
use Rattle.s38_code.specs.declared.event.EndCause.TheVariants as causes
use Rattle.s38_code.specs.declared.made.CreateResult.{CreateResult}
use Rattle.s38_code.specs.declared.made.CreateResult.TheVariants.{Created, Refused}
use Rattle.s38_code.specs.declared.program.Instruction.{Instruction}
use Rattle.s38_code.specs.declared.program.Program.{Program}
use Rattle.s38_code.specs.declared.program.Row.{Row}
use Rattle.s38_code.specs.declared.reply.Reply.{Reply}
use Rattle.s38_code.specs.declared.reply.Reply.TheVariants as replies
use Rattle.s38_code.specs.declared.reply.Val.{Val}
use Rattle.s38_code.specs.declared.reply.Val.TheVariants as vals
use Rattle.s38_process.specs.declared.status.Status.{Status}
use Rattle.s38_process.specs.declared.status.Status.TheVariants.{Running, Ending, Ended}
use Rattle.s38_process.specs.Invocations.{Stack, deepest, depth_of, exchanged, instruction_of, program_rows_in, with_call}
use Rattle.s38_process.specs.Replies.{branch_is_taken, first_label_in, values_received}
use Rattle.s38_process.specs.LocalRun.{after_local_run}
use Rattle.s38_process.specs.Process.{ProcessState, event_of, after_signal, with_frame, one_more}

abbrev pub received_by : List Row → List ℕ → Option Instruction → List Val → List Val → List Val
received_by rows homes None vs values = values
received_by rows homes (Some i) vs values = values_received i.op rows homes (classes i.op) i.args vs values

-- the place of the next instruction
abbrev pub next_instruction : Option Instruction → List Val → ℕ → ℕ
next_instruction None vs at = at + 1
next_instruction (Some i) vs at = if branch_is_taken vs then unwrap_or (first_label_in i.args) (at + 1) else at + 1

-- the newest invocation goes on with what came
abbrev pub went_on : Stack → Option Instruction → List Val → Stack
went_on s i vs =
    with_frame s (received_by (program_rows_in s.top.made) s.top.frame.homes i vs s.values)
    (record s.top.frame { at = next_instruction i vs s.top.frame.at })

-- a program that came
abbrev pub program_returned : List Val → Option Program
program_returned (vals.Code program ∷ vs) = Some program
program_returned _ = None

-- a call goes on in the program that came, where one more invocation may be; so does a transfer
abbrev pub went_into : Stack → List Val → Instruction → Op → Option Program → Stack
went_into s vs i Callx (Some program) = if nat_lt (depth_of s) deepest then with_call s program else went_on s (Some i) vs
went_into s vs i Xctl (Some program) = exchanged s program
went_into s vs i op came = went_on s (Some i) vs

abbrev pub went_by : Stack → Option Instruction → List Val → Stack
went_by s None vs = went_on s None vs
went_by s (Some i) vs = went_into s vs i i.op (program_returned vs)

abbrev pub after_act : ProcessState → Reply → ProcessState
after_act d (replies.Done vs) = one_more d (went_by d.stack (instruction_of d.stack.top) vs)
after_act d (replies.Signal x) = after_signal d x.id
after_act d replies.MustWait = d

abbrev pub after_end : ProcessState → Reply → ProcessState
after_end d replies.MustWait = d
after_end d (replies.Done vs) = record d { status = Ended }
after_end d (replies.Signal x) = record d { status = Ended }

-- a process whose template was refused ends once it has started
abbrev pub begun_by : CreateResult → Status
begun_by (Created program) = Running
begun_by (Refused id number) = Ending (causes.Create id number)

abbrev pub after_start : ProcessState → Reply → ProcessState
after_start d (replies.Done vs) = record d { status = begun_by d.stack.top.made }
after_start d (replies.Signal x) = record d { status = Ending (causes.Start x.id) }
after_start d replies.MustWait = d

abbrev pub after_event : ProcessState → Event → Reply → ProcessState
after_event d Start reply = after_start d reply
after_event d (Act depth request) reply = after_act d reply
after_event d (Finish cause) reply = after_end d reply

abbrev pub after_asked : ProcessState → Option Event → Reply → ProcessState
after_asked d None reply = d
after_asked d (Some event) reply = after_event d event reply

-- a settled process after the reply to its event
unfoldable pub absorbed : ProcessState → Reply → ProcessState
absorbed d reply = after_local_run (after_asked d (event_of d) reply)

-- each of the entries is what the process asks after the replies before it
abbrev pub RanFrom : ProcessState → List Entry → Type 0
RanFrom d [] = Unit {0}
RanFrom d (e ∷ es) = (event_of d ≡ Some e.event) × RanFrom (absorbed d e.reply) es

-- the process after these entries
abbrev pub process_after : ProcessState → List Entry → ProcessState
process_after d [] = d
process_after d (e ∷ es) = process_after (absorbed d e.reply) es

abbrev pub is_finish : Event → Bool
is_finish Start = false
is_finish (Act depth request) = false
is_finish (Finish cause) = true

-- the last of the entries is an end
abbrev pub ends_by_finish : List Entry → Bool
ends_by_finish [] = false
ends_by_finish (e ∷ []) = is_finish e.event
ends_by_finish (e ∷ f ∷ es) = ends_by_finish (f ∷ es)
