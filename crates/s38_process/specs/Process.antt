-- A process: its invocations, and how far it has come. It asks one event after another, and goes on by the replies, each
-- time up to its next shared instruction.
use Rattle.std.specs.Prelude.{ℕ, ◌+◌, Bool, true, false, List, Option, Some, None, nat_le, if◌then◌else◌}
use Rattle.s38_base.specs.declared.op.Op.{Op}
use Rattle.s38_base.specs.declared.op.Op.TheVariants.{Rtx}
use Rattle.s38_code.specs.declared.event.Event.{Event}
use Rattle.s38_code.specs.declared.event.Event.TheVariants.{Start, Act, Finish}
use Rattle.s38_code.specs.declared.event.EndCause.{EndCause}
use Rattle.s38_code.specs.declared.event.EndCause.TheVariants as causes
use Rattle.s38_code.specs.declared.made.CreateResult.{CreateResult}
use Rattle.s38_code.specs.declared.program.Instruction.{Instruction}
use Rattle.s38_code.specs.declared.reply.Val.{Val}
use Rattle.s38_local.specs.declared.frame.Frame.{Frame}
use Rattle.s38_process.specs.declared.status.Status.{Status}
use Rattle.s38_process.specs.declared.status.Status.TheVariants.{Fresh, Running, Ending, Ended}
use Rattle.s38_process.specs.Exceptions.{Offered, offered}
use Rattle.s38_process.specs.Invocations.{Stack, depth_of, first_stack, instruction_of, program_rows_in}
use Rattle.s38_requests.specs.Requests.{request_of}

pub record ProcessState : Type 0 where
  -- its invocations and their variables
  pub stack : Stack
  -- how many instructions were done
  pub done : ℕ
  pub budget : ℕ
  pub status : Status

-- ---- what it asks

abbrev pub is_return : Op → Bool
is_return Rtx = true
is_return _ = false

-- a return counts as an instruction; the budget comes before it
abbrev pub returns : ProcessState → Event
returns d = Finish (if nat_le d.budget (d.done + 1) then causes.Budget else causes.Return)

-- an instruction of the newest invocation, at the depth of the invocations
abbrev pub act_of : Stack → Instruction → Event
act_of s i = Act (depth_of s) (request_of (program_rows_in s.top.made) s.top.frame.homes s.values i)

-- running past the last instruction is a return
abbrev pub acts : ProcessState → Option Instruction → Event
acts d None = returns d
acts d (Some i) = if is_return i.op then returns d else act_of d.stack i

abbrev pub runs : ProcessState → Event
runs d = if nat_le d.budget d.done then Finish causes.Budget else acts d (instruction_of d.stack.top)

abbrev pub asks : ProcessState → Status → Option Event
asks d Fresh = Some Start
asks d Running = Some (runs d)
asks d (Ending cause) = Some (Finish cause)
asks d Ended = None

-- the next event of a settled process; none exactly after its end
unfoldable pub event_of : ProcessState → Option Event
event_of d = asks d d.status

-- ---- exceptions

-- an exception that nobody takes ends the process; the budget comes before it
abbrev pub unhandled_by : ℕ → ℕ → ℕ → EndCause
unhandled_by budget done id = if nat_le budget (done + 1) then causes.Budget else causes.Unhandled id

abbrev pub unhandled : ProcessState → ℕ → EndCause
unhandled d id = unhandled_by d.budget d.done id

abbrev pub signal_status : ProcessState → ℕ → Bool → Status
signal_status d code true = d.status
signal_status d code false = Ending (unhandled d code)

-- an exception is taken by an invocation, or ends the process; the instruction counts
abbrev pub after_offer : ProcessState → ℕ → Offered → ProcessState
after_offer d code offer = record d { stack = offer.stack; done = d.done + 1; status = signal_status d code offer.taken }

abbrev pub after_signal : ProcessState → ℕ → ProcessState
after_signal d code = after_offer d code (offered code d.stack)

-- ---- its local run, up to the next shared instruction

-- the newest invocation has this frame
abbrev pub with_frame : Stack → List Val → Frame → Stack
with_frame s values frame = record s { values = values; top = record s.top { frame = frame } }

abbrev pub one_more : ProcessState → Stack → ProcessState
one_more d s = record d { stack = s; done = d.done + 1 }

-- ---- how it goes on

-- a process that has not started; it is settled
abbrev pub fresh : CreateResult → ℕ → ProcessState
fresh made budget = record { stack = first_stack made; done = 0; budget = budget; status = Fresh }
