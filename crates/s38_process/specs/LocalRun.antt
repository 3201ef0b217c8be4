-- The local run of a process: what it does by itself, up to its next shared instruction.
use Rattle.std.specs.Prelude.{ℕ, zero, suc, ◌+◌, ◌-◌, Bool, true, false, not, ◌&&◌, List, [], ◌∷◌, Option, Some, None, nat_le, if◌then◌else◌}
use Rattle.s38_code.specs.declared.program.Instruction.{Instruction}
use Rattle.s38_code.specs.declared.program.Row.{Row}
use Rattle.s38_local.specs.declared.local_end.LocalEnd.{LocalEnd}
use Rattle.s38_local.specs.declared.local_end.LocalEnd.TheVariants as ends
use Rattle.s38_local.specs.Frames.{Went}
use Rattle.s38_local.specs.Local.{is_local, run}
use Rattle.s38_process.specs.declared.status.Status.{Status}
use Rattle.s38_process.specs.declared.status.Status.TheVariants.{Fresh, Running, Ending, Ended}
use Rattle.s38_process.specs.Invocations.{Stack, instruction_of, popped, program_rows_in}
use Rattle.s38_process.specs.Process.{ProcessState, is_return, returns, after_signal, with_frame, one_more}

-- a return, and so the end of the code
abbrev pub returns_there : Option Instruction → Bool
returns_there None = true
returns_there (Some i) = is_return i.op

abbrev pub is_none : {A : Type 0} → List A → Bool
is_none [] = true
is_none (x ∷ more) = false

-- a return of the first invocation outside of internal calls ends the process, and is no local instruction
abbrev pub ends_there : Stack → Option Instruction → Bool
ends_there s i = returns_there i && (is_none s.top.frame.returns && is_none s.callers)

abbrev pub is_local_there : List Row → Option Instruction → Bool
is_local_there rows None = true
is_local_there rows (Some i) = is_local rows i

abbrev pub alone_there : Stack → Option Instruction → Bool
alone_there s i = is_local_there (program_rows_in s.top.made) i && not (ends_there s i)

abbrev pub alone_by : ProcessState → Status → Bool
alone_by d Running = if nat_le d.budget d.done then false else alone_there d.stack (instruction_of d.stack.top)
alone_by d Fresh = false
alone_by d (Ending cause) = false
alone_by d Ended = false

-- whether a running process has budget left, and does its next instruction by itself
abbrev pub alone : ProcessState → Bool
alone d = alone_by d d.status

abbrev pub goes_to : Stack → Went → ℕ → Stack
goes_to s went at = with_frame s went.values (record went.frame { at = at })

-- a local instruction counts, also where it is signalled; a return goes back to the caller
abbrev pub after_local : ProcessState → Went → LocalEnd → ProcessState
after_local d went ends.Next = one_more d (goes_to d.stack went (d.stack.top.frame.at + 1))
after_local d went (ends.Jump at) = one_more d (goes_to d.stack went at)
after_local d went ends.Return = one_more d (popped (with_frame d.stack went.values went.frame))
after_local d went (ends.Signal x) = after_signal (record d { stack = with_frame d.stack went.values went.frame }) x.id

abbrev pub after_run : ProcessState → Went → ProcessState
after_run d went = after_local d went went.end

-- what the newest invocation's next instruction does
abbrev pub ran : Stack → Went
ran s = run (program_rows_in s.top.made) s.top.frame s.values (instruction_of s.top)

-- after its next instruction, where it does that by itself
unfoldable pub local_step : ProcessState → ProcessState
local_step d = if alone d then after_run d (ran d.stack) else d

-- after so many local instructions, or before the first one that is none
unfoldable pub local_steps : ℕ → ProcessState → ProcessState
local_steps zero d = d
local_steps (suc n) d = local_steps n (local_step d)

-- after its local run, where it asks something or has ended; each local instruction counts, so its budget bounds them
unfoldable pub after_local_run : ProcessState → ProcessState
after_local_run d = local_steps (d.budget - d.done) d
