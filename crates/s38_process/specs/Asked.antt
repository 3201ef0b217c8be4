-- What a process asks next; none after its end.
use Rattle.std.specs.Prelude.{Bool, false, not, Option, Some, None, nat_le, if◌then◌else◌}
use Rattle.s38_code.specs.declared.event.Event.{Event}
use Rattle.s38_code.specs.declared.program.Instruction.{Instruction}
use Rattle.s38_process.specs.Invocations.{instruction_of}
use Rattle.s38_process.specs.Process.{ProcessState, is_return}
use Rattle.s38_process.specs.declared.next.Next.{Next}
use Rattle.s38_process.specs.declared.next.Next.TheVariants.{Step, Ended}

abbrev pub asked : Next → Option Event
asked (Step event) = Some event
asked Ended = None

abbrev pub is_acting_at : Option Instruction → Bool
is_acting_at None = false
is_acting_at (Some i) = not (is_return i.op)

-- a running process asks for an instruction, and not for its end
abbrev pub is_acting : ProcessState → Bool
is_acting d = if nat_le d.budget d.done then false else is_acting_at (instruction_of d.stack.top)
