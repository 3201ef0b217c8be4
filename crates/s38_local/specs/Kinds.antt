-- What a local instruction does, by the kind of its computation.
use Rattle.std.specs.Prelude.{ℕ, List, Some}
use Rattle.s38_code.specs.declared.program.Instruction.{Instruction}
use Rattle.s38_code.specs.declared.program.Row.{Row}
use Rattle.s38_code.specs.declared.reply.Val.{Val}
use Rattle.s38_compute.specs.Computed.{as_branch, as_bytes, as_number, as_pointer, bytes_given, number_given, pointer_given, test_given}
use Rattle.s38_local.specs.Local.{of_variables, operand, received}
use Rattle.s38_local.specs.Received.{Ran}
use Rattle.s38_local.specs.Variables.{argument_attr}

abbrev pub number_run : List Row → List ℕ → List Val → Instruction → Ran
number_run rows homes values i =
    received homes values i (Some (as_number (argument_attr rows (operand i.args 1)) (number_given i.op i.round (of_variables rows homes values i.args))))

abbrev pub branch_run : List Row → List ℕ → List Val → Instruction → Ran
branch_run rows homes values i = received homes values i (Some (as_branch (test_given i.op (of_variables rows homes values i.args))))

abbrev pub bytes_run : List Row → List ℕ → List Val → Instruction → Ran
bytes_run rows homes values i = received homes values i (Some (as_bytes (bytes_given i.op (of_variables rows homes values i.args))))

abbrev pub pointer_run : List Row → List ℕ → List Val → Instruction → Ran
pointer_run rows homes values i = received homes values i (Some (as_pointer (pointer_given i.op (of_variables rows homes values i.args))))
