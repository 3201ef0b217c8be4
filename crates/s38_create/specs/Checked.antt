-- What creation makes of a template: a program, or a refusal with its cause and its place.
use Rattle.std.specs.Prelude.{ℕ, List, Result, Ok, Err}
use Rattle.s38_code.specs.declared.made.CreateResult.{CreateResult}
use Rattle.s38_code.specs.declared.made.CreateResult.TheVariants.{Created, Refused}
use Rattle.s38_code.specs.declared.program.CreateFault.{CreateFault}
use Rattle.s38_code.specs.declared.program.CreateFault.TheVariants.{Bad, NoMemory}
use Rattle.s38_code.specs.declared.program.Program.{Program}
use Rattle.s38_create.specs.Created.{program_created}
use Rattle.s38_create.specs.WellFormed.{WellFormed}

-- a definition never wants memory, so the last case is none
abbrev pub result_of_creation : Result Program CreateFault → CreateResult
result_of_creation (Ok program) = Created program
result_of_creation (Err (Bad id number)) = Refused id number
result_of_creation (Err NoMemory) = Refused 0 0

-- what creation makes of a template's lines
abbrev pub made_of : List (List ℕ) → CreateResult
made_of lines = result_of_creation (program_created lines)

-- a program that was made is well formed
abbrev pub IsFormed : CreateResult → Type 0
IsFormed (Created program) = WellFormed program
IsFormed (Refused id number) = Unit {0}
