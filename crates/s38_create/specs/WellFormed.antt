-- What a caller may rely on in a program that was created.
use Rattle.std.specs.Prelude.{◌≤◌, ℕ, IsTrue, List, length}
use Rattle.std.specs.List.{All, list_all}
use Rattle.s38_code.specs.Operations.{made_kind}
use Rattle.s38_code.specs.declared.program.Instruction.{Instruction}
use Rattle.s38_code.specs.declared.program.Program.{Program}
use Rattle.s38_code.specs.declared.program.Row.{Row}
use Rattle.s38_create.specs.Instruction.{takes_relation}
use Rattle.s38_words.specs.ProgramLine.{rounds_right}
use Rattle.s38_odt.specs.Formed.{AreFormed}
use Rattle.s38_odt.specs.OperandRules.{digits_needed, names_kind}
use Rattle.s38_odt.specs.Suited.{IsSuited}

-- an instruction among so many, over these declarations
pub record InstructionFits (rows : List Row) (count : ℕ) (instruction : Instruction) : Type 0 where
  pub rounded : IsTrue (rounds_right instruction.round instruction.op)
  -- its operands are of the classes of its row
  pub suited : IsSuited rows count instruction
  pub relation : IsTrue (takes_relation instruction.op instruction.args)
  pub kinds : IsTrue (list_all (names_kind (made_kind instruction.op)) instruction.args)
  pub digits : digits_needed rows instruction.op instruction.args ≤ 38

pub record WellFormed (program : Program) : Type 0 where
  pub few_rows : length program.rows ≤ 1024
  pub formed : AreFormed (length program.code) program.rows
  pub few_instructions : length program.code ≤ 16384
  pub fits : All (InstructionFits program.rows (length program.code)) program.code
