-- An instruction that suits the declarations of its program: its operands are of the classes of its row.
use Rattle.std.specs.Prelude.{ℕ, Bool, true, IsTrue, ◌==◌, List, length, nat_le}
use Rattle.std.specs.List.{All, list_all}
use Rattle.s38_base.specs.Attributes.{length_of}
use Rattle.s38_code.specs.Operations.{classes, operand_rule}
use Rattle.s38_code.specs.declared.program.Arg.{Arg}
use Rattle.s38_code.specs.declared.program.Arg.TheVariants as args
use Rattle.s38_code.specs.declared.program.Instruction.{Instruction}
use Rattle.s38_code.specs.declared.program.Row.{Row}
use Rattle.s38_odt.specs.Formed.{AreFormed}
use Rattle.s38_odt.specs.OperandRules.{keeps_rule}
use Rattle.s38_odt.specs.Suits.{all_suit}

-- a literal has as many bytes as its attribute says
abbrev pub is_filled : Arg → Bool
is_filled (args.Literal attr bytes) = length bytes == length_of attr
is_filled _ = true

-- a jump goes to an instruction, or past the last
abbrev pub lands_in : ℕ → Arg → Bool
lands_in count (args.Jump at) = nat_le at count
lands_in count _ = true

-- an instruction among so many, over these declarations
pub record IsSuited (rows : List Row) (count : ℕ) (instruction : Instruction) : Type 0 where
  -- an operand for each class, which suits it
  pub classes : IsTrue (all_suit rows (classes instruction.op) instruction.args)
  pub ruled : IsTrue (keeps_rule rows (operand_rule instruction.op) instruction.args)
  pub filled : IsTrue (list_all is_filled instruction.args)
  pub jumps : IsTrue (list_all (lands_in count) instruction.args)

-- ---- a program whose declarations are well formed and whose instructions suit them

pub record AreSuited (rows : List Row) (code : List Instruction) : Type 0 where
  pub formed : AreFormed (length code) rows
  pub each : All (IsSuited rows (length code)) code
