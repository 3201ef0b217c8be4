-- What the words of a line say, taken together as they are read: the operands, and whether each name is declared and
-- each label there.
use Rattle.std.specs.Prelude.{ℕ, Bool, ◌&&◌, List, [], ◌∷◌, ◌++◌, map, Option, Some, None, Result, Err, if◌then◌else◌}
use Rattle.std.specs.List.{list_all}
use Rattle.std.specs.Option.{option_map, option_and_then}
use Rattle.s38_base.specs.declared.op.Op.{Op}
use Rattle.s38_base.specs.Exceptions as exceptions
use Rattle.s38_code.specs.declared.class.Class.{Class}
use Rattle.s38_code.specs.declared.program.Arg.{Arg}
use Rattle.s38_code.specs.declared.program.CreateFault.{CreateFault}
use Rattle.s38_code.specs.declared.program.CreateFault.TheVariants.{Bad}
use Rattle.s38_code.specs.declared.program.Instruction.{Instruction}
use Rattle.s38_code.specs.declared.program.Row.{Row}
use Rattle.s38_words.specs.Text.{after_byte, before}
use Rattle.s38_odt.specs.Suits.{class_is_argument}
use Rattle.s38_create.specs.Instruction.{cause_of, unless}
use Rattle.s38_create.specs.Parsed.{arg_of, is_declared, is_placed, parsed_operand}
use Rattle.s38_create.specs.declared.parsed.ParsedOperand.{ParsedOperand}

-- the operands, and whether each name is declared and each label is there
pub record AllSaid : Type 0 where
  pub args : List Arg
  pub are_declared : Bool
  pub are_placed : Bool

-- these operands together
abbrev pub said_of : List ParsedOperand → AllSaid
said_of parsed = record { args = map arg_of parsed; are_declared = list_all is_declared parsed; are_placed = list_all is_placed parsed }

-- one operand more
abbrev pub with_operand : AllSaid → ParsedOperand → AllSaid
with_operand said operand =
    record { args = said.args ++ arg_of operand ∷ []; are_declared = said.are_declared && is_declared operand; are_placed = said.are_placed && is_placed operand }

-- what is said where a word says something at its place
abbrev pub where_found : Bool → AllSaid → Option AllSaid
where_found found said = if found then Some said else None

-- what was said so far with what the words of the rest of the text say, parted by commas: one for each class,
-- arguments at the end aside, and no text after the last
abbrev pub said_from : List Row → List (List ℕ) → AllSaid → List Class → Option (List ℕ) → Option AllSaid
said_from rows code said [] None = Some said
said_from rows code said [] (Some text) = None
said_from rows code said (class ∷ classes) None = if class_is_argument class then Some said else None
said_from rows code said (class ∷ classes) (Some text) =
    option_and_then (λ more. said_from rows code more classes (after_byte 44 text)) (option_map (with_operand said) (parsed_operand rows code class (before 44 text)))

-- ---- the instruction of what is said

abbrev pub instruction_with : Op → Bool → AllSaid → Instruction
instruction_with op round said = record { op = op; round = round; args = said.args }

abbrev pub checked_said : List Row → ℕ → Op → Bool → AllSaid → Result Instruction CreateFault
checked_said rows number op round said =
    unless (cause_of rows (instruction_with op round said) said.are_declared said.are_placed) number (instruction_with op round said)

abbrev pub by_said : List Row → ℕ → Op → Bool → Option AllSaid → Result Instruction CreateFault
by_said rows number op round None = Err (Bad exceptions.operands_invalid number)
by_said rows number op round (Some said) = checked_said rows number op round said
