-- The instruction that a line makes, and the causes for which a line makes none.
use Rattle.std.specs.Prelude.{ℕ, ◌+◌, Bool, true, not, ◌&&◌, List, [], ◌∷◌, ◌++◌, map, length, nat_le, Option, Some, None, Result, Ok, Err, if◌then◌else◌}
use Rattle.std.specs.List.{list_all}
use Rattle.s38_base.specs.declared.op.Op.{Op}
use Rattle.s38_code.specs.Operations.{classes}
use Rattle.s38_code.specs.declared.program.Arg.{Arg}
use Rattle.s38_code.specs.declared.program.CreateFault.{CreateFault}
use Rattle.s38_code.specs.declared.program.CreateFault.TheVariants.{Bad}
use Rattle.s38_code.specs.declared.program.Instruction.{Instruction}
use Rattle.s38_code.specs.declared.program.Row.{Row}
use Rattle.s38_odt.specs.Labels.{is_label}
use Rattle.s38_create.specs.Parsed.{arg_of, is_declared, is_placed, parsed_from}
use Rattle.s38_odt.specs.OperandRules.{argument_word_at, digits_needed, operands_fit}
use Rattle.s38_create.specs.declared.parsed.ParsedOperand.{ParsedOperand}
use Rattle.s38_base.specs.Exceptions as exceptions
use Rattle.s38_base.specs.Relations.{relation_word}
use Rattle.s38_base.specs.declared.op.Op.TheVariants.{Deq}
use Rattle.s38_base.specs.declared.words.Relation.TheVariants.{Any}
use Rattle.s38_words.specs.ProgramLine.{ActLine, act_line_of, rounds_right}

-- ---- an instruction of words that its row may have

-- `(R)` is only where it may be
abbrev pub round_is_taken : ActLine → Bool
round_is_taken act = rounds_right act.round act.op

-- the parsed operands of a line, where it has those of the row
abbrev pub parsed_of : List Row → List (List ℕ) → ActLine → Option (List ParsedOperand)
parsed_of rows code act = if round_is_taken act then parsed_from rows code [] (classes act.op) act.operands else None

abbrev pub instruction_from : Op → Bool → List ParsedOperand → Instruction
instruction_from op round parsed = record { op = op; round = round; args = map arg_of parsed }

-- ---- relations

-- a message is not asked for by its place in the order: DEQ has neither FIRST nor LAST
unfoldable pub takes_relation : Op → List Arg → Bool
takes_relation Deq args = nat_le (argument_word_at args 2) (relation_word Any)
takes_relation op args = true

-- ---- causes

-- the first cause for which an instruction is bad: a name that is not declared, operands that are not the row's, too
-- many digits, a missing label
unfoldable pub cause_of : List Row → Instruction → Bool → Bool → Option ℕ
cause_of rows i declared placed =
    if not declared then Some exceptions.name_missing
    else (if not (operands_fit rows i.op i.args && takes_relation i.op i.args) then Some exceptions.attributes_invalid
    else (if not (nat_le (digits_needed rows i.op i.args) 38) then Some exceptions.digits_exceeded
    else (if not placed then Some exceptions.label_missing else None)))

abbrev pub unless : Option ℕ → ℕ → Instruction → Result Instruction CreateFault
unless None number i = Ok i
unless (Some cause) number i = Err (Bad cause number)

-- the instruction that these words say, where there is no cause against it
abbrev pub checked : List Row → ℕ → Op → Bool → List ParsedOperand → Result Instruction CreateFault
checked rows number op round parsed =
    unless (cause_of rows (instruction_from op round parsed) (list_all is_declared parsed) (list_all is_placed parsed)) number (instruction_from op round parsed)

abbrev pub by_parsed : List Row → ℕ → Op → Bool → Option (List ParsedOperand) → Result Instruction CreateFault
by_parsed rows number op round None = Err (Bad exceptions.operands_invalid number)
by_parsed rows number op round (Some parsed) = checked rows number op round parsed

abbrev pub by_act : List Row → List (List ℕ) → ℕ → Option ActLine → Result Instruction CreateFault
by_act rows code number None = Err (Bad exceptions.operands_invalid number)
by_act rows code number (Some act) = by_parsed rows number act.op act.round (parsed_of rows code act)

-- what a line makes as the instruction of a number, counted from 1
unfoldable pub instruction_made : List Row → List (List ℕ) → ℕ → List ℕ → Result Instruction CreateFault
instruction_made rows code number line = by_act rows code number (act_line_of line)

-- ---- code

abbrev pub result_and_then : {A B : Type 0} → (A → Result B CreateFault) → Result A CreateFault → Result B CreateFault
result_and_then f (Ok x) = f x
result_and_then f (Err e) = Err e

-- the instructions so far and those of further lines; labels make none
abbrev pub code_from : List Row → List (List ℕ) → List Instruction → List (List ℕ) → Result (List Instruction) CreateFault
code_from rows code made [] = Ok made
code_from rows code made (line ∷ lines) =
    if is_label line
    then code_from rows code made lines
    else result_and_then (λ i. code_from rows code (made ++ i ∷ []) lines) (instruction_made rows code (length made + 1) line)
