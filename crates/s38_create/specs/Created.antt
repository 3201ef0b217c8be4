-- The program that a template makes: a head, declarations, code and END.
use Rattle.std.specs.Prelude.{ℕ, ◌-◌, Bool, ◌&&◌, List, [], take, drop, length, slice_index_or, codes, Option, Some, None, is_some, nat_le, Result, Ok, Err, if◌then◌else◌}
use Rattle.std.specs.List.{prefix_len}
use Rattle.s38_base.specs.Exceptions as exceptions
use Rattle.s38_words.specs.DeclarationLine.{after_dcl}
use Rattle.s38_words.specs.ProgramLine.{head_of}
use Rattle.s38_words.specs.Text.{is_word}
use Rattle.s38_words.specs.declared.program_lines.Head.{Head}
use Rattle.s38_code.specs.declared.program.CreateFault.{CreateFault}
use Rattle.s38_code.specs.declared.program.CreateFault.TheVariants.{Bad}
use Rattle.s38_code.specs.declared.program.Instruction.{Instruction}
use Rattle.s38_code.specs.declared.program.Program.{Program}
use Rattle.s38_code.specs.declared.program.Row.{Row}
use Rattle.s38_create.specs.Instruction.{code_from, result_and_then}
use Rattle.s38_odt.specs.Labels.{instruction_count}
use Rattle.s38_odt.specs.Table.{rows_of}

-- ---- lines

abbrev pub line_at : List (List ℕ) → ℕ → List ℕ
line_at lines k = slice_index_or lines k []

abbrev pub is_ended : List (List ℕ) → Bool
is_ended lines = nat_le 2 (length lines) && is_word (codes "END") (line_at lines (length lines - 1))

-- the lines between the first and the last
abbrev pub inner : List (List ℕ) → List (List ℕ)
inner lines = take (length lines - 2) (drop 1 lines)

abbrev pub is_declaration_line : List ℕ → Bool
is_declaration_line line = is_some (after_dcl line)

-- how many lines come before the first that is no declaration
abbrev pub declaration_count : List (List ℕ) → ℕ
declaration_count body = prefix_len is_declaration_line body

abbrev pub declarations : List (List ℕ) → List (List ℕ)
declarations body = take (declaration_count body) body

abbrev pub code : List (List ℕ) → List (List ℕ)
code body = drop (declaration_count body) body

-- at most 1,024 declarations and 16,384 instructions
abbrev pub program_is_small : List (List ℕ) → Bool
program_is_small body = nat_le (declaration_count body) 1024 && nat_le (instruction_count (code body)) 16384

-- ---- the program

-- a template that no deck has: its form is none, or it is too large
abbrev pub no_template : Result Program CreateFault
no_template = Err (Bad exceptions.operands_invalid 0)

abbrev pub program_of_parts : List (List ℕ) → Head → List Row → List Instruction → Program
program_of_parts lines head rows code = record { template = lines; rows = rows; code = code; adopts = head.adopts; propagates = head.propagates }

abbrev pub with_code : List (List ℕ) → Head → List Row → Result (List Instruction) CreateFault → Result Program CreateFault
with_code lines head rows instructions = result_and_then (λ code. Ok (program_of_parts lines head rows code)) instructions

abbrev pub program_with_rows : List (List ℕ) → Head → List (List ℕ) → List Row → Result Program CreateFault
program_with_rows lines head code rows = with_code lines head rows (code_from rows code [] code)

-- the declarations come before the code, and see its labels
abbrev pub created_inner : List (List ℕ) → Head → List (List ℕ) → Result Program CreateFault
created_inner lines head body =
    if program_is_small body then result_and_then (program_with_rows lines head (code body)) (rows_of (code body) (declarations body)) else no_template

abbrev pub created_by : List (List ℕ) → Option Head → Result Program CreateFault
created_by lines None = no_template
created_by lines (Some head) = created_inner lines head (inner lines)

-- the program of a template's lines, or its first bad place
unfoldable pub program_created : List (List ℕ) → Result Program CreateFault
program_created lines = if is_ended lines then created_by lines (head_of (line_at lines 0)) else no_template
