-- Creation refuses at a place, and never for want of memory.
use Rattle.std.proofs.Common.{◌≡◌, ℕ, ◌+◌, Bool, true, false, cond, List, [], ◌∷◌, ◌++◌, length, Option, Some, None, Result, Ok, Err}
use Rattle.s38_base.specs.declared.op.Op.{Op}
use Rattle.s38_base.specs.Exceptions as exceptions
use Rattle.s38_words.specs.ProgramLine.{ActLine, act_line_of, head_of}
use Rattle.s38_code.specs.declared.program.CreateFault.{CreateFault}
use Rattle.s38_code.specs.declared.program.CreateFault.TheVariants.{Bad, NoMemory}
use Rattle.s38_code.specs.declared.program.Instruction.{Instruction}
use Rattle.s38_code.specs.declared.program.Program.{Program}
use Rattle.s38_code.specs.declared.program.Row.{Row}
use Rattle.s38_create.specs.Created.{code, created_by, created_inner, declarations, inner, is_ended, line_at, program_created, program_is_small, program_of_parts, program_with_rows}
use Rattle.s38_create.specs.Instruction.{by_act, by_parsed, code_from, instruction_from, instruction_made, parsed_of, result_and_then, unless}
use Rattle.s38_odt.specs.Labels.{is_label}
use Rattle.s38_words.specs.declared.program_lines.Head.{Head}
use Rattle.s38_create.specs.declared.parsed.ParsedOperand.{ParsedOperand}
use Rattle.s38_odt.specs.Table.{and_then, more_rows, row_made, rows_from, rows_of}

-- it is not refused for want of memory
abbrev Decided : {A : Type 0} → Result A CreateFault → Type 0
Decided r = r ≡ Err NoMemory → ⊥

bad-decided : {A : Type 0} (id number : ℕ) → Decided {A = A} (Err (Bad id number))
bad-decided id number h = cc

ok-decided : {A : Type 0} (x : A) → Decided (Ok x)
ok-decided x h = cc

-- ---- declarations

and_then-decided : (r : Result (List Row) CreateFault) (next : List Row → Result (List Row) CreateFault) →
    Decided r → ((rows : List Row) → Decided (next rows)) → Decided (and_then r next)
and_then-decided (Err fault) next first later h = first h
and_then-decided (Ok rows) next first later h = later rows h

more_rows-decided : (rows : List Row) (r : Result Row ℕ) → Decided (more_rows rows r)
more_rows-decided rows (Err cause) h = bad-decided {A = List Row} cause (length rows + 1) h
more_rows-decided rows (Ok row) h = ok-decided (rows ++ row ∷ []) h

rows_from-decided : (code : List (List ℕ)) (rows : List Row) (lines : List (List ℕ)) → Decided (rows_from code rows lines)
rows_from-decided code rows [] h = ok-decided rows h
rows_from-decided code rows (line ∷ lines) h =
    and_then-decided (more_rows rows (row_made code rows line)) (λ more. rows_from code more lines)
    (more_rows-decided rows (row_made code rows line)) (λ more. rows_from-decided code more lines) h

rows_of-decided : (code lines : List (List ℕ)) → Decided (rows_of code lines)
unfolding rows_of
rows_of-decided code lines = rows_from-decided code [] lines

-- ---- instructions

result_and_then-decided : {A B : Type 0} (f : A → Result B CreateFault) (r : Result A CreateFault) → ((x : A) → Decided (f x)) → Decided r → Decided (result_and_then f r)
result_and_then-decided f (Ok x) later first h = later x h
result_and_then-decided f (Err e) later first h = first (let same : e ≡ NoMemory = cc in cc)

unless-decided : (cause : Option ℕ) (number : ℕ) (i : Instruction) → Decided (unless cause number i)
unless-decided None number i h = ok-decided i h
unless-decided (Some id) number i h = bad-decided {A = Instruction} id number h

by_parsed-decided : (rows : List Row) (number : ℕ) (op : Op) (round : Bool) (o : Option (List ParsedOperand)) → Decided (by_parsed rows number op round o)
by_parsed-decided rows number op round None h = bad-decided {A = Instruction} exceptions.operands_invalid number h
by_parsed-decided rows number op round (Some parsed) h = unless-decided _ number (instruction_from op round parsed) h

by_act-decided : (rows : List Row) (code : List (List ℕ)) (number : ℕ) (o : Option ActLine) → Decided (by_act rows code number o)
by_act-decided rows code number None h = bad-decided {A = Instruction} exceptions.operands_invalid number h
by_act-decided rows code number (Some act) h = by_parsed-decided rows number act.op act.round (parsed_of rows code act) h

instruction_of-decided : (rows : List Row) (code : List (List ℕ)) (number : ℕ) (line : List ℕ) → Decided (instruction_made rows code number line)
unfolding instruction_made
instruction_of-decided rows code number line = by_act-decided rows code number (act_line_of line)

if-decided : {A : Type 0} (b : Bool) (r s : Result A CreateFault) → Decided r → Decided s → Decided (cond b r s)
if-decided true r s first second h = first h
if-decided false r s first second h = second h

code_from-decided : (rows : List Row) (code : List (List ℕ)) (made : List Instruction) (lines : List (List ℕ)) → Decided (code_from rows code made lines)
code_from-decided rows code made [] h = ok-decided made h
code_from-decided rows code made (line ∷ lines) h =
    if-decided (is_label line) (code_from rows code made lines)
    (result_and_then (λ i. code_from rows code (made ++ i ∷ []) lines) (instruction_made rows code (length made + 1) line))
    (code_from-decided rows code made lines)
    (result_and_then-decided (λ i. code_from rows code (made ++ i ∷ []) lines) (instruction_made rows code (length made + 1) line)
    (λ i. code_from-decided rows code (made ++ i ∷ []) lines) (instruction_of-decided rows code (length made + 1) line))
    h

-- ---- programs

with_rows-decided : (lines : List (List ℕ)) (head : Head) (code : List (List ℕ)) (rows : List Row) → Decided (program_with_rows lines head code rows)
with_rows-decided lines head code rows =
    result_and_then-decided (λ made. Ok (program_of_parts lines head rows made)) (code_from rows code [] code)
    (λ made. ok-decided (program_of_parts lines head rows made)) (code_from-decided rows code [] code)

created_inner-decided : (lines : List (List ℕ)) (head : Head) (body : List (List ℕ)) → Decided (created_inner lines head body)
created_inner-decided lines head body =
    if-decided (program_is_small body) (result_and_then (program_with_rows lines head (code body)) (rows_of (code body) (declarations body))) (Err (Bad exceptions.operands_invalid 0))
    (result_and_then-decided (program_with_rows lines head (code body)) (rows_of (code body) (declarations body)) (with_rows-decided lines head (code body)) (rows_of-decided (code body) (declarations body)))
    (bad-decided {A = Program} exceptions.operands_invalid 0)

created_by-decided : (lines : List (List ℕ)) (o : Option Head) → Decided (created_by lines o)
created_by-decided lines None h = bad-decided {A = Program} exceptions.operands_invalid 0 h
created_by-decided lines (Some head) h = created_inner-decided lines head (inner lines) h

pub created-decided : (lines : List (List ℕ)) → program_created lines ≡ Err NoMemory → ⊥
unfolding program_created
created-decided lines =
    if-decided (is_ended lines) (created_by lines (head_of (line_at lines 0))) (Err (Bad exceptions.operands_invalid 0))
    (created_by-decided lines (head_of (line_at lines 0))) (bad-decided {A = Program} exceptions.operands_invalid 0)
