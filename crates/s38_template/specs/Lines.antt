-- What a line says.
use Rattle.std.specs.Prelude.{ℕ, Bool, true, false, ◌&&◌, List, [], Option, Some, None, codes, ◌==◌, if◌then◌else◌}
use Rattle.std.specs.List.{list_all, slice_split}
use Rattle.std.specs.Option.{option_and_then, option_map, option_map_or}
use Rattle.s38_base.specs.NameText.{is_name}
use Rattle.s38_words.specs.DeclarationLine.{count_spelled, declaration_of, is_in_range}
use Rattle.s38_words.specs.Form.{has_form}
use Rattle.s38_words.specs.Name.{declared_name, object_name}
use Rattle.s38_words.specs.ProgramLine.{ActLine, act_line_of, head_of, label_spelled, rounds_right}
use Rattle.s38_words.specs.Text.{after_byte, before, is_word, rest_after}
use Rattle.s38_words.specs.declared.declarations.DeclarationLine.{DeclarationLine}
use Rattle.s38_words.specs.declared.program_lines.Head.{Head}
use Rattle.s38_template.specs.Cut.{cut}
use Rattle.s38_template.specs.declared.said.JobSaid.{JobSaid}
use Rattle.s38_template.specs.declared.said.Line.{Line}
use Rattle.s38_template.specs.declared.said.Line.TheVariants.{Program, Declare, Label, Act, End, Stage, Job}

infixl 10 ◌>>=◌
abbrev pub ◌>>=◌ : {A B : Type 0} → Option A → (A → Option B) → Option B
o >>= f = option_and_then f o

-- ---- instructions

abbrev pub is_comma : ℕ → Bool
is_comma c = c == 44

-- words parted by one comma, each of some operand's form
unfoldable pub are_operands : List ℕ → Bool
are_operands text = list_all has_form (slice_split is_comma text)

-- the words after a mnemonic, if there are any
abbrev pub are_formed : Option (List ℕ) → Bool
are_formed None = true
are_formed (Some text) = are_operands text

abbrev pub is_act : ActLine → Bool
is_act act = rounds_right act.round act.op && are_formed act.operands

unfoldable pub is_instruction : List ℕ → Bool
is_instruction line = option_map_or is_act (act_line_of line) false

-- ---- JOB name USER name RUN name [BUDGET n] [CONTEXTS name name*]

abbrev pub job_word : List ℕ
job_word = codes "JOB "

abbrev pub is_blank : ℕ → Bool
is_blank c = c == 32

-- all of these are names
abbrev pub names_in : List ℕ → Option (List (List ℕ))
names_in text = if list_all is_name (slice_split is_blank text) then Some (slice_split is_blank text) else None

unfoldable pub contexts_spelled : List ℕ → Option (List (List ℕ))
contexts_spelled text = do
  names ← rest_after (codes "CONTEXTS ") text
  names_in names

-- a budget and contexts, by what a cut at the first blank gives
abbrev pub budget_from : List ℕ → Option (List ℕ × List ℕ) → Option (ℕ × List (List ℕ))
budget_from text None = option_map (λ budget. (budget, [])) (count_spelled text)
budget_from text (Some parts) = do
  budget ← count_spelled parts.0
  contexts ← contexts_spelled parts.1
  Some (budget, contexts)

unfoldable pub budget_in : List ℕ → Option (ℕ × List (List ℕ))
budget_in text = budget_from text (cut 32 text)

-- by what comes after BUDGET; a job whose line does not say it has 1,000,000
abbrev pub terms_from : List ℕ → Option (List ℕ) → Option (ℕ × List (List ℕ))
terms_from text None = option_map (λ contexts. (1000000, contexts)) (contexts_spelled text)
terms_from text (Some rest) = budget_in rest

unfoldable pub terms_in : List ℕ → Option (ℕ × List (List ℕ))
terms_in text = terms_from text (rest_after (codes "BUDGET ") text)

-- the template, the budget and the contexts
abbrev pub run_from : List ℕ → Option (List ℕ × List ℕ) → Option (List ℕ × ℕ × List (List ℕ))
run_from text None = option_map (λ name. (name, 1000000, [])) (declared_name text)
run_from text (Some parts) = do
  name ← declared_name parts.0
  terms ← terms_in parts.1
  Some (name, terms.0, terms.1)

unfoldable pub run_in : List ℕ → Option (List ℕ × ℕ × List (List ℕ))
run_in text = run_from text (cut 32 text)

-- the text after a word and before a blank, and the text after the blank
unfoldable pub worded : List ℕ → List ℕ → Option (List ℕ × List ℕ)
worded word text = do
  after_byte ← rest_after word text
  cut 32 after_byte

-- the texts after JOB and USER, and the text after RUN
unfoldable pub head_in : List ℕ → Option (List ℕ × List ℕ × List ℕ)
head_in line = do
  job ← worded job_word line
  user ← worded (codes "USER ") job.1
  run ← rest_after (codes "RUN ") user.1
  Some (job.0, user.0, run)

unfoldable pub job_in : List ℕ → Option JobSaid
job_in line = do
  head ← head_in line
  name ← declared_name head.0
  user ← object_name head.1
  run ← run_in head.2
  Some (record { name = name; user = user; template = run.0; budget = run.1; contexts = run.2 })

-- ---- lines, by their first word

abbrev pub end_line : List ℕ
end_line = codes "END"

abbrev pub stage_line : List ℕ
stage_line = codes "STAGE"

abbrev pub program_line : List ℕ → Line
program_line name = Program name

abbrev pub line_of_head : Head → Line
line_of_head head = program_line head.name

abbrev pub declare : DeclarationLine → Line
declare declaration = Declare (is_in_range declaration.declares)

abbrev pub label : List ℕ → Line
label name = Label name

abbrev pub job : JobSaid → Line
job said = Job said

-- a line without operands of its own, or an instruction
abbrev pub rest_said : List ℕ → Option Line
rest_said line =
    if is_word end_line line then Some End
    else (if is_word stage_line line then Some Stage
    else (if is_instruction line then Some Act else None))

unfoldable pub line_said_by : List ℕ → List ℕ → Option Line
line_said_by word line =
    if is_word (codes "PROGRAM") word then option_map line_of_head (head_of line)
    else (if is_word (codes "DCL") word then option_map declare (declaration_of line)
    else (if is_word (codes "LABEL") word then option_map label (label_spelled line)
    else rest_said line))

-- what a line says; None where it has no form
unfoldable pub line_of : List ℕ → Option Line
line_of line =
    if is_word (codes "JOB") (before 32 line) then option_map job (job_in line) else line_said_by (before 32 line) line
