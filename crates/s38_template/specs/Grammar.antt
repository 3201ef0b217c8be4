-- The grammar of a deck: which text spells which deck.
use Rattle.std.specs.Prelude.{◌≡◌, ◌⊎◌, ℕ, ◌+◌, ◌≤◌, Bool, true, false, not, ◌&&◌, ◌||◌, IsTrue, List, [], ◌∷◌, ◌++◌, map, length, drop, codes, decimal, nat_lt, nat_le, ◌==◌, Option, Some, if◌then◌else◌}
use Rattle.std.specs.List.{AllByRecursion, filter, flat_map, list_all, list_any}
use Rattle.std.specs.Str.{bytes_eq}
use Rattle.s38_base.specs.NameText.{is_name}
use Rattle.s38_words.specs.Text.{before}
use Rattle.s38_code.specs.declared.deck.Deck.{Deck}
use Rattle.s38_code.specs.declared.deck.Job.{Job}
use Rattle.s38_template.specs.Lines.{end_line, job_word, line_of, stage_line}
use Rattle.s38_template.specs.declared.said.Line.{Line}
use Rattle.s38_template.specs.declared.said.Line.TheVariants.{Program, Declare, Label, Act}
use Rattle.s38_words.specs.Name.{is_declared_name}
use Rattle.s38_words.specs.ProgramLine.{program_word}

-- ---- lines

-- a line and its line feed
abbrev pub with_feed : List ℕ → List ℕ
with_feed line = line ++ 10 ∷ []

-- blank to tilde
abbrev pub is_plain_byte : ℕ → Bool
is_plain_byte c = nat_le 32 c && nat_le c 126

-- any other byte
abbrev pub is_odd : ℕ → Bool
is_odd c = not (is_plain_byte c)

-- at most 255 bytes, all of them plain
abbrev pub line_is_plain : List ℕ → Bool
line_is_plain line = nat_le (length line) 255 && list_all is_plain_byte line

-- a line that says something: it is not empty and no comment
abbrev pub is_kept : List ℕ → Bool
is_kept [] = false
is_kept (c ∷ cs) = not (c == 42)

-- ---- names

abbrev pub has : List (List ℕ) → List ℕ → Bool
has names name = list_any (λ n. bytes_eq n name) names

-- none of the names is among those before it, nor among those that were seen
abbrev pub are_new : List (List ℕ) → List (List ℕ) → Bool
are_new seen [] = true
are_new seen (name ∷ names) = not (has seen name) && are_new (seen ++ name ∷ []) names

-- ---- templates

-- a name is declared, and the numbers are in range
abbrev pub declares : Option Line → Bool
declares (Some (Declare in_range)) = in_range
declares _ = false

abbrev pub is_declaration : List ℕ → Bool
is_declaration line = declares (line_of line)

abbrev pub is_act_line : Option Line → Bool
is_act_line (Some Act) = true
is_act_line _ = false

abbrev pub is_action : List ℕ → Bool
is_action line = is_act_line (line_of line)

-- the name, where a label is said
abbrev pub labels_said : Option Line → List (List ℕ)
labels_said (Some (Label name)) = name ∷ []
labels_said _ = []

abbrev pub labels_in : List ℕ → List (List ℕ)
labels_in line = labels_said (line_of line)

abbrev pub goes_on : Option Line → Bool
goes_on (Some (Label name)) = true
goes_on (Some Act) = true
goes_on _ = false

-- a label or an instruction
abbrev pub is_step : List ℕ → Bool
is_step line = goes_on (line_of line)

-- PROGRAM and a name, declarations, labels and instructions, END
pub record IsTemplate (lines : List (List ℕ)) : Type 0 where
  pub head : List ℕ
  pub declarations : List (List ℕ)
  pub steps : List (List ℕ)
  pub name : List ℕ
  pub lines_are : lines ≡ head ∷ (declarations ++ (steps ++ end_line ∷ []))
  pub named : line_of head ≡ Some (Program name)
  pub declared : IsTrue (list_all is_declaration declarations)
  pub few_declarations : length declarations ≤ 1024
  pub stepped : IsTrue (list_all is_step steps)
  pub few_instructions : length (filter is_action steps) ≤ 16384
  pub apart : IsTrue (are_new [] (flat_map labels_in steps))

-- the name in the head of a template
abbrev pub name_of : List (List ℕ) → List ℕ
name_of [] = []
name_of (head ∷ lines) = before 32 (drop (length program_word) head)

abbrev pub template_names : List (List (List ℕ)) → List (List ℕ)
template_names templates = map name_of templates

-- ---- jobs

abbrev pub with_blank : List ℕ → List ℕ
with_blank name = 32 ∷ name

abbrev pub contexts_part : List (List ℕ) → List ℕ
contexts_part [] = []
contexts_part (name ∷ names) = codes " CONTEXTS" ++ flat_map with_blank (name ∷ names)

abbrev pub budget_part : ℕ → List ℕ
budget_part budget = codes " BUDGET " ++ decimal budget

-- the line of a job in which the budget is written so
abbrev pub job_text : List ℕ → Job → List ℕ
job_text budget job = job_word ++ (job.name ++ (codes " USER " ++ (job.user ++ (codes " RUN " ++ (job.template ++ (budget ++ contexts_part job.contexts))))))

-- the line says the job; the budget may be left out where it is 1,000,000
abbrev pub Says : List ℕ → Job → Type 0
Says line job = (line ≡ job_text (budget_part job.budget) job) ⊎ ((job.budget ≡ 1000000) × (line ≡ job_text [] job))

abbrev pub SayEach : List (List ℕ) → List Job → Type 0
SayEach [] [] = Unit {0}
SayEach [] (job ∷ jobs) = ⊥
SayEach (line ∷ lines) [] = ⊥
SayEach (line ∷ lines) (job ∷ jobs) = Says line job × SayEach lines jobs

-- a budget is 1 to 10,000,000
abbrev pub is_budget : ℕ → Bool
is_budget budget = nat_le 1 budget && nat_le budget 10000000

-- its names are names, and its budget is one
abbrev pub is_job : Job → Bool
is_job job = is_declared_name job.name && (is_name job.user && (is_declared_name job.template && (list_all is_name job.contexts && is_budget job.budget)))

-- the lines of the jobs, STAGE before the first of each stage; the number of the stage before them is given
abbrev pub stage_lines : ℕ → List (List ℕ) → List Job → List (List ℕ)
stage_lines before [] jobs = []
stage_lines before (line ∷ lines) [] = []
stage_lines before (line ∷ lines) (job ∷ jobs) = (if job.stage == before then [] else stage_line ∷ []) ++ line ∷ stage_lines job.stage lines jobs

-- each job is of the stage of the job before it or of the next; stages count from 1
abbrev pub are_numbered : ℕ → List Job → Bool
are_numbered before [] = true
are_numbered before (job ∷ jobs) = ((nat_lt 0 before && (job.stage == before)) || (job.stage == before + 1)) && are_numbered job.stage jobs

abbrev pub name_of_job : Job → List ℕ
name_of_job job = job.name

-- jobs that come after a stage of this number and jobs of these names, in a deck with templates of these names
pub record FitJobs (names seen : List (List ℕ)) (before : ℕ) (jobs : List Job) : Type 0 where
  pub each : IsTrue (list_all is_job jobs)
  pub numbered : IsTrue (are_numbered before jobs)
  pub apart : IsTrue (are_new seen (map name_of_job jobs))
  pub found : IsTrue (list_all (λ job. has names job.template) jobs)

-- ---- decks

-- the lines of templates, and then the lines of jobs in their stages
abbrev pub deck_lines : Deck → List (List ℕ) → List (List ℕ)
deck_lines deck lines = flat_map (λ lines. lines) deck.templates ++ stage_lines 0 lines deck.jobs

-- The text spells the deck.
pub record Spells (text : List ℕ) (deck : Deck) : Type 0 where
  pub lines : List (List ℕ)
  pub job_lines : List (List ℕ)
  pub ended : text ≡ flat_map with_feed lines
  pub small : length text ≤ 4194304
  pub plain : IsTrue (list_all line_is_plain lines)
  pub said : filter is_kept lines ≡ deck_lines deck job_lines
  pub says : SayEach job_lines deck.jobs
  pub templates : AllByRecursion IsTemplate deck.templates
  pub few_templates : length deck.templates ≤ 1024
  pub apart : IsTrue (are_new [] (template_names deck.templates))
  pub jobs : FitJobs (template_names deck.templates) [] 0 deck.jobs
  pub few_jobs : length deck.jobs ≤ 256
