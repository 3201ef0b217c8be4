-- How a deck is read, line by line: the deck, or the first bad line and its least code.
use Rattle.std.specs.Prelude.{◌≡◌, ℕ, ◌+◌, min, Bool, true, false, not, List, [], ◌∷◌, ◌++◌, length, Option, Some, None, Result, Ok, Err, nat_lt, nat_le, ◌==◌, if◌then◌else◌}
use Rattle.std.specs.List.{slice_split}
use Rattle.s38_code.specs.declared.deck.Deck.{Deck}
use Rattle.s38_code.specs.declared.deck.Job.{Job as DeckJob}
use Rattle.s38_template.specs.declared.fault.DeckFault.{DeckFault}
use Rattle.s38_template.specs.declared.fault.DeckFault.TheVariants.{Bad, NoMemory}
use Rattle.s38_template.specs.declared.place.Place.{Place}
use Rattle.s38_template.specs.declared.place.Place.TheVariants.{Between, Declaring, Acting, Begun, Staged}
use Rattle.s38_template.specs.declared.said.JobSaid.{JobSaid}
use Rattle.s38_template.specs.declared.said.Line.{Line}
use Rattle.s38_template.specs.declared.said.Line.TheVariants.{Program, Declare, Label, Act, End, Stage, Job}
use Rattle.s38_template.specs.Grammar.{has, is_budget, is_kept, line_is_plain}
use Rattle.s38_template.specs.Lines.{line_of}

-- ---- what was read so far

pub record ReadingState : Type 0 where
  pub place : Place
  pub templates : List (List (List ℕ))
  -- the lines of the template that has begun, its labels, and how many declarations and instructions it has
  pub draft : List (List ℕ)
  pub labels : List (List ℕ)
  pub declared : ℕ
  pub acts : ℕ
  pub names : List (List ℕ)
  pub jobs : List DeckJob
  pub job_names : List (List ℕ)
  pub stage : ℕ

unfoldable pub start : ReadingState
start = record { place = Between; templates = []; draft = []; labels = []; declared = 0; acts = 0; names = []; jobs = []; job_names = []; stage = 0 }

-- ---- the tests of a line, each with the code of a line that fails

abbrev pub may_come : Place → Line → Bool
may_come Between (Program name) = true
may_come Between Stage = true
may_come Declaring (Declare in_range) = true
may_come Declaring (Label name) = true
may_come Declaring Act = true
may_come Declaring End = true
may_come Acting (Label name) = true
may_come Acting Act = true
may_come Acting End = true
may_come Begun (Job said) = true
may_come Staged (Job said) = true
may_come Staged Stage = true
may_come _ _ = false

-- the name was not there before
abbrev pub name_is_new : ReadingState → Line → Bool
name_is_new s (Program name) = not (has s.names name)
name_is_new s (Label name) = not (has s.labels name)
name_is_new s (Job said) = not (has s.job_names said.name)
name_is_new s _ = true

abbrev pub line_is_in_range : Line → Bool
line_is_in_range (Declare in_range) = in_range
line_is_in_range (Job said) = is_budget said.budget
line_is_in_range _ = true

abbrev pub is_small : ℕ → Bool
is_small size = nat_le size 4194304

-- no limit is passed by one more
abbrev pub has_room : ReadingState → Line → Bool
has_room s (Program name) = nat_lt (length s.templates) 1024
has_room s (Declare in_range) = nat_lt s.declared 1024
has_room s Act = nat_lt s.acts 16384
has_room s (Job said) = nat_lt (length s.jobs) 256
has_room s _ = true

abbrev pub has_template : ReadingState → Line → Bool
has_template s (Job said) = has s.names said.template
has_template s _ = true

abbrev pub first_code : List (Bool × ℕ) → Option ℕ
first_code [] = None
first_code (test ∷ tests) = if test.0 then first_code tests else Some test.1

-- a line that says something, and the bytes of the deck up to its end
abbrev pub tests : ReadingState → ℕ → Line → List (Bool × ℕ)
tests s size line =
    (may_come s.place line, 2) ∷ (name_is_new s line, 3) ∷ (line_is_in_range line, 4) ∷ (is_small size, 6) ∷ (has_room s line, 7) ∷ (has_template s line, 8) ∷ []

abbrev pub said_code : ReadingState → ℕ → Option Line → Option ℕ
said_code s size None = Some 2
said_code s size (Some line) = first_code (tests s size line)

-- the least code of a line that is bad
unfoldable pub bad_line_code : ReadingState → ℕ → List ℕ → Option ℕ
bad_line_code s size text =
    if line_is_plain text
    then (if is_kept text then said_code s size (line_of text) else (if is_small size then None else Some 6))
    else Some 1

-- ---- what a good line does

abbrev pub job_of : ℕ → JobSaid → DeckJob
job_of stage said = record { name = said.name; user = said.user; template = said.template; budget = said.budget; contexts = said.contexts; stage = stage }

-- no deck that is read comes to the largest number of a stage
abbrev pub taken : ReadingState → List ℕ → Line → ReadingState
taken s text (Program name) = record s { place = Declaring; draft = text ∷ []; labels = []; declared = 0; acts = 0; names = s.names ++ name ∷ [] }
taken s text (Declare in_range) = record s { draft = s.draft ++ text ∷ []; declared = s.declared + 1 }
taken s text (Label name) = record s { place = Acting; draft = s.draft ++ text ∷ []; labels = s.labels ++ name ∷ [] }
taken s text Act = record s { place = Acting; draft = s.draft ++ text ∷ []; acts = s.acts + 1 }
taken s text End = record s { place = Between; templates = s.templates ++ (s.draft ++ text ∷ []) ∷ []; draft = [] }
taken s text Stage = record s { place = Begun; stage = min (s.stage + 1) 65535 }
taken s text (Job said) = record s { place = Staged; jobs = s.jobs ++ job_of s.stage said ∷ []; job_names = s.job_names ++ said.name ∷ [] }

abbrev pub taken_if : ReadingState → List ℕ → Option Line → ReadingState
taken_if s text None = s
taken_if s text (Some line) = taken s text line

unfoldable pub after_line : ReadingState → List ℕ → ReadingState
after_line s text = if is_kept text then taken_if s text (line_of text) else s

-- ---- all lines, numbered from 1

abbrev pub may_end : Place → Bool
may_end Between = true
may_end Staged = true
may_end _ = false

unfoldable pub deck_at_end : ReadingState → ℕ → Result Deck DeckFault
deck_at_end s number = if may_end s.place then Ok (record { templates = s.templates; jobs = s.jobs }) else Err (Bad number 5)

abbrev pub is_feed : ℕ → Bool
is_feed c = c == 10

-- what comes after the last line feed
unfoldable pub rest_at : ReadingState → ℕ → List ℕ → Result Deck DeckFault
rest_at s number [] = deck_at_end s number
rest_at s number (c ∷ cs) = Err (Bad number 1)

abbrev pub bad_or : ℕ → Option ℕ → Result Deck DeckFault → Result Deck DeckFault
bad_or number None more = more
bad_or number (Some code) more = Err (Bad number code)

-- the parts of a text between line feeds, where so many bytes and lines come before them
unfoldable pub read_on : ReadingState → ℕ → ℕ → List (List ℕ) → Result Deck DeckFault
read_on s size number [] = deck_at_end s number
read_on s size number (line ∷ []) = rest_at s number line
read_on s size number (line ∷ next ∷ parts) =
    bad_or number (bad_line_code s (size + length line + 1) line) (read_on (after_line s line) (size + length line + 1) (number + 1) (next ∷ parts))

unfoldable pub read_of : List ℕ → Result Deck DeckFault
read_of text = read_on start 0 1 (slice_split is_feed text)

-- a result is this answer, unless memory is refused
abbrev pub Answers : Result Deck DeckFault → Result Deck DeckFault → Type 0
Answers (Ok deck) answer = answer ≡ Ok deck
Answers (Err (Bad line code)) answer = answer ≡ Err (Bad line code)
Answers (Err NoMemory) answer = Unit {0}
