-- What the lines of a deck say from a state on, and what holds of a state that is reached.
use Rattle.std.proofs.Common.{◌≡◌, ℕ, ◌+◌, ◌<◌, ◌≤◌, true, List, [], ◌∷◌, ◌++◌, length}
use Rattle.std.specs.List.{AllByRecursion, filter, flat_map, list_all}
use Rattle.s38_code.specs.declared.deck.Deck.{Deck}
use Rattle.s38_code.specs.declared.deck.Job.{Job}
use Rattle.s38_template.specs.declared.place.Place.{Place}
use Rattle.s38_template.specs.declared.place.Place.TheVariants.{Between, Declaring, Acting, Begun, Staged}
use Rattle.s38_template.specs.Grammar.{FitJobs, IsTemplate, SayEach, Says, are_new, is_act_line, is_action, is_declaration, is_step, labels_in, stage_lines, template_names}
use Rattle.s38_template.specs.Lines.{end_line}
use Rattle.s38_template.specs.Reading.{ReadingState}

-- what was read of a deck, but for the template that has begun
pub record Core : Type 0 where
  pub templates : List (List (List ℕ))
  pub names : List (List ℕ)
  pub jobs : List Job
  pub job_names : List (List ℕ)
  pub stage : ℕ

abbrev pub core_of : ReadingState → Core
core_of s = record { templates = s.templates; names = s.names; jobs = s.jobs; job_names = s.job_names; stage = s.stage }

abbrev pub with_template : Core → List (List ℕ) → Core
with_template c lines = record c { templates = c.templates ++ lines ∷ [] }

pub record ToldJobs (c : Core) (lines : List (List ℕ)) (deck : Deck) : Type 0 where
  pub texts : List (List ℕ)
  pub told : List Job
  pub said : lines ≡ stage_lines c.stage texts told
  pub says : SayEach texts told
  pub jobs_are : deck.jobs ≡ c.jobs ++ told
  pub templates_are : deck.templates ≡ c.templates
  pub fit : FitJobs c.names c.job_names c.stage told
  pub few : length deck.jobs ≤ 256

pub record ToldAll (c : Core) (lines : List (List ℕ)) (deck : Deck) : Type 0 where
  pub ts : List (List (List ℕ))
  pub texts : List (List ℕ)
  pub told : List Job
  pub said : lines ≡ flat_map (λ l. l) ts ++ stage_lines c.stage texts told
  pub says : SayEach texts told
  pub jobs_are : deck.jobs ≡ c.jobs ++ told
  pub templates_are : deck.templates ≡ c.templates ++ ts
  pub each : AllByRecursion IsTemplate ts
  pub apart : are_new c.names (template_names ts) ≡ true
  pub fit : FitJobs (c.names ++ template_names ts) c.job_names c.stage told
  pub few : length deck.jobs ≤ 256
  pub few_templates : length deck.templates ≤ 1024

-- a job, and then these
pub record ToldJob (c : Core) (lines : List (List ℕ)) (deck : Deck) : Type 0 where
  pub text : List ℕ
  pub first : Job
  pub texts : List (List ℕ)
  pub told : List Job
  pub staged : first.stage ≡ c.stage
  pub said : lines ≡ text ∷ stage_lines first.stage texts told
  pub says : Says text first × SayEach texts told
  pub jobs_are : deck.jobs ≡ c.jobs ++ first ∷ told
  pub templates_are : deck.templates ≡ c.templates
  pub fit : FitJobs c.names c.job_names c.stage (first ∷ told)
  pub few : length deck.jobs ≤ 256

pub record ToldSteps (s : ReadingState) (lines : List (List ℕ)) (deck : Deck) : Type 0 where
  pub steps : List (List ℕ)
  pub rest : List (List ℕ)
  pub said : lines ≡ steps ++ end_line ∷ rest
  pub stepped : list_all is_step steps ≡ true
  pub few_instructions : s.acts + length (filter is_action steps) ≤ 16384
  pub apart : are_new s.labels (flat_map labels_in steps) ≡ true
  pub more : ToldAll (with_template (core_of s) (s.draft ++ (steps ++ end_line ∷ []))) rest deck

pub record ToldTemplate (s : ReadingState) (lines : List (List ℕ)) (deck : Deck) : Type 0 where
  pub declarations : List (List ℕ)
  pub steps : List (List ℕ)
  pub rest : List (List ℕ)
  pub said : lines ≡ declarations ++ (steps ++ end_line ∷ rest)
  pub declared : list_all is_declaration declarations ≡ true
  pub few_declarations : s.declared + length declarations ≤ 1024
  pub stepped : list_all is_step steps ≡ true
  pub few_instructions : s.acts + length (filter is_action steps) ≤ 16384
  pub apart : are_new s.labels (flat_map labels_in steps) ≡ true
  pub more : ToldAll (with_template (core_of s) (s.draft ++ (declarations ++ (steps ++ end_line ∷ [])))) rest deck

abbrev pub Told : Place → ReadingState → List (List ℕ) → Deck → Type 0
Told Between s lines deck = ToldAll (core_of s) lines deck
Told Declaring s lines deck = ToldTemplate s lines deck
Told Acting s lines deck = ToldSteps s lines deck
Told Begun s lines deck = ToldJob (core_of s) lines deck
Told Staged s lines deck = ToldJobs (core_of s) lines deck

-- what holds of a state that was come to
abbrev pub Later : Place → ℕ → Type 0
Later Begun n = 0 < n
Later Staged n = 0 < n
Later _ n = Unit {0}

abbrev pub open_templates : Place → ℕ
open_templates Declaring = 1
open_templates Acting = 1
open_templates _ = 0

abbrev pub open_stages : Place → ℕ
open_stages Begun = 1
open_stages _ = 0

pub record Good (place : Place) (s : ReadingState) : Type 0 where
  pub later : Later place s.stage
  pub few_stages : s.stage ≤ length s.jobs + open_stages place
  pub few_templates : length s.templates + open_templates place ≤ 1024
  pub few : length s.jobs ≤ 256
  pub few_declarations : s.declared ≤ 1024
  pub few_instructions : s.acts ≤ 16384
