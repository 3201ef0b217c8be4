-- The places of the templates of a deck.
use Rattle.std.specs.Prelude.{◌≡◌, ℕ, ◌+◌, Bool, ◌&&◌, List, [], ◌∷◌, Option, Some, None, if◌then◌else◌}
use Rattle.std.specs.List.{slice_get}
use Rattle.std.specs.Option.{option_and_then}
use Rattle.std.specs.Str.{bytes_eq}
use Rattle.s38_base.specs.NameText.{is_name}
use Rattle.s38_code.specs.declared.deck.Deck.{Deck}
use Rattle.s38_code.specs.declared.deck.Job.{Job}
use Rattle.s38_template.specs.Grammar.{name_of, template_names}

-- it is this name
abbrev pub is_called : List ℕ → List ℕ → Bool
is_called text name = is_name text && bytes_eq text name

-- the place of the first of these names, counted on from a number
abbrev pub place_from : ℕ → List (List ℕ) → List ℕ → Option ℕ
place_from at [] name = None
place_from at (first ∷ names) name = if is_called first name then Some at else place_from (at + 1) names name

abbrev pub template_place : List (List ℕ) → List ℕ → Option ℕ
template_place names name = place_from 0 names name

-- a place that was known, or that of one more name
abbrev pub held : Option ℕ → ℕ → List ℕ → List ℕ → Option ℕ
held (Some known) at text name = Some known
held None at text name = if bytes_eq text name then Some at else None

-- the same for a text that may be no name
abbrev pub placed : Option ℕ → ℕ → List ℕ → List ℕ → Option ℕ
placed (Some known) at text name = Some known
placed None at text name = if is_called text name then Some at else None

-- the lines of the template that a job names
abbrev pub template_of : Deck → Job → Option (List (List ℕ))
template_of deck job = option_and_then (slice_get deck.templates) (template_place (template_names deck.templates) job.template)

-- it is there, and has that name
pub record HasTemplate (deck : Deck) (job : Job) : Type 0 where
  pub lines : List (List ℕ)
  pub there : template_of deck job ≡ Some lines
  pub called : name_of lines ≡ job.template
