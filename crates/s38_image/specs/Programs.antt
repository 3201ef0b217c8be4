-- The body of a program: the text of its template.
use Rattle.std.specs.Prelude.{◌≡◌, ℕ, List, [], ◌∷◌, Option, Some, None, Result, Ok, Err, if◌then◌else◌}
use Rattle.s38_code.specs.declared.deck.Deck.{Deck}
use Rattle.s38_code.specs.declared.deck.Job.{Job}
use Rattle.s38_code.specs.declared.program.CreateFault.{CreateFault}
use Rattle.s38_code.specs.declared.program.Program.{Program}
use Rattle.s38_codec.specs.Codec.{◌>>=◌}
use Rattle.s38_codec.specs.Formats.{Spelling}
use Rattle.s38_create.specs.Created.{program_created}
use Rattle.s38_image.specs.Pages.{same_list}
use Rattle.s38_template.specs.Printing.{printed_lines}
use Rattle.s38_template.specs.Reading.{read_of}
use Rattle.s38_template.specs.declared.fault.DeckFault.{DeckFault}

-- the only template, where there are no jobs
abbrev pub only_template : List (List (List ℕ)) → List Job → Option (List (List ℕ))
only_template (template ∷ []) [] = Some template
only_template _ _ = None

-- the template of a text that is a deck of one template and no jobs
abbrev pub template_spelled_in : Result Deck DeckFault → Option (List (List ℕ))
template_spelled_in (Err fault) = None
template_spelled_in (Ok deck) = only_template deck.templates deck.jobs

abbrev pub is_printed : List ℕ → List (List ℕ) → Option (List (List ℕ))
is_printed text template = if same_list (printed_lines template) text then Some template else None

abbrev pub program_of : Result Program CreateFault → Option Program
program_of (Err fault) = None
program_of (Ok program_form) = Some program_form

-- a template as it is printed, of which a program can be created
abbrev pub program_form : Spelling Program
program_form = record {
  print = λ p. printed_lines p.template;
  read = λ text. template_spelled_in (read_of text) >>= λ template. is_printed text template >>= λ template. program_of (program_created template);
}

-- the program is the one that is created of its template, and the template is read again
pub record IsCreated (p : Program) : Type 0 where
  pub template : template_spelled_in (read_of (printed_lines p.template)) ≡ Some p.template
  pub created : program_created p.template ≡ Ok p
