-- What every state of a run keeps to, so that programs and profiles are read again.
use Rattle.std.specs.Prelude.{All, List, [], ◌∷◌}
use Rattle.s38_code.specs.declared.entry.Entry.{Entry}
use Rattle.s38_laws_images.specs.readable.Forms.{HoldsForm}
use Rattle.s38_laws_images.specs.readable.Templates.{AreMade}
use Rattle.s38_rules.specs.state.State.{State}
use Rattle.s38_rules.specs.step.Step.{step}

-- each program is the one that is created of its template, no profile has other special authorities than there are, and
-- what is made of a template is so too
pub record HasForms (s : State) : Type 0 where
  pub objects : All HoldsForm s.held.objects
  pub templates : AreMade s.templates

-- in each state on the way it is so
abbrev pub AllHaveForms : State → List Entry → Type 0
AllHaveForms s [] = HasForms s
AllHaveForms s (e ∷ es) = HasForms s × AllHaveForms (step s e.process e.event).state es
