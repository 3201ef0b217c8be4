-- Of which templates programs are created that are read again.
use Rattle.std.specs.Prelude.{All, List}
use Rattle.s38_code.specs.declared.made.CheckedTemplate.{CheckedTemplate}
use Rattle.s38_code.specs.declared.made.CreateResult.{CreateResult}
use Rattle.s38_code.specs.declared.made.CreateResult.TheVariants.{Created, Refused}
use Rattle.s38_image.specs.Programs.{IsCreated}

-- the program that was made of a template is, if one was
abbrev pub IsMade : CreateResult → Type 0
IsMade (Created program) = IsCreated program
IsMade (Refused id number) = Unit {0}

-- of each template
abbrev pub AreMade : List CheckedTemplate → Type 0
AreMade templates = All (λ t. IsMade t.made) templates
