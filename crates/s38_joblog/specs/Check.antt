-- What is printed of templates that were checked: a line for each.
use Rattle.std.specs.Prelude.{ℕ, List, [], ◌∷◌, ◌++◌, codes, decimal}
use Rattle.std.specs.List.{flat_map}
use Rattle.s38_code.specs.declared.made.CheckedTemplate.{CheckedTemplate}
use Rattle.s38_code.specs.declared.made.CreateResult.{CreateResult}
use Rattle.s38_code.specs.declared.made.CreateResult.TheVariants.{Created, Refused}
use Rattle.s38_joblog.specs.Words.{hex_code}

-- OK for a program; else the cause and the number of the first bad place
abbrev pub made_text : CreateResult → List ℕ
made_text (Created program) = codes "OK"
made_text (Refused id number) = hex_code id ++ (codes " " ++ decimal number)

-- the name and what was made
abbrev pub check_line : CheckedTemplate → List ℕ
check_line template = template.name ++ (codes " " ++ (made_text template.made ++ 10 ∷ []))

unfoldable pub check_text : List CheckedTemplate → List ℕ
check_text templates = flat_map check_line templates
