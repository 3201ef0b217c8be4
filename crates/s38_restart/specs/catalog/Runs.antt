-- What is met on the way through the parts of a store.
use Rattle.std.specs.Prelude.{ℕ, List, [], ◌∷◌, if◌then◌else◌}
use Rattle.s38_base.specs.declared.page.Change.{Change}
use Rattle.s38_image.specs.Faults.{Group}
use Rattle.s38_restart.specs.catalog.Groups.{is_part_of}

abbrev pub number_of : Group → ℕ
number_of g = g.number

-- the parts of a number that lead a list
abbrev pub run : ℕ → List Change → List Change
run n [] = []
run n (c ∷ parts) = if is_part_of n c then c ∷ run n parts else []
