-- As many things must persist as the code says.
use Rattle.std.proofs.Common.{◌≡◌, List, [], ◌∷◌, ap, length, refl, suc}
use Rattle.s38_space_map.specs.declared.forcing.Forcing.{Forcing}
use Rattle.s38_space_map.specs.Forcings.{all_forced}

pub as_many : (all : List Forcing) → length (all_forced all) ≡ length all
as_many [] = refl
as_many (one ∷ more) = ap suc (as_many more)
