use Rattle.s38_laws_bounds.proofs.PlaceLaws.{value_placed}
use Rattle.s38_laws_bounds.proofs.laws.values_lie_inside.Goals as goal

pub returns : goal.returns
returns c = record { placed = value_placed }
