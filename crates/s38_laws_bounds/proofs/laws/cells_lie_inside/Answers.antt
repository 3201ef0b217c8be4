use Rattle.s38_laws_bounds.proofs.CellLaws.{cells_placed}
use Rattle.s38_laws_bounds.proofs.laws.cells_lie_inside.Goals as goal

pub returns : goal.returns
returns c = record { placed = cells_placed }
