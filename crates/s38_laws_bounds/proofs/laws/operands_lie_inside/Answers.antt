use Rattle.s38_laws_bounds.proofs.AddressLaws.{permitted_inside}
use Rattle.s38_laws_bounds.proofs.laws.operands_lie_inside.Goals as goal

pub returns : goal.returns
returns c = record { inside = permitted_inside }
