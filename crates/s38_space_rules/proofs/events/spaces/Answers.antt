use Rattle.std.proofs.Common.{refl}
use Rattle.s38_rules.specs.families.Spaces.{spaces_row}
use Rattle.s38_space_rules.proofs.events.spaces.Goals as goal

pub returns-in-Crts : goal.returns-in-Crts
unfolding spaces_row
returns-in-Crts c = rw c.in-Crts.is (c.made.ensures _ _ _ _ refl refl)
