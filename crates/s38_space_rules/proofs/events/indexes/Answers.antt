use Rattle.std.proofs.Common.{refl}
use Rattle.s38_rules.specs.families.Indexes.{indexes_row}
use Rattle.s38_space_rules.proofs.events.indexes.Goals as goal

pub returns-in-Crtinx : goal.returns-in-Crtinx
unfolding indexes_row
returns-in-Crtinx c = rw c.in-Crtinx.is (c.made.ensures _ _ _ _ refl refl)
