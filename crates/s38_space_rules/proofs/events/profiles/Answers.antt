use Rattle.std.proofs.Common.{refl}
use Rattle.s38_rules.specs.families.Profiles.{profiles_row}
use Rattle.s38_space_rules.proofs.events.profiles.Goals as goal

pub returns-in-Crtup : goal.returns-in-Crtup
unfolding profiles_row
returns-in-Crtup c = rw c.in-Crtup.is (c.made.ensures _ _ _ _ refl refl)
