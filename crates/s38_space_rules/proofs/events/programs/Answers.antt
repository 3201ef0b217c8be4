use Rattle.std.proofs.Common.{refl}
use Rattle.s38_rules.specs.families.Programs.{programs_row}
use Rattle.s38_space_rules.proofs.events.programs.Goals as goal

pub returns-in-Crtpg : goal.returns-in-Crtpg
unfolding programs_row
returns-in-Crtpg c = rw c.in-Crtpg.is (c.made_program.ensures _ _ _ refl)
