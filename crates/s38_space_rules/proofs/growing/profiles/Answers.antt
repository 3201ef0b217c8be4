use Rattle.s38_base.specs.declared.id.Kind.TheVariants as kinds
use Rattle.s38_rules.specs.families.Profiles.{profiles_row}
use Rattle.s38_space_rules.proofs.growing.profiles.Goals as goal

pub returns-in-Crtup-clause-parts : goal.returns-in-Crtup-clause-parts
unfolding profiles_row
returns-in-Crtup-clause-parts c = rw c.in-Crtup.is (c.user_growth.ensures.parts kinds.Profile)
