use Rattle.std.proofs.Common.{None, subst}
use Rattle.s38_profiles.specs.ProfileMaps.{ProfileMaps}
use Rattle.s38_profiles.specs.Users.{SetsUser}
use Rattle.s38_profiles.proofs.profiles.Profiles.leave.Goals as goal

pub returns-clause-others : goal.returns-clause-others
returns-clause-others c =
    subst (λ (m : ProfileMaps). SetsUser m.users c.args.user.0 None c.leave.new.users.entries) c.self.view_is c.leave.ensures.others
