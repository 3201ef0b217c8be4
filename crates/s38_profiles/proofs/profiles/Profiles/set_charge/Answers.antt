use Rattle.std.proofs.Common.{Some, subst}
use Rattle.s38_profiles.specs.ProfileMaps.{ProfileMaps}
use Rattle.s38_profiles.specs.Users.{SetsUser, charged, user_at}
use Rattle.s38_profiles.proofs.profiles.Profiles.set_charge.Goals as goal

pub returns-clause-others : goal.returns-clause-others
returns-clause-others c =
    let user = c.args.user.0 in
    subst (λ (m : ProfileMaps). SetsUser m.users user (Some (charged c.args.pages (user_at m.users user))) c.set_charge.new.users.entries) c.self.view_is c.set_charge.ensures.others
