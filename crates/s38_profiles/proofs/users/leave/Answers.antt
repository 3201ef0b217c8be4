use Rattle.std.proofs.Common.{None, refl}
use Rattle.s38_profiles.proofs.MapLaws.{user_set}
use Rattle.s38_profiles.proofs.users.leave.Goals as goal

pub returns-clause-others : goal.returns-clause-others
returns-clause-others c = user_set c.args.users.now c.remove.new.self c.args.user None None c.remove.ensures.updates.0 refl
