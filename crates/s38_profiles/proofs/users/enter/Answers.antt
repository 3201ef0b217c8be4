use Rattle.s38_profiles.proofs.MapLaws.{user_set}
use Rattle.s38_profiles.proofs.users.enter.Goals as goal

pub returns-in-Ok-clause-others : goal.returns-in-Ok-clause-others
returns-in-Ok-clause-others c = user_set c.args.users.now c.insert.new.self c.args.user _ _ c.in-Ok.ensures.updates.0 (cc)
