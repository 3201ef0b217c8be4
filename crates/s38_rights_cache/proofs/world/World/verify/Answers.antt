use Rattle.std.proofs.Common.{sym}
use Rattle.s38_rights_cache.proofs.PlaceLaws.{checked_anew}
use Rattle.s38_rights_cache.proofs.world.World.verify.Goals as goal

pub returns-in-None-clause-checked : goal.returns-in-None-clause-checked
returns-in-None-clause-checked g c =
    checked_anew _ _ _ _ _ c.requires.right c.requires.live c.requires.depth (sym c.in-None.ensures.is) c.find.ensures.place c.find.ensures.visits
