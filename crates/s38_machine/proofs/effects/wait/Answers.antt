use Rattle.s38_machine.proofs.FollowedLaws.{joined_is, waits_fits, waits_steady}
use Rattle.s38_machine.proofs.effects.wait.Goals as goal

pub returns-clause-ok : goal.returns-clause-ok
returns-clause-ok c = joined_is _ _ _ _ c.world.view_is c.in_ok-join.ensures.ok

pub returns-clause-fits : goal.returns-clause-fits
returns-clause-fits c = waits_fits _ _ _ c.args.process c.world.view_is c.in_ok-join.ensures.ok c.requires.fits

pub returns-clause-steady : goal.returns-clause-steady
returns-clause-steady c = waits_steady _ _ _ c.args.process c.world.view_is c.in_ok-join.ensures.ok c.requires.steady
