use Rattle.s38_machine.proofs.FollowedLaws.{took_fits, took_kept, took_state, took_steady, took_up}
use Rattle.s38_machine.proofs.effects.take_up.Goals as goal

pub returns-clause-ok : goal.returns-clause-ok
returns-clause-ok c = took_up _ _ _ _ _ _ c.world.view_is c.in_ok-apply.ensures.ok c.follow.ensures

pub returns-clause-state : goal.returns-clause-state
returns-clause-state c = took_state _ _ _ _ _ _ c.world.view_is c.in_ok-apply.ensures.ok c.follow.ensures

pub returns-clause-kept : goal.returns-clause-kept
returns-clause-kept c = took_kept _ _ _ c.args.process c.args.event.now _ c.world.view_is c.follow.ensures c.in_ok-apply.ensures.kept

pub returns-clause-fits : goal.returns-clause-fits
returns-clause-fits c = took_fits _ _ _ c.args.process c.args.event.now _ c.world.view_is c.follow.ensures c.in_ok-apply.ensures.fits

pub returns-clause-steady : goal.returns-clause-steady
returns-clause-steady c = took_steady _ _ _ _ _ _ c.world.view_is c.in_ok-apply.ensures.ok c.follow.ensures c.requires.permit c.requires.steady
