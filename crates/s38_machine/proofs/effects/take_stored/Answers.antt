use Rattle.std.proofs.Common.{◌∙◌, ap, subst}
use Rattle.s38_objects.specs.Lawful.{IsObjectMap}
use Rattle.s38_rules.specs.state.Held.{Held}
use Rattle.s38_rules.specs.state.State.{State}
use Rattle.s38_machine.proofs.StoredLaws.{fits_at, fits_stored_at, prepared_at, storable_at, stored_at}
use Rattle.s38_machine.proofs.effects.take_stored.Goals as goal

pub keep_stored-requires-clause-prepared : goal.keep_stored-requires-clause-prepared
keep_stored-requires-clause-prepared c = prepared_at c.args.world.now _ c.args.process c.args.event.now c.args.all.now c.args.spare c.in-Ok.ensures.ok c.requires.prepared

pub keep_stored-requires-clause-fits : goal.keep_stored-requires-clause-fits
keep_stored-requires-clause-fits c = fits_at c.args.world.now _ c.args.process c.args.event.now c.args.all.now c.in-Ok.ensures.ok c.requires.anew c.requires.fits

pub keep_stored-requires-clause-storable : goal.keep_stored-requires-clause-storable
keep_stored-requires-clause-storable c = storable_at c.args.world.now _ c.args.process c.args.event.now c.in-Ok.ensures.ok c.requires.permit c.requires.fits

pub returns-in-Ok-clause-ok : goal.returns-in-Ok-clause-ok
returns-in-Ok-clause-ok c = c.keep_stored.ensures ∙ stored_at c.args.world.now _ c.args.process c.args.event.now c.args.all.now c.in-Ok.ensures.ok c.requires.anew

pub returns-in-Ok-clause-fits : goal.returns-in-Ok-clause-fits
returns-in-Ok-clause-fits c =
    fits_stored_at c.args.world.now _ c.args.process c.args.event.now c.in-Ok.ensures.ok c.requires.permit
    (subst (λ (h : Held). IsObjectMap h) (ap (λ (s : State). s.held) c.world.view_is) c.len-count.ensures.lawful)
    c.requires.fits
