use Rattle.std.proofs.Common.{subst, sym}
use Rattle.s38_laws_images.specs.readable.Templates.{AreMade}
use Rattle.s38_top.proofs.BegunLaws.{begun_held, begun_over, begun_room, begun_vault, can_start, fits_start}
use Rattle.s38_top.proofs.stored.start_over.Goals as goal

pub start-requires-clause-fits : goal.start-requires-clause-fits
start-requires-clause-fits g c = fits_start c.args.store.room.room c.args.store.objects c.args.templates c.as_slice-2.result.now c.requires.opening c.requires.fits

pub start-requires-clause-state : goal.start-requires-clause-state
start-requires-clause-state g c = can_start c.args.store.room.room c.args.store.objects c.args.templates c.as_slice-2.result.now c.requires.opening c.requires.forms (subst AreMade (sym c.requires.checked) c.requires.made)
