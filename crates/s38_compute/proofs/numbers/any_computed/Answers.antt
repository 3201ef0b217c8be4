use Rattle.s38_compute.proofs.NumberLaws.{fits_numeric}
use Rattle.s38_compute.proofs.numbers.any_computed.Goals as goal

pub has_room-requires-clause-first : goal.has_room-requires-clause-first
has_room-requires-clause-first c = fits_numeric c.args.a.now.attr c.args.a.now.units c.args.a.now.fits

pub has_room-requires-clause-other : goal.has_room-requires-clause-other
has_room-requires-clause-other c = fits_numeric c.args.b.now.attr c.args.b.now.units c.args.b.now.fits
