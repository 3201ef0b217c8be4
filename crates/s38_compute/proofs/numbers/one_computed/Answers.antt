use Rattle.s38_compute.proofs.NumberLaws.{fits_numeric}
use Rattle.s38_compute.proofs.numbers.one_computed.Goals as goal

pub has_room_for-requires-clause-source : goal.has_room_for-requires-clause-source
has_room_for-requires-clause-source c = fits_numeric c.args.a.attr c.args.a.units c.args.a.fits
