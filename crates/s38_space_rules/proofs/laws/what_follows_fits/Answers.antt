use Rattle.s38_space_rules.proofs.FittingLaws.{fits_after, fits_stored}
use Rattle.s38_space_rules.proofs.laws.what_follows_fits.Goals as goal

pub returns-clause-objects : goal.returns-clause-objects
returns-clause-objects c = fits_after

pub returns-clause-stored : goal.returns-clause-stored
returns-clause-stored c = fits_stored
