use Rattle.s38_space_rules.proofs.FittingLaws.{fits_but}
use Rattle.s38_space_rules.proofs.laws.what_is_not_forced_fits.Goals as goal

pub returns : goal.returns
returns c = fits_but
