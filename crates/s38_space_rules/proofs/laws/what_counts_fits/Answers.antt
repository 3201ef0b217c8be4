use Rattle.s38_space_rules.proofs.FittingLaws.{fits_counted}
use Rattle.s38_space_rules.proofs.laws.what_counts_fits.Goals as goal

pub returns : goal.returns
returns c = fits_counted
