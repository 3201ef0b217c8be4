use Rattle.s38_page_diff.proofs.AimLaws.{aims_new}
use Rattle.s38_page_diff.proofs.laws.several_aims_bring_the_wanted_keys.Goals as goal

pub returns : goal.returns
returns c = λ keys pages aims have are. aims_new keys pages aims have are
