use Rattle.s38_page_diff.proofs.LookLaws.{differences_new}
use Rattle.s38_page_diff.proofs.laws.differences_bring_the_wanted_keys.Goals as goal

pub returns : goal.returns
returns c = λ keys pages range wanted have is. differences_new keys pages range wanted have is
