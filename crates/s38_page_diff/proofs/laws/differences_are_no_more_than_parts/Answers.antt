use Rattle.s38_page_diff.proofs.LookLaws.{differences_few}
use Rattle.s38_page_diff.proofs.laws.differences_are_no_more_than_parts.Goals as goal

pub returns : goal.returns
returns c = λ pages range wanted. differences_few pages range wanted
