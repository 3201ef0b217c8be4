use Rattle.s38_page_diff.proofs.LookLaws.{nothing_differs}
use Rattle.s38_page_diff.proofs.laws.what_is_there_does_not_differ.Goals as goal

pub returns : goal.returns
returns c = λ pages range wanted stands. nothing_differs pages range wanted stands
