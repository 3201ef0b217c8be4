use Rattle.s38_page_diff.proofs.LookLaws.{each_difference}
use Rattle.s38_page_diff.proofs.laws.each_difference_is_needed.Goals as goal

pub returns : goal.returns
returns c = λ pages range wanted. each_difference pages range wanted
