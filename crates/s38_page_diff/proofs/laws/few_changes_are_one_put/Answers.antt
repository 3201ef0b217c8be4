use Rattle.s38_page_diff.proofs.LookLaws.{one_put}
use Rattle.s38_page_diff.proofs.laws.few_changes_are_one_put.Goals as goal

pub returns : goal.returns
returns c = λ most m changes n few after. one_put most m changes n few after
