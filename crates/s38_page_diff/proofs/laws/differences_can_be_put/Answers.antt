use Rattle.s38_page_diff.proofs.LookLaws.{differences_rising, differences_objects}
use Rattle.s38_page_diff.proofs.laws.differences_can_be_put.Goals as goal

pub returns : goal.returns
returns c = record {
  rising = λ pages range wanted. differences_rising pages range wanted;
  objects = λ pages range wanted named. differences_objects pages range wanted named;
}
