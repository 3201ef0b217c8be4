use Rattle.s38_page_diff.proofs.AimLaws.{aims_rising, aims_objects}
use Rattle.s38_page_diff.proofs.laws.several_aims_can_be_put.Goals as goal

pub returns : goal.returns
returns c = record {
  rising = λ pages aims order. aims_rising pages aims order;
  objects = λ pages aims named. aims_objects pages aims named;
}
