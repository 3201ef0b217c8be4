use Rattle.s38_page_diff.proofs.AimLaws.{one_reading}
use Rattle.s38_page_diff.proofs.laws.readings_are_one_reading.Goals as goal

pub returns : goal.returns
returns c = λ keys before next aims aim have also order. one_reading keys before next aims aim have also order
