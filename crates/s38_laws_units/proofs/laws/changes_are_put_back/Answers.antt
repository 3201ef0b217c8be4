use Rattle.s38_laws_units.proofs.StepLaws.{all_back}
use Rattle.s38_laws_units.proofs.laws.changes_are_put_back.Goals as goal

-- src/laws.rt:43:1
pub returns : goal.returns
returns c = record { back = all_back }
