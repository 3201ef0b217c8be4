use Rattle.s38_laws_units.proofs.StepLaws.{change_here}
use Rattle.s38_laws_units.proofs.laws.changes_are_written.Goals as goal

pub returns : goal.returns
returns c = record { written = change_here }
